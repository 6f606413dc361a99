use Rattle.std.proofs.Common.{◌≡◌, ◌++◌, drop, flat_map, string_bytes}
use Rattle.dk_table.specs.Records.{behind_comma, number_field}
use Rattle.dk_table.proofs.record.add_numbers.Given as goal

-- the numbers so far, before those that are left
abbrev pub invariant-loop-number : goal.invariant-loop-number
invariant-loop-number l =
    string_bytes l.text ++ flat_map (λ n. behind_comma (number_field n)) (drop l.number-index l.numbers)
    ≡ string_bytes l.initial.text ++ flat_map (λ n. behind_comma (number_field n)) l.numbers
