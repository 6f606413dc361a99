use Rattle.std.proofs.Common.{◌≡◌, ◌++◌, None, drop, map}
use Rattle.std.specs.Prelude.{option_map}
use Rattle.show_rows.specs.Rows.{cell_text, filled, names}
use Rattle.show_rows.proofs.pattern.add_filled.Given as goal

-- what was added, before what the bytes that are left stand for
abbrev pub invariant-loop-byte : goal.invariant-loop-byte
invariant-loop-byte l =
    l.out.items ++ filled (names l.columns) (map cell_text l.cells) (option_map (λ name. name.items) l.hole) (drop l.byte-index l.byte-items)
    ≡ l.initial.out.items ++ filled (names l.columns) (map cell_text l.cells) None l.byte-items
