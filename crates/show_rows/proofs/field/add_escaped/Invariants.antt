use Rattle.std.proofs.Common.{◌≡◌, ◌++◌, drop}
use Rattle.csv.specs.Writing.{default_writer, escaped}
use Rattle.show_rows.proofs.field.add_escaped.Given as goal

-- the bytes so far, before those of the field that are left
abbrev pub invariant-loop-byte : goal.invariant-loop-byte
invariant-loop-byte l =
    l.out.items ++ escaped default_writer (drop l.byte-index l.field) ≡ l.initial.out.items ++ escaped default_writer l.field
