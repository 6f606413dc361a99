use Rattle.std.proofs.Common.{◌≡◌, ◌++◌, drop, flat_map}
use Rattle.show_ledger.specs.Notes.{overran_told}
use Rattle.show_ledger.proofs.notes.add_overrans.Given as goal

-- the lines so far, before those that are left
abbrev pub invariant-loop-row : goal.invariant-loop-row
invariant-loop-row l =
    l.out.items ++ flat_map (overran_told l.sentence l.sparing l.header l.accounts) (drop l.row-index l.rows)
    ≡ l.initial.out.items ++ flat_map (overran_told l.sentence l.sparing l.header l.accounts) l.rows
