use Rattle.std.proofs.Common.{◌≡◌, ◌++◌, drop, flat_map}
use Rattle.show_ledger.specs.Notes.{troubles_told}
use Rattle.show_ledger.proofs.notes.add_troubles.Given as goal

-- the lines so far, before those that are left
abbrev pub invariant-loop-account : goal.invariant-loop-account
invariant-loop-account l =
    l.out.items ++ flat_map (troubles_told l.header) (drop l.account-index l.accounts)
    ≡ l.initial.out.items ++ flat_map (troubles_told l.header) l.accounts
