use Rattle.std.proofs.Common.{◌≡◌, ◌++◌, drop, flat_map}
use Rattle.show_ledger.specs.Overruns.{overrun_told}
use Rattle.show_ledger.proofs.overruns.add_overruns.Given as goal

-- the lines so far, before those that are left
abbrev pub invariant-loop-overrun : goal.invariant-loop-overrun
invariant-loop-overrun l =
    l.out.items ++ flat_map (overrun_told l.header) (drop l.overrun-index l.overruns)
    ≡ l.initial.out.items ++ flat_map (overrun_told l.header) l.overruns
