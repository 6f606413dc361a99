use Rattle.std.proofs.Common.{◌≡◌, ◌++◌, List, flat_map}
use Rattle.dk_config.specs.Sums.{below}
use Rattle.dk_trace.specs.declared.Entry.{Entry}
use Rattle.dk_holds.specs.Holds.{AreHolders, holding}
use Rattle.dk_hold_spans.specs.HoldLists.{part_from}
use Rattle.dk_hold_spans.proofs.listing.push_open.Given as goal

-- the mutexes so far are added
abbrev pub invariant-loop-mutex : goal.invariant-loop-mutex
invariant-loop-mutex l =
    (past : List Entry) → AreHolders past l.holders → l.holds.items ≡ l.initial.holds.items ++ flat_map (λ m. part_from l.from m l.end (holding m past)) (below l.mutex)
