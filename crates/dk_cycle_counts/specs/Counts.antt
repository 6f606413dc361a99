-- What is counted of some ticks.
use Rattle.std.specs.Prelude.{◌≡◌, List, length, map}
use Rattle.dk_trace.specs.declared.Entry.{Entry}
use Rattle.dk_cycle_counts.specs.declared.process.MainShare.{MainShare}
use Rattle.dk_cycle_counts.specs.declared.counts.CycleCounts.{CycleCounts}
use Rattle.dk_cycle_counts.specs.Process.{use_of}
use Rattle.dk_cycle_counts.specs.Totals.{totals_of}

-- this is counted of the ticks with these entries, of which the newest comes first
pub record AreCountsOf (shares : List MainShare) (es : List Entry) (k : CycleCounts) : Type 0 where
  pub ticks : k.ticks ≡ length es
  pub totals : k.totals ≡ totals_of es
  pub processes : k.processes.items ≡ map (λ share. use_of share es) shares
