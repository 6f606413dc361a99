use Rattle.std.proofs.Common.{◌≡◌, [], map, take}
use Rattle.dk_cycle_counts.specs.Process.{use_of}
use Rattle.dk_cycle_counts.proofs.counts.all_new.Given as goal

abbrev pub invariant-loop-share : goal.invariant-loop-share
invariant-loop-share l = l.uses.items ≡ map (λ share. use_of share []) (take l.share-index l.shares)
