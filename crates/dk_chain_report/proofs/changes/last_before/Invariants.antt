use Rattle.std.specs.Prelude.{◌≡◌, ◌<◌, IfSome}
use Rattle.dk_chain_report.specs.Changes.{last_before}
use Rattle.dk_chain_report.proofs.changes.last_before.Given as goal

-- it is the last of those so far
abbrev pub invariant-loop-other : goal.invariant-loop-other
invariant-loop-other l = (l.last ≡ last_before l.config l.level l.other) × IfSome l.last (λ q. q < l.other)
