use Rattle.dk_dispatch.proofs.Names.{◌≡◌, ◌+◌, ◌≤◌, future_shares, by_level}
use Rattle.dk_dispatch.proofs.Losing.{less_until}
use Rattle.dk_dispatch.proofs.process.lose_shares.Given as goal

abbrev pub invariant-loop-level : goal.invariant-loop-level
invariant-loop-level g l = record {
  cells : l.demand ≡ record l.fn.demand { remaining = by_level (less_until (future_shares l.loans l.fn.demand.windows l.process) l.level) l.fn.demand.remaining };
  steps : l.steps ≤ l.fn.steps + l.level;
}
