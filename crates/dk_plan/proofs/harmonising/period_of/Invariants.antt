use Rattle.dk_plan.proofs.Names.{ℕ, ◌≡◌, ◌*◌, ◌^◌, ◌≤◌, ◌-◌}
use Rattle.dk_plan.proofs.harmonising.period_of.Given as goal

abbrev pub invariant-loop-got : goal.invariant-loop-got
invariant-loop-got l = record { doubled : (k : ℕ) × (l.got ≡ l.base * 2 ^ k); some : 1 ≤ l.got; fits : l.got ≤ l.period }

abbrev pub decreases-loop-got : goal.decreases-loop-got
decreases-loop-got l = l.period - l.got
