use Rattle.std.proofs.Common.{◌+◌, ◌-◌, ◌%◌, ap, ℕ}
use Rattle.dk_windows.proofs.Moving.{period-same}
use Rattle.dk_windows.proofs.laws.windows_are_the_configurations.Goals as goal

pub returns-clause-starts : goal.returns-clause-starts
returns-clause-starts c = λ k tick level. ap (λ (p : ℕ). tick - tick % p) (period-same k.levels level)

pub returns-clause-ends : goal.returns-clause-ends
returns-clause-ends c = λ k tick level. ap (λ (p : ℕ). (tick - tick % p) + p) (period-same k.levels level)
