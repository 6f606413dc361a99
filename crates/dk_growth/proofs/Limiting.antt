-- What stands in the way of one percent more.
use Rattle.std.proofs.Common.{◌≡◌, sym, ℕ, ◌+◌}
use Rattle.std.specs.Prelude.{All, Option, None, Some}
use Rattle.dk_config.specs.Configuration.{Configuration}
use Rattle.dk_config.specs.Certification.{first_failing}
use Rattle.dk_growth.specs.Growth.{LimitsGrowth, StaysInRange, grown}

pub limits : (c : Configuration) (most : ℕ) (answer : Option ℕ) → All (StaysInRange (most + 1)) c.processes → answer ≡ first_failing (grown c (most + 1)) → LimitsGrowth c most answer
limits c most None stay is = λ all. sym is
limits c most (Some level) stay is = (stay, sym is)
