-- What a level can need at most.
use Rattle.std.proofs.Common.{◌≤◌, ◌+◌, ◌*◌, ◌/◌, ℕ, arith}
use Rattle.std.proofs.Math.Nat.{div-le_self, mul-le-mul}
use Rattle.dk_config.specs.declared.TheConstants.{MAX_PROCESSES, MAX_SPAN}
use Rattle.dk_certify.specs.Bounds.{most_work}

-- what a level needs in a window at least as long as one of its own
pub work_bounded : (each window period : ℕ) → each ≤ (MAX_PROCESSES + 1) * MAX_SPAN → window ≤ MAX_SPAN → each * (window / period) ≤ most_work
work_bounded each window period few short =
    let times : window / period ≤ MAX_SPAN = let le = div-le_self window period in omega (arith, le) in
    let product = mul-le-mul few times in
    omega (arith, product)
