-- Tests that pass because of what is known of a number or a name.
use Rattle.std.proofs.Common.{◌≡◌, ◌<◌, ◌≤◌, ℕ, false, eqb, arith}
use Rattle.std.proofs.lemmas.Bool.Decides.{nat_tests}
use Rattle.dk_config.specs.Tests.{outside}

pub is_inside : (low high n : ℕ) → low ≤ n → n ≤ high → outside low high n ≡ false
is_inside low high n above below = grind (arith, nat_tests)

pub not_same : (a b : ℕ) → b < a → eqb a b ≡ false
not_same a b h = grind (arith, nat_tests)
