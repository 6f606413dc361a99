use Rattle.dk_threads.proofs.Names.{◌≡◌, ℕ, arith, length, ap, sym, subst, Configuration, AreFamilies}
use Rattle.dk_threads.proofs.Families.{AreFamilies-first}
use Rattle.dk_threads.proofs.threads.Threads.reserve.Goals as goal

pub invariant_of-result : goal.invariant_of-result
invariant_of-result c =
    let config = c.args.config.now in
    let same : length c.config.inside.levels.items ≡ length config.levels = ap (λ (k : Configuration). length k.levels) c.config.view_is in
    let levels : c.len.result ≡ length config.levels = omega arith in
    subst (λ (n : ℕ). AreFamilies n c.in_ok-families.families.items) (sym levels)
    (subst (AreFamilies (length config.levels)) (sym c.in_ok-families.ensures) (AreFamilies-first config c.requires.limits))
