-- Changes that are listed one by one.
use Rattle.std.proofs.Common.{ℕ, suc, ◌≡◌, ◌∙◌, ◌+◌, ◌++◌, List, ap, subst, arith, append_assoc}
use Rattle.dk_config.specs.Configuration.{Configuration}
use Rattle.dk_impact.specs.declared.change.Change.{Change}
use Rattle.dk_impact.specs.Changes.{listed, mutex_change, mutexes_below}

-- that of the next mutex was added
pub one_more : (c : Configuration) (p : ℕ) (c' : Configuration) (p' n : ℕ) (old between new : List Change) → between ≡ old ++ mutexes_below c p c' p' n
    → new ≡ between ++ listed (mutex_change c p c' p' n) → new ≡ old ++ mutexes_below c p c' p' (n + 1)
one_more c p c' p' n old between new so_far next =
    let more : suc n ≡ n + 1 = omega arith in
    let one = listed (mutex_change c p c' p' n) in
    subst (λ k. new ≡ old ++ mutexes_below c p c' p' k) more (next ∙ (ap (λ t. t ++ one) so_far ∙ append_assoc old (mutexes_below c p c' p' n) one))
