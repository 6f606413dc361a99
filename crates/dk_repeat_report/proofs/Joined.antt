-- Parts that are added to a text one after another.
use Rattle.std.proofs.Common.{ℕ, ◌≡◌, ◌∙◌, ◌++◌, List, ap, append_assoc}

pub joined : (a n b w u r s0 s1 s2 s3 s4 : List ℕ) → s0 ≡ a ++ n → s1 ≡ s0 ++ b → s2 ≡ s1 ++ w → s3 ≡ s2 ++ u → s4 ≡ s3 ++ r
    → s4 ≡ a ++ (n ++ (b ++ (w ++ (u ++ r))))
joined a n b w u r s0 s1 s2 s3 s4 first second third fourth last =
    last ∙ ap (λ t. t ++ r) (fourth ∙ ap (λ t. t ++ u) (third ∙ ap (λ t. t ++ w) (second ∙ ap (λ t. t ++ b) first)))
    ∙ append_assoc (((a ++ n) ++ b) ++ w) u r ∙ append_assoc ((a ++ n) ++ b) w (u ++ r) ∙ append_assoc (a ++ n) b (w ++ (u ++ r))
    ∙ append_assoc a n (b ++ (w ++ (u ++ r)))
