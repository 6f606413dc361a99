-- Lines that are added to a text one by one.
use Rattle.std.proofs.Common.{◌≡◌, ◌∙◌, ◌+◌, ◌++◌, ℕ, suc, List, [], refl, ap, subst, arith, append_assoc}
use Rattle.dk_config_report.specs.Pages.{AddsLines}

-- the next line was added
pub one_added : (IsLine : ℕ → List ℕ → Type 0) (n : ℕ) (old between new line : List ℕ) → IsLine n line → new ≡ between ++ line
    → AddsLines IsLine n old between → AddsLines IsLine (n + 1) old new
one_added IsLine n old between new line is more so_far =
    let next : suc n ≡ n + 1 = omega arith in
    subst (λ k. AddsLines IsLine k old new) next
    (record {
      lines = so_far.lines ++ line;
      are = (so_far.lines, line, so_far.are, is, refl);
      added = more ∙ (ap (λ t. t ++ line) so_far.added ∙ append_assoc old so_far.lines line);
    })

-- five texts that are added to none, one after the other
pub five_added : (a b c d e t0 t1 t2 t3 t4 t5 : List ℕ) → t0 ≡ [] → t1 ≡ t0 ++ a → t2 ≡ t1 ++ b → t3 ≡ t2 ++ c → t4 ≡ t3 ++ d → t5 ≡ t4 ++ e
    → t5 ≡ a ++ (b ++ (c ++ (d ++ e)))
five_added a b c d e t0 t1 t2 t3 t4 t5 none is1 is2 is3 is4 is5 =
    let first : t1 ≡ a = is1 ∙ ap (λ t. t ++ a) none in
    is5 ∙ ap (λ t. t ++ e) (is4 ∙ ap (λ t. t ++ d) (is3 ∙ ap (λ t. t ++ c) (is2 ∙ ap (λ t. t ++ b) first)))
    ∙ append_assoc ((a ++ b) ++ c) d e ∙ append_assoc (a ++ b) c (d ++ e) ∙ append_assoc a b (c ++ (d ++ e))
