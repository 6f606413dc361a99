-- Lines that are added to a text one by one.
use Rattle.std.proofs.Common.{◌≡◌, ◌∙◌, ◌+◌, ◌++◌, ℕ, suc, List, refl, ap, subst, arith, append_assoc}
use Rattle.show_rows.specs.Lines.{AddsLine, AddsLines}

-- the next line was added
pub one_more : (IsLine : ℕ → List ℕ → Type 0) (n : ℕ) (old between new : List ℕ) → AddsLines IsLine n old between → AddsLine (IsLine n) between new
    → AddsLines IsLine (n + 1) old new
one_more IsLine n old between new so_far next =
    let more : suc n ≡ n + 1 = omega arith in
    subst (λ k. AddsLines IsLine k old new) more
    (record {
      lines = so_far.lines ++ next.line;
      are = (so_far.lines, next.line, so_far.are, next.is, refl);
      added = next.added ∙ (ap (λ t. t ++ next.line) so_far.added ∙ append_assoc old so_far.lines next.line);
    })
