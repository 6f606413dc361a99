use Rattle.dk_impact.proofs.Names.{◌*◌, ◌∙◌, sym, subst, mul-mod_left, period, main_level, KeepsToItself, GivesNoLess}
use Rattle.dk_impact.proofs.for_ever_law.Goals as goal

pub returns : goal.returns
returns c one other p p' program checked accepted checked' accepted' keeps keeps' given always =
    let P = period one (main_level one p) in
    record {
      same = λ programs others k mine theirs.
          c.greater_budget_law.ensures one other programs others p p' k checked accepted checked' accepted'
          (subst (KeepsToItself one p) (sym mine) keeps) (subst (KeepsToItself other p') (sym theirs) keeps') (mine ∙ sym theirs)
          (subst (GivesNoLess one p other p') (sym mine) given) (λ j less. always.enough programs (j * P) mine (mul-mod_left j P));
      windows = λ programs others k mine theirs.
          c.windows_with_more_law.ensures one other programs others p p' k checked accepted checked' accepted'
          (subst (KeepsToItself one p) (sym mine) keeps) (subst (KeepsToItself other p') (sym theirs) keeps') (mine ∙ sym theirs)
          (subst (GivesNoLess one p other p') (sym mine) given) (λ j less. always.enough programs (j * P) mine (mul-mod_left j P));
    }
