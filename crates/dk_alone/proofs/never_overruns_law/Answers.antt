use Rattle.dk_alone.proofs.Names.{not, ◌∙◌, sym, overruns, window_from, own_window}
use Rattle.dk_alone.proofs.Overruns.{own-overruns, not-true, not-false}
use Rattle.dk_alone.proofs.never_overruns_law.Goals as goal

pub returns : goal.returns
returns c config programs others p s k checked accepted keeps agree again first tick begins =
    own-overruns p (window_from config others p tick)
    ∙ not-true (overruns p (own_window config others p tick))
    (c.first_windows_law.ensures config programs others p s k (λ window. not (overruns p window)) checked accepted keeps agree again
    (λ t start early. not-false (overruns p (own_window config programs p t)) (sym (own-overruns p (window_from config programs p t)) ∙ first t start early)) tick begins)
