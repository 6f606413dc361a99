use Rattle.dk_impact.proofs.Names.{◌≡◌, ◌*◌, true, [], sym, subst, slice_index_or, mul-mod_left, period, main_level, alone, KeepsToItself, IsSameFor, world, has_enough}
use Rattle.dk_impact.proofs.Joined.{joined}
use Rattle.dk_impact.proofs.Greater.{ends-window}
use Rattle.dk_impact.proofs.greater_budget_law.Goals as goal

pub returns : goal.returns
returns c one other programs others p p' k checked accepted checked' accepted' keeps keeps' agree given enough =
    let program = slice_index_or programs p [] in
    let P = period one (main_level one p) in
    let P' = period other (main_level other p') in
    let second : IsSameFor p' (world other others (k * P')) (alone other p' program (k * P')) =
    subst (λ code. IsSameFor p' (world other others (k * P')) (alone other p' code (k * P'))) (sym agree)
    (c.alone_law.ensures other others p' (k * P') checked' accepted' keeps' (mul-mod_left k P')) in
    joined p p' (world one programs (k * P)) (alone one p program (k * P)) (alone other p' program (k * P')) (world other others (k * P'))
    (c.alone_law.ensures one programs p (k * P) checked accepted keeps (mul-mod_left k P))
    (c.alone_with_more_law.ensures one other program p p' k checked accepted checked' accepted' keeps (subst (KeepsToItself other p') (sym agree) keeps') given
    (λ j less.
    subst (λ es. has_enough p es ≡ true)
    (c.windows_law.ensures one programs p (j * P) P checked accepted keeps (mul-mod_left j P) (ends-window j P))
    (enough j less)))
    second
