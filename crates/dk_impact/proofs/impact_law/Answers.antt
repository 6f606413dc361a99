use Rattle.dk_impact.proofs.Names.{◌≡◌, ◌%◌, ◌∙◌, [], ap, sym, subst, slice_index_or, period, main_level, alone, KeepsToItself, IsSameFor, world}
use Rattle.dk_impact.proofs.Joined.{joined}
use Rattle.dk_impact.proofs.impact_law.Goals as goal

pub returns : goal.returns
returns c one other programs others p p' n checked accepted checked' accepted' keeps keeps' agree sees begins =
    let program = slice_index_or programs p [] in
    let begins' : n % period other (main_level other p') ≡ 0 = ap (λ k. n % k) (sym sees.period) ∙ begins in
    let first : IsSameFor p (world one programs n) (alone one p program n) = c.alone_law.ensures one programs p n checked accepted keeps begins in
    let second : IsSameFor p' (world other others n) (alone other p' program n) =
    subst (λ code. IsSameFor p' (world other others n) (alone other p' code n)) (sym agree) (c.alone_law.ensures other others p' n checked' accepted' keeps' begins') in
    joined p p' (world one programs n) (alone one p program n) (alone other p' program n) (world other others n) first
    (c.across_law.ensures one other program p p' n checked checked' keeps (subst (KeepsToItself other p') (sym agree) keeps') sees) second
