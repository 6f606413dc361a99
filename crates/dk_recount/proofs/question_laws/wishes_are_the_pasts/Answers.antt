use Rattle.dk_recount.specs.Needed.{ChoosingLaws as Laws}
use Rattle.dk_recount.proofs.Told.{want-told, entering-told}
use Rattle.dk_recount.proofs.question_laws.wishes_are_the_pasts.Goals as goal

pub returns : goal.returns
returns c =
    let laws : Laws = c.choosing_laws.ensures in
    record {
      amount = λ k past d id x ready families among is there. want-told laws k past d ready families c.wishes_are_the_pasts.ensures.amount c.wishes_are_the_pasts.ensures.nothing id x among is there;
      switch = λ k past d id x ready families among is some. entering-told laws k past d ready families id x among is some;
    }
