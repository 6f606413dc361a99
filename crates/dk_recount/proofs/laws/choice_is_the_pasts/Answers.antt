use Rattle.dk_recount.proofs.Choosing.{chooses}
use Rattle.dk_recount.proofs.laws.choice_is_the_pasts.Goals as goal

pub returns : goal.returns
returns c = λ k past d ready families.
    chooses c.choosing_laws.ensures k past d ready families
