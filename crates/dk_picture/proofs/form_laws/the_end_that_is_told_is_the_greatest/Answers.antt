use Rattle.dk_picture.proofs.Names.{refl}
use Rattle.dk_picture.proofs.Ends.{greatest_end}
use Rattle.dk_picture.proofs.form_laws.the_end_that_is_told_is_the_greatest.Goals as goal

pub returns-clause-most : goal.returns-clause-most
returns-clause-most c = refl

pub returns-clause-greatest : goal.returns-clause-greatest
returns-clause-greatest c = greatest_end
