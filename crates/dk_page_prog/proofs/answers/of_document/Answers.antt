use Rattle.std.proofs.Common.{refl}
use Rattle.dk_page_prog.proofs.answers.of_document.Goals as goal

pub returns-in-Ok-clause-is : goal.returns-in-Ok-clause-is
returns-in-Ok-clause-is c =
    record { review = c.in-Ok.review; is = c.in-Ok.ensures; bytes = refl; ends = c.ended_of.ensures }
