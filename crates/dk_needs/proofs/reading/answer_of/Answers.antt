use Rattle.std.proofs.Common.{◌∙◌, ap, sym}
use Rattle.dk_needs.specs.Reading.{answer_of}
use Rattle.dk_needs.proofs.reading.answer_of.Goals as goal

pub returns-in-Some : goal.returns-in-Some
returns-in-Some c = ap (answer_of c.args.needs) (sym c.in-Some.is ∙ c.refusal.ensures)

pub returns-in-None : goal.returns-in-None
returns-in-None c = ap (answer_of c.args.needs) (sym c.in-None.is ∙ c.refusal.ensures)
