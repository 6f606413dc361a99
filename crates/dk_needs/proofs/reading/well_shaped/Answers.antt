use Rattle.std.proofs.Common.{◌∙◌, ap}
use Rattle.dk_needs.specs.Reading.{answer_of, named_apart, refusal}
use Rattle.dk_needs.proofs.reading.well_shaped.Goals as goal

pub returns : goal.returns
returns c _ =
    c.answer_of.ensures ∙ ap (λ fs. answer_of c.in_ok-needs.needs (refusal fs)) c.in_ok-found.ensures
    ∙ ap named_apart c.in_ok-needs.ensures
