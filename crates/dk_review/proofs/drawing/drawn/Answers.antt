use Rattle.std.proofs.Common.{◌∙◌}
use Rattle.dk_review.proofs.drawing.drawn.Goals as goal

pub returns-in-Ok : goal.returns-in-Ok
returns-in-Ok c = λ j shown. c.text_bytes.ensures ∙ (c.in-Ok.ensures.drawn j shown).0

pub returns-in-Err-TooMany : goal.returns-in-Err-TooMany
returns-in-Err-TooMany c = λ j shown. c.picture.ensures.too_many c.in-Err-TooMany.tick (cc) j shown
