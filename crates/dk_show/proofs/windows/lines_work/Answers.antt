use Rattle.dk_show.proofs.Names.{◌∙◌, ap, sound_end}
use Rattle.dk_show.proofs.windows.lines_work.Goals as goal

pub returns-clause-comes : goal.returns-clause-comes
returns-clause-comes c = λ past is text has.
    (has ∙ c.in_ok-lines.ensures past is, c.sound_end-ended.ensures.is ∙ ap sound_end (c.is_sound.ensures past is))
