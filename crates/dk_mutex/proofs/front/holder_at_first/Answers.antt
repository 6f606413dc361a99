use Rattle.std.proofs.Common.{◌∙◌, sym}
use Rattle.dk_mutex.proofs.Firsts.{first-alone}
use Rattle.dk_mutex.proofs.front.holder_at_first.Goals as goal

pub returns-else-is_any_other_at : goal.returns-else-is_any_other_at
returns-else-is_any_other_at c =
    sym (first-alone c.args.first.thread c.args.first.ceiling c.args.rows.now (sym c.is_any_other_at.ensures ∙ c.if-is_any_other_at.false)
    c.requires.before c.requires.by)
