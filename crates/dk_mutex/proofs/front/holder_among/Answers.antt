use Rattle.std.proofs.Common.{◌∙◌, sym}
use Rattle.dk_mutex.proofs.Unheld.{none-there}
use Rattle.dk_mutex.proofs.front.holder_among.Goals as goal

pub returns-then-not-is_any_held_at : goal.returns-then-not-is_any_held_at
returns-then-not-is_any_held_at c =
    sym (none-there c.args.level c.args.rows.now (sym c.is_any_held_at.ensures ∙ c.if-not-is_any_held_at.true))
