use Rattle.std.proofs.Common.{sym, subst}
use Rattle.dk_needs_text.specs.Csv.{IsPlain}
use Rattle.dk_needs_text.proofs.Plain.{name_at_plain}
use Rattle.dk_needs_text.proofs.forever.name_at.Goals as goal

pub returns-clause-plain : goal.returns-clause-plain
returns-clause-plain c are = subst IsPlain (sym c.text_at.ensures) (name_at_plain c.args.names.now c.args.process are)
