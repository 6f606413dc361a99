use Rattle.std.proofs.Common.{sym, subst}
use Rattle.dk_needs_text.specs.Csv.{IsPlain}
use Rattle.dk_needs_text.proofs.Plain.{id_is_plain}
use Rattle.dk_needs_text.proofs.table.need_record.Goals as goal

pub record_of-requires-clause-id : goal.record_of-requires-clause-id
record_of-requires-clause-id c = subst IsPlain (sym c.as_str.ensures) (id_is_plain c.args.need.now.id c.requires.fit.id)
