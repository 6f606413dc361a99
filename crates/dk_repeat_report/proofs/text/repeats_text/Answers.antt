use Rattle.std.proofs.Common.{string_bytes}
use Rattle.dk_repeat_report.proofs.Told.{tells}
use Rattle.dk_repeat_report.proofs.text.repeats_text.Goals as goal

pub returns-in-Ok-clause-tells : goal.returns-in-Ok-clause-tells
returns-in-Ok-clause-tells c =
    tells c.args.names.now c.args.ticks c.args.run.now c.args.counts.now c.args.own.now (string_bytes c.in-Ok.text) c.told_law.ensures.run c.told_law.ensures.own
    c.cycles_law.ensures c.own_cycles_law.ensures c.in-Ok.ensures
