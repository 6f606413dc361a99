use Rattle.std.proofs.Common.{◌∙◌, sym}
use Rattle.dk_cycle_counts.proofs.Beginnings.{unpaid-begins}
use Rattle.dk_cycle_counts.proofs.begins.BeginTicks.gone_by.Goals as goal

pub returns : goal.returns
returns c =
    sym (unpaid-begins c.args.label c.args.ticks c.args.count c.args.row.now c.args.self (sym c.is_paid_by.ensures ∙ c.if-is_paid_by.false))
