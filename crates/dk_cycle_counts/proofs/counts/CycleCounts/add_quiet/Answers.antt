use Rattle.std.proofs.Common.{◌+◌, refl, arith}
use Rattle.dk_cycle_counts.proofs.Steps.{counts-gone}
use Rattle.dk_cycle_counts.proofs.counts.CycleCounts.add_quiet.Goals as goal

pub returns-clause-counts : goal.returns-clause-counts
returns-clause-counts c = λ shares es is.
    let old = c.args.self.now in
    let room = c.requires in
    counts-gone old (record { ticks = old.ticks + c.args.count; totals = c.add.new.self; processes = c.all_gone_by.new.processes }) shares c.args.label c.args.count es
    c.row_law.ensures.go_by (omega (arith, room)) is refl c.add.ensures c.all_gone_by.ensures
