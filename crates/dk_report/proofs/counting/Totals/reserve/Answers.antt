use Rattle.std.proofs.Common.{◌≡◌, ◌∙◌, rules}
use Rattle.std.specs.Prelude.{replicate}
use Rattle.dk_report.specs.Counts.{no_totals}
use Rattle.dk_report.proofs.CountLemmas.{start_stands}
use Rattle.dk_report.proofs.SumLemmas.{no_sums}
use Rattle.dk_report.proofs.counting.Totals.reserve.Goals as goal

pub returns-clause-start : goal.returns-clause-start
returns-clause-start c =
    let levels : c.in_ok-levels.levels.items ≡ replicate c.args.levels 0 = search rules in
    let processes : c.in_ok-processes.processes.items ≡ replicate c.args.processes no_totals = search rules in
    no_sums c.in_ok-levels.levels.items c.in_ok-processes.processes.items c.args.levels c.args.processes levels processes
    ∙ start_stands c.in_ok-levels.levels.items c.in_ok-processes.processes.items c.args.levels c.args.processes levels processes
