use Rattle.dk_command.proofs.Names.{refl, rules, IsErr, Ok, header_text, numbers_text}
use Rattle.dk_command.proofs.WritingLemmas.{goes_on, stopped}
use Rattle.dk_command.proofs.work.write_report.Goals as goal

pub returns : goal.returns
returns g c =
    goes_on (g.S.Sink.seen c.args.sink.now) (g.S.Sink.seen c.write_heading.new.sink) (g.S.Sink.seen c.write_totals.new.sink) (Ok tt) c.write_totals.result
    (header_text c.args.header.now) (numbers_text c.args.header.now c.args.totals.now) refl c.in_ok-write_heading.ensures c.write_totals.ensures

pub returns-in_err-write_heading : goal.returns-in_err-write_heading
returns-in_err-write_heading g c =
    let failed : IsErr c.write_heading.result = search rules in
    stopped (g.S.Sink.seen c.args.sink.now) (g.S.Sink.seen c.write_heading.new.sink) c.write_heading.result c.from_residual.result
    (header_text c.args.header.now) (numbers_text c.args.header.now c.args.totals.now) failed c.from_residual.ensures.0 c.write_heading.ensures
