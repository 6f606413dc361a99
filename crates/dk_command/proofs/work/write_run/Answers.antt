use Rattle.dk_command.proofs.Names.{refl, rules, IsErr, Ok, header_text, entries_text, workload_of}
use Rattle.dk_command.proofs.RunLemmas.{header_cut}
use Rattle.dk_command.proofs.WritingLemmas.{goes_on}
use Rattle.dk_command.proofs.work.write_run.Goals as goal

pub returns-in_err-write_heading : goal.returns-in_err-write_heading
returns-in_err-write_heading g c =
    let failed : IsErr c.write_heading.result = search rules in
    header_cut c.args.header.now (workload_of c.args.kernel.now) c.args.ticks (g.S.Sink.seen c.args.sink.now) (g.S.Sink.seen c.write_heading.new.sink)
    c.write_heading.result c.from_residual.result failed c.from_residual.ensures.0 c.write_heading.ensures

pub returns : goal.returns
returns g c =
    let (es, entries, wrote) = c.write_entries.ensures in (
      es,
      entries,
      goes_on (g.S.Sink.seen c.args.sink.now) (g.S.Sink.seen c.write_heading.new.sink) (g.S.Sink.seen c.write_entries.new.sink) (Ok tt) c.write_entries.result
          (header_text c.args.header.now) (entries_text c.args.header.now es) refl c.in_ok-write_heading.ensures wrote,
    )
