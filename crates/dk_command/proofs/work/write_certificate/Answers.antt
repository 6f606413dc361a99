use Rattle.dk_command.proofs.Names.{refl, rules, codes, IsErr, Ok, header_text}
use Rattle.dk_command.proofs.WritingLemmas.{goes_on, stopped}
use Rattle.dk_command.proofs.work.write_certificate.Goals as goal

pub returns : goal.returns
returns g c =
    goes_on (g.S.Sink.seen c.args.sink.now) (g.S.Sink.seen c.write_heading.new.sink) (g.S.Sink.seen c.write_piece.new.sink) (Ok tt) c.write_piece.result
    (header_text c.args.header.now) (codes "certified\n") refl c.in_ok-write_heading.ensures c.write_piece.ensures

pub returns-in_err-write_heading : goal.returns-in_err-write_heading
returns-in_err-write_heading g c =
    let failed : IsErr c.write_heading.result = search rules in
    stopped (g.S.Sink.seen c.args.sink.now) (g.S.Sink.seen c.write_heading.new.sink) c.write_heading.result c.from_residual.result
    (header_text c.args.header.now) (codes "certified\n") failed c.from_residual.ensures.0 c.write_heading.ensures
