use Rattle.dk_inspect.proofs.Names.{[], subst, Some, None, Writes}
use Rattle.dk_inspect.proofs.Lines.{line-told}
use Rattle.dk_inspect.proofs.Pieces.{none_written, written_as}
use Rattle.dk_inspect.proofs.threads.write_thread.Goals as goal

pub returns-in-Some : goal.returns-in-Some
returns-in-Some g c =
    let line = line-told c.args.kernel.now c.args.process c.args.place (Some c.in-Some.text) c.in-Some.ensures.text in
    subst (λ t. Writes (g.S.Sink.seen c.args.sink.now) (g.S.Sink.seen c.write_to.new.sink) c.write_to.result t) line c.write_to.ensures

pub returns-in-None : goal.returns-in-None
returns-in-None g c =
    let line = line-told c.args.kernel.now c.args.process c.args.place None c.in-None.ensures.text in
    written_as (g.S.Sink.seen c.args.sink.now) (g.S.Sink.seen c.args.sink.now) _ [] _ line (none_written (λ i. []) (g.S.Sink.seen c.args.sink.now))
