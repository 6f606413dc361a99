use Rattle.dk_inspect.proofs.Names.{◌≡◌, ◌<◌, ◌∙◌, ℕ, ap, refl, subst, arith, rules, flat_map, IsErr, MAX_THREADS, below, Writes, line_at}
use Rattle.dk_inspect.proofs.Pieces.{none_written, next_written, next_failed, written_as}
use Rattle.dk_inspect.proofs.Lines.{few-shown, nine-places}
use Rattle.dk_inspect.proofs.threads.write_process.Goals as goal

pub loop-place-init : goal.loop-place-init
loop-place-init g c = none_written (line_at c.args.kernel.now c.args.process) (g.S.Sink.seen c.args.sink.now)

pub returns-in_err-write_thread : goal.returns-in_err-write_thread
returns-in_err-write_thread g c =
    let lines = line_at c.args.kernel.now c.args.process in
    let end : ℕ = MAX_THREADS in
    let few = few-shown c.args.kernel.now c.dispatcher.result.now.past c.args.process c.dispatcher.ensures.config c.dispatcher.ensures.entries c.rows_are_few.ensures c.requires.known in
    let all = nine-places c.args.kernel.now c.args.process few in
    let within : c.loop-place.place < end = omega (arith, c.loop-place-test.true) in
    let fails : IsErr c.from_residual.result = search rules in
    subst (λ t. Writes (g.S.Sink.seen c.args.sink.now) (g.S.Sink.seen c.write_thread.new.sink) c.from_residual.result t) all
    (next_failed lines (g.S.Sink.seen c.args.sink.now) (g.S.Sink.seen c.loop-place.sink) (g.S.Sink.seen c.write_thread.new.sink) c.loop-place.place end _ c.from_residual.result
    (line_at c.args.kernel.now c.args.process c.loop-place.place) refl within fails c.loop-place.invariant c.in_err-write_thread.ensures)

pub loop-place-preserved : goal.loop-place-preserved
loop-place-preserved g c =
    next_written (line_at c.args.kernel.now c.args.process) (g.S.Sink.seen c.args.sink.now) (g.S.Sink.seen c.loop-place.sink) (g.S.Sink.seen c.write_thread.new.sink) c.loop-place.place _
    (line_at c.args.kernel.now c.args.process c.loop-place.place) refl c.loop-place.invariant c.in_ok-write_thread.ensures

pub returns : goal.returns
returns g c =
    let lines = line_at c.args.kernel.now c.args.process in
    let end : ℕ = MAX_THREADS in
    let few = few-shown c.args.kernel.now c.dispatcher.result.now.past c.args.process c.dispatcher.ensures.config c.dispatcher.ensures.entries c.rows_are_few.ensures c.requires.known in
    let all = nine-places c.args.kernel.now c.args.process few in
    let last : c.loop-place.place ≡ end = omega (arith, c.loop-place-test.false, c.loop-place.auto.place-end) in
    written_as (g.S.Sink.seen c.args.sink.now) (g.S.Sink.seen c.loop-place.sink) _ (flat_map lines (below c.loop-place.place)) _ (ap (λ m. flat_map lines (below m)) last ∙ all)
    c.loop-place.invariant
