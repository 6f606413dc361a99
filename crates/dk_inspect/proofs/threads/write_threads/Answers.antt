use Rattle.dk_inspect.proofs.Names.{◌≡◌, ◌<◌, ◌∙◌, ℕ, length, ap, refl, subst, arith, rules, flat_map, IsErr, below, Writes, process_lines}
use Rattle.dk_inspect.specs.Printing.{all_lines}
use Rattle.dk_inspect.proofs.Pieces.{none_written, next_written, next_failed, written_as}
use Rattle.dk_inspect.proofs.Lines.{lines-of-header}
use Rattle.dk_inspect.proofs.threads.write_threads.Goals as goal

pub loop-process-init : goal.loop-process-init
loop-process-init g c = none_written (process_lines c.args.kernel.now) (g.S.Sink.seen c.args.sink.now)

pub returns-in_err-write_process : goal.returns-in_err-write_process
unfolding all_lines
returns-in_err-write_process g c =
    let lines = process_lines c.args.kernel.now in
    let end : ℕ = length c.args.kernel.now.config.processes in
    let counted : c.len-process-end.result ≡ length c.args.header.now.processes = search rules in
    let many = lines-of-header c.args.kernel.now.config c.args.header.now c.requires.header in
    let within : c.loop-process.process < end = omega (arith, c.loop-process-test.true) in
    let fails : IsErr c.from_residual.result = search rules in
    subst (λ t. Writes (g.S.Sink.seen c.args.sink.now) (g.S.Sink.seen c.write_process.new.sink) c.from_residual.result t) refl
    (next_failed lines (g.S.Sink.seen c.args.sink.now) (g.S.Sink.seen c.loop-process.sink) (g.S.Sink.seen c.write_process.new.sink) c.loop-process.process end _ c.from_residual.result
    (process_lines c.args.kernel.now c.loop-process.process) refl within fails c.loop-process.invariant c.in_err-write_process.ensures)

pub loop-process-preserved : goal.loop-process-preserved
loop-process-preserved g c =
    next_written (process_lines c.args.kernel.now) (g.S.Sink.seen c.args.sink.now) (g.S.Sink.seen c.loop-process.sink) (g.S.Sink.seen c.write_process.new.sink) c.loop-process.process _
    (process_lines c.args.kernel.now c.loop-process.process) refl c.loop-process.invariant c.in_ok-write_process.ensures

pub returns : goal.returns
unfolding all_lines
returns g c =
    let lines = process_lines c.args.kernel.now in
    let end : ℕ = length c.args.kernel.now.config.processes in
    let counted : c.len-process-end.result ≡ length c.args.header.now.processes = search rules in
    let many = lines-of-header c.args.kernel.now.config c.args.header.now c.requires.header in
    let last : c.loop-process.process ≡ end = omega (arith, c.loop-process-test.false, c.loop-process.auto.process-end) in
    written_as (g.S.Sink.seen c.args.sink.now) (g.S.Sink.seen c.loop-process.sink) _ (flat_map lines (below c.loop-process.process)) _ (ap (λ m. flat_map lines (below m)) last ∙ refl)
    c.loop-process.invariant
