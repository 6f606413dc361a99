use Rattle.dk_command.proofs.Names.{◌≤◌, ap, arith, refl, reverse, rules, subst, IfSome, IsErr, Ok, IsNamed, closed_text, ending_text, Running, trace_of, workload_of}
use Rattle.dk_command.proofs.RunEntries.{went_on}
use Rattle.dk_command.proofs.RunLemmas.{begins, begun_at, cut_short}
use Rattle.dk_command.proofs.WritingLemmas.{goes_on, same_text}
use Rattle.dk_command.proofs.work.write_entries.Goals as goal

pub run-requires-clause-begun : goal.run-requires-clause-begun
run-requires-clause-begun g c = (
  begun_at c.args.kernel.now c.args.header.now (g.S.Sink.seen c.args.sink.now),
  refl,
  begins c.args.kernel.now c.args.header.now (g.S.Sink.seen c.args.sink.now) c.new-writer.result
      c.requires.start c.requires.printable c.requires.same_processes c.new-writer.ensures.start c.new-writer.ensures.draft c.new-writer.ensures.after,
)

pub returns-in_err-run : goal.returns-in_err-run
returns-in_err-run g c =
    let old : Running = c.args.kernel.now in
    let new : Running = c.run.new.self in
    let h = c.args.header.now in
    let has = c.run.ensures.taken (begun_at old h (g.S.Sink.seen c.args.sink.now))
    (begins old h (g.S.Sink.seen c.args.sink.now) c.new-writer.result
    c.requires.start c.requires.printable c.requires.same_processes c.new-writer.ensures.start c.new-writer.ensures.draft c.new-writer.ensures.after) in
    let failed : IsErr c.run.result = search rules in
    let within : new.ticks ≤ c.args.ticks = omega (arith, c.run.ensures.few, c.requires.start) in
    let (all, entries, wrote) = cut_short h (workload_of old) c.args.ticks (g.S.Sink.seen c.args.sink.now) (g.S.Sink.seen c.run.new.recorder.sink.now)
    c.run.result c.from_residual.result new.ticks (reverse (trace_of new)) (went_on new old new.ticks c.run.ensures.next refl) within failed c.from_residual.ensures.0
    (same_text _ _ c.run.result _ _ (ap (λ x. closed_text x (reverse (trace_of new))) has.same) has.wrote) in
    (all, entries, search rules)

pub finish-requires-clause-last_named : goal.finish-requires-clause-last_named
finish-requires-clause-last_named g c =
    let old : Running = c.args.kernel.now in
    let h = c.args.header.now in
    let has = c.in_ok-run.ensures.taken (begun_at old h (g.S.Sink.seen c.args.sink.now))
    (begins old h (g.S.Sink.seen c.args.sink.now) c.new-writer.result
    c.requires.start c.requires.printable c.requires.same_processes c.new-writer.ensures.start c.new-writer.ensures.draft c.new-writer.ensures.after) in
    subst (λ x. IfSome c.run.new.recorder.writer.progress.last (λ line. IsNamed x line.label)) has.same has.named

pub returns : goal.returns
returns g c =
    let old : Running = c.args.kernel.now in
    let new : Running = c.run.new.self in
    let h = c.args.header.now in
    let es = reverse (trace_of new) in
    let writer = c.run.new.recorder.writer in
    let has = c.in_ok-run.ensures.taken (begun_at old h (g.S.Sink.seen c.args.sink.now))
    (begins old h (g.S.Sink.seen c.args.sink.now) c.new-writer.result
    c.requires.start c.requires.printable c.requires.same_processes c.new-writer.ensures.start c.new-writer.ensures.draft c.new-writer.ensures.after) in
    let before = same_text _ _ (Ok tt) _ _ (ap (λ x. closed_text x es) has.same) has.wrote in
    let both = goes_on (g.S.Sink.seen c.args.sink.now) (g.S.Sink.seen c.run.new.recorder.sink.now) (g.S.Sink.seen c.finish.new.sink) (Ok tt) c.finish.result
    (closed_text h es) (ending_text h writer.progress) refl before c.finish.ensures.wrote in
    let wrote = same_text _ _ c.finish.result _ _ (c.finish.ensures.text es has.after) both in
    (es, went_on new old c.args.ticks c.run.ensures.next (omega (arith, c.in_ok-run.ensures.all, c.requires.start)), search rules)
