-- What is written and what the writer is after, with these entries more.
use Rattle.dk_command.proofs.Names.{◌<◌, ◌∙◌, ap, arith, refl, reverse, subst, sym, length-reverse, Ok, OnOk, IfSome, thread_of, IsAfter, closed_text, closing_text}
use Rattle.dk_command.proofs.RunEntries.{gone_on_reversed}
use Rattle.dk_command.proofs.WritingLemmas.{goes_on, same_text}
use Rattle.dk_command.proofs.recording.RunLedgerRecorder.take.Goals as goal

pub returns-clause-taken : goal.returns-clause-taken
returns-clause-taken g c = λ start past has.
    let h = c.args.self.now.header.now in
    let e = c.args.last in
    let more = gone_on_reversed c.args.count e past in
    let closing = closing_text h c.args.self.now.writer.progress.last e in
    record {
      same = has.same;
      printable = has.printable;
      processes = has.processes;
      draft = c.stretch.ensures.draft;
      named = c.stretch.ensures.named_after;
      after = subst (λ es. OnOk c.stretch.result (IsAfter es c.stretch.new.self.progress)) (sym more) (c.stretch.ensures.after (reverse past) has.after);
      wrote = same_text _ _ c.stretch.result _ _
          (sym (ap (closed_text h) more ∙ c.stretch.ensures.text (reverse past) has.after))
          (goes_on start.sink (g.S.Sink.seen c.args.self.now.sink.now) (g.S.Sink.seen c.stretch.new.sink) (Ok tt) c.stretch.result
          (closed_text h (reverse past)) closing refl has.wrote c.stretch.ensures.wrote);
    }

pub stretch-requires-clause-printable : goal.stretch-requires-clause-printable
stretch-requires-clause-printable g c = let (start, past, has, few, known) = c.requires.begun in has.printable

pub stretch-requires-clause-named : goal.stretch-requires-clause-named
stretch-requires-clause-named g c =
    let (start, past, has, few, known) = c.requires.begun in
    subst (λ n. IfSome (thread_of c.args.last.label) (λ x. x.process < n)) (sym has.processes) known.process

pub stretch-requires-clause-last_named : goal.stretch-requires-clause-last_named
stretch-requires-clause-last_named g c = let (start, past, has, few, known) = c.requires.begun in has.named

pub stretch-requires-clause-few : goal.stretch-requires-clause-few
stretch-requires-clause-few g c =
    let (start, past, has, few, known) = c.requires.begun in omega (arith, few, has.after.entries, length-reverse past)

pub stretch-requires-clause-draft : goal.stretch-requires-clause-draft
stretch-requires-clause-draft g c = let (start, past, has, few, known) = c.requires.begun in has.draft
