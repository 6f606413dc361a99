use Rattle.dk_ledger.proofs.Names.{◌≡◌, ◌∙◌, ◌+◌, ap, sym, subst, arith, rules, Result, Some, Ok, SinkError, Writes, closing_text, nat_tests}
use Rattle.dk_ledger.proofs.CutLemmas.{is_after_next, closed_text-append}
use Rattle.dk_ledger.proofs.Drafts.{counted_up, begins_with}
use Rattle.dk_ledger.proofs.NextLine.{closes}
use Rattle.dk_ledger.proofs.run_writer.RunWriter.entry.Goals.{in-Some+else-goes_on+in_ok-write_all_to+else-is_like, in_default}
use Rattle.dk_ledger.proofs.run_writer.RunWriter.entry.Goals as goal

pub returns-then-goes_on-clause-next : goal.returns-then-goes_on-clause-next
returns-then-goes_on-clause-next g c = grind (arith, nat_tests)

pub returns-then-goes_on-clause-named_after : goal.returns-then-goes_on-clause-named_after
returns-then-goes_on-clause-named_after g c = grind (arith, nat_tests)

pub returns-then-count_up-clause-next : goal.returns-then-count_up-clause-next
returns-then-count_up-clause-next g c = grind (arith, nat_tests)

pub returns-then-count_up-clause-named_after : goal.returns-then-count_up-clause-named_after
returns-then-count_up-clause-named_after g c = grind (arith, nat_tests)

pub returns-then-count_up-clause-wrote : goal.returns-then-count_up-clause-wrote
returns-then-count_up-clause-wrote g c = grind (arith, nat_tests)

pub returns-in_err-write_all_to-clause-draft : goal.returns-in_err-write_all_to-clause-draft
returns-in_err-write_all_to-clause-draft g c = grind (arith, nat_tests)

pub returns-clause-next : goal.returns-clause-next
returns-clause-next g c = grind (arith, nat_tests)

pub returns-clause-named_after : goal.returns-clause-named_after
returns-clause-named_after g c = grind (arith, nat_tests)

pub returns-clause-wrote : goal.returns-clause-wrote
returns-clause-wrote g c =
    let h = c.args.header.now in
    let e = c.args.entry in
    let last = c.args.self.now.progress.last in
    let done : Result (Unit {0}) SinkError = Ok tt in
    elim c.match-self.branch as (λ _. Writes (g.S.Sink.seen c.args.sink.now) (g.S.Sink.seen c.match-self.sink) done (closing_text h last e)) [
      | in-Some+else-goes_on+in_ok-write_all_to+else-is_like x ↦ (
          let same : Some x.in-Some.line ≡ last = sym x.in-Some.is ∙ ap (λ d. d.progress.last) c.self.view_is in
          let text = x.as_bytes.ensures ∙ x.end_line.ensures.whole ∙ closes x.in-Some.line last 0 e same h (sym x.goes_on.ensures ∙ x.if-goes_on.false) in
          subst (λ s. Writes (g.S.Sink.seen c.args.sink.now) (g.S.Sink.seen s) done (closing_text h last e)) (sym x.sink-is)
          (subst (λ t. Writes (g.S.Sink.seen c.args.sink.now) (g.S.Sink.seen x.write_all_to.new.sink) done t) text x.in_ok-write_all_to.ensures))
      | in_default x ↦ (
          let none = sym x.in_default.is ∙ ap (λ d. d.progress.last) c.self.view_is in
          subst (λ s. Writes (g.S.Sink.seen c.args.sink.now) (g.S.Sink.seen s) done (closing_text h last e)) (sym x.sink-is)
          (subst (λ o. Writes (g.S.Sink.seen c.args.sink.now) (g.S.Sink.seen c.args.sink.now) done (closing_text h o e)) none (search rules)))
    ]

pub returns-then-goes_on-clause-after : goal.returns-then-goes_on-clause-after
returns-then-goes_on-clause-after g c = λ es after. is_after_next es c.args.self.now.progress c.args.entry _ after (returns-then-goes_on-clause-next g c)

pub returns-then-goes_on-clause-text : goal.returns-then-goes_on-clause-text
returns-then-goes_on-clause-text g c = λ es after. closed_text-append es c.args.self.now.progress after c.args.header.now c.args.entry

pub returns-in_err-write_all_to-clause-text : goal.returns-in_err-write_all_to-clause-text
returns-in_err-write_all_to-clause-text g c = λ es after. closed_text-append es c.args.self.now.progress after c.args.header.now c.args.entry

pub returns-then-count_up-clause-after : goal.returns-then-count_up-clause-after
returns-then-count_up-clause-after g c = λ es after. is_after_next es c.args.self.now.progress c.args.entry _ after (returns-then-count_up-clause-next g c)

pub returns-then-count_up-clause-text : goal.returns-then-count_up-clause-text
returns-then-count_up-clause-text g c = λ es after. closed_text-append es c.args.self.now.progress after c.args.header.now c.args.entry

pub returns-then-count_up-clause-draft : goal.returns-then-count_up-clause-draft
returns-then-count_up-clause-draft g c = grind (arith, nat_tests, counted_up)

pub invariant_of-self-then-count_up : goal.invariant_of-self-then-count_up
invariant_of-self-then-count_up g c = grind (arith, nat_tests, begins_with)

pub returns-clause-after : goal.returns-clause-after
returns-clause-after g c = λ es after. is_after_next es c.args.self.now.progress c.args.entry _ after (returns-clause-next g c)

pub returns-clause-text : goal.returns-clause-text
returns-clause-text g c = λ es after. closed_text-append es c.args.self.now.progress after c.args.header.now c.args.entry
