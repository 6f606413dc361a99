use Rattle.std.proofs.Common.{◌∙◌, ◌+◌, ap, sym, subst}
use Rattle.std.specs.Prelude.{Some}
use Rattle.dk_ledger.specs.LineText.{IsNamed}
use Rattle.dk_ledger.specs.Ledgers.{last_after}
use Rattle.dk_ledger.proofs.CutLemmas.{is_after_next, closed_text-append}
use Rattle.dk_ledger.proofs.NextLine.{named_next}
use Rattle.dk_ledger_writer.proofs.writer.LedgerWriter.entry.Goals as goal

pub returns-clause-after : goal.returns-clause-after
returns-clause-after g c = λ es after.
    is_after_next es c.args.self.now c.args.entry _ after
    (ap (λ l. record { entries = c.self.inside.entries + 1; last = Some l }) c.next_line.ensures.line
    ∙ ap (λ p. record { entries = p.entries + 1; last = Some (last_after p.last p.entries c.args.entry) }) c.self.view_is)

pub returns-clause-named_after : goal.returns-clause-named_after
returns-clause-named_after g c =
    let w = c.args.self.now in
    let line = c.next_line.ensures.line ∙ ap (λ p. last_after p.last p.entries c.args.entry) c.self.view_is in
    subst (λ l. IsNamed c.args.header.now l.label) (sym line) (named_next c.args.header.now w.last w.entries c.args.entry c.requires.named c.requires.last_named)

pub returns-clause-text : goal.returns-clause-text
returns-clause-text g c = λ es after. closed_text-append es c.args.self.now after c.args.header.now c.args.entry

pub returns-in_err-write_closed-clause-text : goal.returns-in_err-write_closed-clause-text
returns-in_err-write_closed-clause-text g c = λ es after. closed_text-append es c.args.self.now after c.args.header.now c.args.entry
