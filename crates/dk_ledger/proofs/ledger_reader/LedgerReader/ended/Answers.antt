use Rattle.dk_ledger.proofs.Names.{◌≡◌, ◌∙◌, [], length, true, sym, ap, subst, ◌==◌, eqb-true, nil_from_length, IsWrongLine, IsNoText, nat_tests, arith}
use Rattle.dk_ledger.proofs.NextItem.{one_side}
use Rattle.dk_ledger.proofs.Readings.{wrong_end, whole_read}
use Rattle.dk_ledger.proofs.ledger_reader.LedgerReader.ended.Goals.{then-not-is_ended-via-then-not-is_ended, then-not-is_ended-via-else-not-is_ended+then-not-is_empty}
use Rattle.dk_ledger.proofs.ledger_reader.LedgerReader.ended.Goals as goal

pub returns-then-not-is_ended-clause-line : goal.returns-then-not-is_ended-clause-line
returns-then-not-is_ended-clause-line c = λ n bytes es e read.
    let kept = ap (λ r. r.kept) c.self.view_is in
    let rest = ap (λ r. r.rest) c.self.view_is in
    let line = ap (λ r. r.line) c.self.view_is in
    let unended : c.args.self.now.kept.ended ≡ true → c.args.self.now.rest ≡ [] → ⊥ =
    λ ended empty. elim c.then-not-is_ended.branch as (λ _. ⊥) [
      | then-not-is_ended-via-then-not-is_ended w ↦ one_side (c.is_ended.ensures ∙ ap (λ k. k.ended) kept ∙ ended) w.if-not-is_ended.true
      | then-not-is_ended-via-else-not-is_ended+then-not-is_empty w ↦ one_side (w.is_empty.ensures ∙ ap (λ bs. length bs == 0) (rest ∙ empty)) w.if-not-is_empty.true
    ] in
    let here = wrong_end bytes es c.args.self.now read c.requires unended in
    let same : c.self.inside.line ≡ n = cc in
    subst (λ m. IsWrongLine m bytes × IsNoText bytes) (sym line ∙ same) here

pub returns-clause-end : goal.returns-clause-end
returns-clause-end c = grind (arith, nat_tests, nil_from_length, eqb-true, whole_read)
