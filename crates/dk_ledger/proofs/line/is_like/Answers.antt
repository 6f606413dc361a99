use Rattle.dk_ledger.proofs.Names.{◌∙◌, sym, nat_tests, arith}
use Rattle.dk_ledger.proofs.CutLemmas.{same_label-true}
use Rattle.dk_ledger.proofs.NextItem.{one_side}
use Rattle.dk_ledger.proofs.line.is_like.Goals as goal

pub returns-then-eq-clause-one : goal.returns-then-eq-clause-one
returns-then-eq-clause-one c = grind (arith, nat_tests)

pub returns-then-eq-clause-label : goal.returns-then-eq-clause-label
returns-then-eq-clause-label c = λ yes. same_label-true c.args.line.now.label c.args.entry.now.label (sym c.is_same.ensures ∙ yes)

pub returns-then-eq-clause-event : goal.returns-then-eq-clause-event
returns-then-eq-clause-event c = grind (arith, nat_tests)

pub returns-else-eq-clause-one : goal.returns-else-eq-clause-one
returns-else-eq-clause-one c = λ yes. absurd (one_side yes c.if-eq.false)

pub returns-else-eq-clause-label : goal.returns-else-eq-clause-label
returns-else-eq-clause-label c = λ yes. absurd (one_side yes c.if-eq.false)

pub returns-else-eq-clause-event : goal.returns-else-eq-clause-event
returns-else-eq-clause-event c = λ yes. absurd (one_side yes c.if-eq.false)
