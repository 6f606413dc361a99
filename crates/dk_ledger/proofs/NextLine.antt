-- What one more entry does to the last line.
use Rattle.dk_ledger.proofs.Names.{◌≡◌, ◌∙◌, ap, sym, ℕ, false, [], Option, Some, IfSome, if◌then◌else◌, Entry, LedgerLine, Heading, IsNamed, ledger_line, joins, last_after, closing_text, nat_tests, arith}

-- The last line is o, and the entry is the one of tick n.
module _ (l : LedgerLine) (o : Option LedgerLine) (n : ℕ) (e : Entry) (same : Some l ≡ o) where
  pub closes : (h : Heading) → joins l.label l.event e.label ≡ false → ledger_line h l ≡ closing_text h o e
  closes h begins = ap (λ b. if b then [] else (ledger_line h l)) (sym begins) ∙ ap (λ x. closing_text h x e) same

pub named_next : (h : Heading) (o : Option LedgerLine) (n : ℕ) (e : Entry) → IsNamed h e.label → IfSome o (λ l. IsNamed h l.label) → IsNamed h (last_after o n e).label
named_next h o n e named last = grind (arith, nat_tests)
