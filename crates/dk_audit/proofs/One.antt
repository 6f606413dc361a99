-- There is one finding at most.
use Rattle.dk_audit.proofs.Names.{ℕ, ◌≡◌, ◌<◌, inl, inr, List, length, Some, refl, ap, ◌∙◌, sym, subst, arith, slice_get, cases_lt, slice_get_within, Configuration, Entry, chosen, Audited, Follows, HasChosenLabel, Journal, Finding, Header, Passed, BreaksEvent, BreaksLabel, IsFinding, IsFoundOf, Passes, past_of}
use Rattle.dk_audit.specs.declared.finding.Finding.TheVariants.{Label, Event}
use Rattle.dk_audit.proofs.Pasts.{follows-at, past-whole}

-- the entry of tick n is the first that breaks the rules
record Breaks (c : Configuration) (entries : List Entry) (n : ℕ) : Type 0 where
  before : Audited c (past_of entries n)
  entry : Entry
  at : slice_get entries n ≡ Some entry
  wrong : ¬ Follows c (past_of entries n) entry

by-label : (c : Configuration) (entries : List Entry) (n : ℕ) → BreaksLabel c entries n → Breaks c entries n
by-label c entries n b = record { before = b.before; entry = b.entry; at = b.at; wrong = λ follows. b.wrong follows.choice }

by-event : (c : Configuration) (entries : List Entry) (n : ℕ) → BreaksEvent c entries n → Breaks c entries n
by-event c entries n b = record { before = b.before; entry = b.entry; at = b.at; wrong = b.wrong }

not-before : (c : Configuration) (entries : List Entry) (m n : ℕ) → n < m → Breaks c entries n → Audited c (past_of entries m) → ⊥
not-before c entries m n earlier b audited = b.wrong (follows-at c entries m n b.entry earlier b.at audited)

first-is-one : (c : Configuration) (entries : List Entry) (m n : ℕ) → Breaks c entries m → Breaks c entries n → m ≡ n
first-is-one c entries m n a b =
    elim (cases_lt m n) [
      | inl earlier ↦ absurd (not-before c entries n m earlier a b.before)
      | inr late ↦ elim (cases_lt n m) [
        | inl earlier ↦ absurd (not-before c entries m n earlier b a.before)
        | inr late' ↦ omega (arith, late, late')
      ]
    ]

never-passes : (c : Configuration) (entries : List Entry) (m n : ℕ) → Breaks c entries m → Passes c entries n → ⊥
never-passes c entries m n b passes =
    let within = slice_get_within entries m b.entry b.at in
    not-before c entries (length entries) m within b (subst (Audited c) (sym (past-whole entries (length entries) (omega arith))) passes.rules)

-- an entry isn't labeled rightly and wrongly
not-both : (c : Configuration) (entries : List Entry) (m n : ℕ) → BreaksLabel c entries m → BreaksEvent c entries n → ⊥
not-both c entries m n a b =
    let same : m ≡ n = first-is-one c entries m n (by-label c entries m a) (by-event c entries n b) in
    let some : Some a.entry ≡ Some b.entry = sym a.at ∙ ap (slice_get entries) same ∙ b.at in
    let entry : a.entry ≡ b.entry = cc in
    a.wrong (subst (λ k. HasChosenLabel (chosen c (past_of entries k)) a.entry.label) (sym same)
    (subst (λ (e : Entry). HasChosenLabel (chosen c (past_of entries n)) e.label) (sym entry) b.label))

found-once : (c : Configuration) (entries : List Entry) (f g : Finding) → IsFoundOf c entries f → IsFoundOf c entries g → f ≡ g
found-once c entries Header g a b = absurd a
found-once c entries (Label m) Header a b = absurd b
found-once c entries (Label m) (Label n) a b = ap Label (first-is-one c entries m n (by-label c entries m a) (by-label c entries n b))
found-once c entries (Label m) (Event n) a b = absurd (not-both c entries m n a b)
found-once c entries (Label m) (Passed n) a b = absurd (never-passes c entries m n (by-label c entries m a) b)
found-once c entries (Event m) Header a b = absurd b
found-once c entries (Event m) (Label n) a b = absurd (not-both c entries n m b a)
found-once c entries (Event m) (Event n) a b = ap Event (first-is-one c entries m n (by-event c entries m a) (by-event c entries n b))
found-once c entries (Event m) (Passed n) a b = absurd (never-passes c entries m n (by-event c entries m a) b)
found-once c entries (Passed m) Header a b = absurd b
found-once c entries (Passed m) (Label n) a b = absurd (never-passes c entries n m (by-label c entries n b) a)
found-once c entries (Passed m) (Event n) a b = absurd (never-passes c entries n m (by-event c entries n b) a)
found-once c entries (Passed m) (Passed n) a b = ap Passed (a.all ∙ sym b.all)

pub one : (c : Configuration) (ledger : Journal) (f g : Finding) → IsFinding c ledger f → IsFinding c ledger g → f ≡ g
one c ledger Header Header a b = refl
one c ledger Header (Label n) a b = absurd (a b.0)
one c ledger Header (Event n) a b = absurd (a b.0)
one c ledger Header (Passed n) a b = absurd (a b.0)
one c ledger (Label m) Header a b = absurd (b a.0)
one c ledger (Event m) Header a b = absurd (b a.0)
one c ledger (Passed m) Header a b = absurd (b a.0)
one c ledger (Label m) (Label n) a b = found-once c ledger.entries (Label m) (Label n) a.1 b.1
one c ledger (Label m) (Event n) a b = found-once c ledger.entries (Label m) (Event n) a.1 b.1
one c ledger (Label m) (Passed n) a b = found-once c ledger.entries (Label m) (Passed n) a.1 b.1
one c ledger (Event m) (Label n) a b = found-once c ledger.entries (Event m) (Label n) a.1 b.1
one c ledger (Event m) (Event n) a b = found-once c ledger.entries (Event m) (Event n) a.1 b.1
one c ledger (Event m) (Passed n) a b = found-once c ledger.entries (Event m) (Passed n) a.1 b.1
one c ledger (Passed m) (Label n) a b = found-once c ledger.entries (Passed m) (Label n) a.1 b.1
one c ledger (Passed m) (Event n) a b = found-once c ledger.entries (Passed m) (Event n) a.1 b.1
one c ledger (Passed m) (Passed n) a b = found-once c ledger.entries (Passed m) (Passed n) a.1 b.1
