use Rattle.dk_ledger.proofs.Names.{◌≡◌, ◌∙◌, ◌+◌, ℕ, length, take, ap, sym, subst, arith, refl, Option, Some, None, decimal, option_map, option_map_or, Event, LedgerLine, lengthened}
use Rattle.dk_ledger.proofs.run_writer.RunWriter.lengthen.Goals as goal
use Rattle.dk_ledger.proofs.Readings.{some_of}

-- what holds of a line with more entries
of_longer : (o new : Option LedgerLine) (more : ℕ) (event : Option Event) (P : LedgerLine → Type 0) → new ≡ option_map (λ (l : LedgerLine). lengthened l more event) o
    → ((l : LedgerLine) → o ≡ Some l → P (lengthened l more event)) → (x : LedgerLine) → new ≡ Some x → P x
of_longer None new more event P is each x some = absurd (cc)
of_longer (Some l) new more event P is each x some =
    subst P (ap (λ (m : Option LedgerLine). option_map_or (λ y. y) m x) (sym is ∙ some)) (each l refl)

pub lengthen-requires : goal.lengthen-requires
lengthen-requires c = some_of c.self.inside.last _ (λ l is.
    let has = (c.self.invariant l is).0 in
    omega (arith, has, ap (λ p. p.progress.entries) c.self.view_is, c.requires))

pub invariant_of-self : goal.invariant_of-self
invariant_of-self c =
    let entries = c.self.inside.entries in
    let digits = c.self.inside.digits in
    let text = c.self.inside.text in
    let more = c.args.more in
    of_longer c.self.inside.last c.lengthen.new.last more c.args.event.now
    (λ x. (x.start + x.count ≡ entries + more) × (digits ≡ length (decimal x.start)) × (take digits text ≡ decimal x.start))
    c.lengthen.ensures
    (λ l is. let has = c.self.invariant l is in (omega (arith, has.0), has.1, has.2))
