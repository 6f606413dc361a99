-- A serial that isn't given yet pays for nothing and has asked for nothing.
use Rattle.dk_bound.proofs.Names.{◌≡◌, List, subst, suc, length, true, refl, inr, zero, ◌∙◌, sym, ℕ, inl, ◌∷◌, ap, ◌<◌, take, arith, ◌≤◌, [], length-append, length-map, MatchOption, Configuration, IsChecked, IsAccepted, Choice, payer, is_of, is_same, ThreadId, Entry, label_of, HasNextSerial, done_refusal, Follows, without_event, ThreadFollows, row_of, Audited, Work, Thread, family, Event, asked, last_request, chosen, Has, find-has, has-length, of-thread, same-id, HasWork, ChoiceHolds, ChosenHolds, FamiliesStand, RowsAreNamed, Always, nat_tests}
use Rattle.std.proofs.Common.{Some, None, Option}

-- whose budget pays has work by the choice
payer-works : (c : Configuration) (past : List Entry) (choice : Choice) (work : Work) (x : ThreadId) → ChoiceHolds c past choice → payer (label_of choice work) ≡ Some x → HasWork c past x
payer-works c past choice work x holds pays = grind (arith, nat_tests)

module _ (c : Configuration) (checked : IsChecked c) (accepted : IsAccepted c) (families : Always FamiliesStand) (named : Always RowsAreNamed) where
  -- the serials of a process's threads are below their number
  pub serial-low : (past : List Entry) (p : ℕ) (y : Thread) → Audited c past → p < length c.processes → Has (family c p past) y → y.id.serial < length (family c p past)
  serial-low past p y audited known has =
      let f = families c past checked accepted audited p known in
      elim (subst (λ xs. Has xs y) f.rows has) [
        | inl is ↦
            let z : y.id.serial ≡ 0 = ap (λ (t : Thread). t.id.serial) (sym is) ∙ ap (λ (i : ThreadId). i.serial) f.id in
            let some = has-length (family c p past) y has in
            omega (arith, z, some)
        | inr child ↦ (f.each y child).serial
      ]

  pub grows : (e : Entry) (past : List Entry) (p : ℕ) → length (family c p past) ≤ length (family c p (e ∷ past))
  grows e past p = grind (arith, nat_tests, length-map, length-append)

  -- whoever paid for a tick is among them
  pub payer-low : Always ChosenHolds → (past : List Entry) (d : Entry) (x : ThreadId) → Audited c past → Has past d → payer d.label ≡ Some x
      → x.serial < length (family c x.process past)
  payer-low works [] d x audited has pays = absurd has
  payer-low works (e ∷ past) d x audited (inr has) pays =
      let before = payer-low works past d x audited.0 has pays in
      let more = grows e past x.process in
      omega (arith, before, more)
  payer-low works (e ∷ past) d x audited (inl is) pays =
      let holds = works c past checked accepted audited.0 in
      let pays' : payer e.label ≡ Some x = ap (λ (z : Entry). payer z.label) is ∙ pays in
      let w : HasWork c past x = elim audited.1.choice [
        | inl run ↦ payer-works c past (chosen c past) Work.Run x holds (sym (ap payer run) ∙ pays')
        | inr call ↦ payer-works c past (chosen c past) Work.Call x holds (sym (ap payer call) ∙ pays')
      ] in
      let place = (named c past checked accepted audited.0).place w.thread w.among in
      let low = serial-low past w.thread.id.process w.thread audited.0 place.0 place.1 in
      let low' : x.serial < length (family c x.process past) = subst (λ (i : ThreadId). i.serial < length (family c i.process past)) w.name low in
      let more = grows e past x.process in
      omega (arith, low', more)

  -- whoever has an event that is done is among them
  event-low : (past : List Entry) (e : Entry) (event : Event) (x : ThreadId) → Audited c past → Follows c past e → x.process < length c.processes → is_of x e ≡ true
      → e.event ≡ Some event → x.serial < length (family c x.process past)
  event-low past e event x audited follows known mine is =
      let own = of-thread x e mine in
      let t : ThreadFollows c past e x = subst (λ o. MatchOption o (Unit {0}) (ThreadFollows c past e)) own follows.thread in
      let met = subst (λ o. MatchOption o (Unit {0}) (λ ev.
      HasNextSerial c past x ev × MatchOption (row_of c past x) ⊥ (λ row. done_refusal c (length past) (without_event e ∷ past) row ev ≡ None))) is t.met in
      go (row_of c past x) refl met.1
    where
      go : (o : Option Thread) → row_of c past x ≡ o → MatchOption o ⊥ (λ row. done_refusal c (length past) (without_event e ∷ past) row event ≡ None)
          → x.serial < length (family c x.process past)
      go None at met = absurd met
      go (Some y) at met =
          let r = find-has (λ z. is_same x z.id) (family c x.process past) y at in
          let name : x ≡ y.id = same-id x y.id r.1 in
          let low = serial-low past x.process y audited known r.0 in
          subst (λ (i : ThreadId). i.serial < length (family c x.process past)) (sym name) low

  asks-none : (past : List Entry) (e : Entry) (x : ThreadId) (event : Option Event) → Audited c past → Follows c past e → x.process < length c.processes → is_of x e ≡ true
      → e.event ≡ event → length (family c x.process past) ≤ x.serial → asked event ≡ None
  asks-none past e x event audited follows known mine is high = grind (arith, nat_tests, event-low)

  -- and so whoever isn't has asked for nothing
  pub no-request : (past : List Entry) (n : ℕ) (x : ThreadId) → Audited c past → x.process < length c.processes → length (family c x.process past) ≤ x.serial
      → (last_request x (take n past)).amount ≡ 0
  no-request past zero x audited known high = refl
  no-request [] (suc n) x audited known high = refl
  no-request (e ∷ past) (suc n) x audited known high = grind (arith, nat_tests, grows, asks-none, no-request past n)
