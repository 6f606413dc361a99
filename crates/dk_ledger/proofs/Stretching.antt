-- What entries of one label do to the last line, and to the text.
use Rattle.dk_ledger.proofs.Names.{◌≡◌, ◌∙◌, sym, ap, subst, ◌≤◌, ◌+◌, ◌-◌, ℕ, zero, suc, List, [], ◌∷◌, ◌++◌, append_assoc, append-nil, add-zero, arith, Option, Some, None, replicate, replicate_more, Entry, quiet, LedgerLine, Heading, Progress, IsAfter, closed_text, last_after, closing_text, last_after_stretch, lengthened, stretch_of, nat_tests}
use Rattle.dk_ledger.proofs.CutLemmas.{closed_text-append, is_after_next}

-- the last line after an entry has its label
last_label : (o : Option LedgerLine) (n : ℕ) (e : Entry) → (last_after o n e).label ≡ e.label
last_label o n e = grind (arith, nat_tests)

-- and its event
last_event : (o : Option LedgerLine) (n : ℕ) (e : Entry) → (last_after o n e).event ≡ e.event
last_event o n e = grind (arith, nat_tests)

-- an entry of the label goes on a line without an event
goes_on : (l : LedgerLine) (n : ℕ) (e : Entry) → l.event ≡ None → l.label ≡ e.label → last_after (Some l) n e ≡ record l { count = suc l.count; event = e.event }
goes_on l n e none same = grind (arith, nat_tests)

closes_nothing : (h : Heading) (l : LedgerLine) (e : Entry) → l.event ≡ None → l.label ≡ e.label → closing_text h (Some l) e ≡ []
closes_nothing h l e none same = grind (arith, nat_tests)

-- what an entry closes depends on its label alone
pub closing_by_label : (h : Heading) (o : Option LedgerLine) (e : Entry) → closing_text h o (quiet e.label) ≡ closing_text h o e
closing_by_label h o e = grind (arith, nat_tests)

-- one entry
pub one_stretch : (o : Option LedgerLine) (n : ℕ) (e : Entry) → last_after_stretch o n 1 e ≡ last_after o n e
one_stretch o n e = grind (arith, nat_tests)

module _ (h : Heading) (es : List Entry) (w : Progress) (after : IsAfter es w) (e : Entry) where
  abbrev q : Entry
  q = quiet e.label

  abbrev first : LedgerLine
  first = last_after w.last w.entries q

  -- after so many quiet entries more
  abbrev later : ℕ → Progress
  later j = record { entries = w.entries + suc j; last = Some (record first { count = first.count + j }) }

  quietly : (j : ℕ) → IsAfter (es ++ replicate (suc j) q) (later j)
  quietly zero = is_after_next es w q (later zero) after (ap (λ k. record { entries = w.entries + 1; last = Some (record first { count = k }) }) (add-zero first.count))
  quietly (suc j) =
      let l : LedgerLine = record first { count = first.count + j } in
      let n = w.entries + suc j in
      let step : suc j + 1 ≡ suc (suc j) = omega arith in
      let total : w.entries + suc (suc j) ≡ n + 1 = omega arith in
      let grown : first.count + suc j ≡ suc (first.count + j) = omega arith in
      let next : later (suc j) ≡ record { entries = n + 1; last = Some (last_after (Some l) n q) } =
      ap (λ m. record { entries = m; last = Some (record first { count = first.count + suc j }) }) total
      ∙ ap (λ m. record { entries = n + 1; last = Some (record first { count = m }) }) grown
      ∙ ap (λ o. record { entries = n + 1; last = Some (record first { count = suc (first.count + j); event = o }) }) (last_event w.last w.entries q)
      ∙ ap (λ k. record { entries = n + 1; last = Some k }) (sym (goes_on l n q (last_event w.last w.entries q) (last_label w.last w.entries q))) in
      subst (λ fs. IsAfter fs (later (suc j)))
      (append_assoc es (replicate (suc j) q) (q ∷ []) ∙ ap (λ qs. es ++ qs) (replicate_more (suc j) q ∙ ap (λ m. replicate m q) step))
      (is_after_next (es ++ replicate (suc j) q) (later j) q (later (suc j)) (quietly j) next)

  closed_quietly : (j : ℕ) → closed_text h (es ++ replicate (suc j) q) ≡ closed_text h es ++ closing_text h w.last e
  closed_quietly zero = closed_text-append es w after h q ∙ ap (λ t. closed_text h es ++ t) (closing_by_label h w.last e)
  closed_quietly (suc j) =
      let l : LedgerLine = record first { count = first.count + j } in
      let step : suc j + 1 ≡ suc (suc j) = omega arith in
      ap (closed_text h) (sym (append_assoc es (replicate (suc j) q) (q ∷ []) ∙ ap (λ qs. es ++ qs) (replicate_more (suc j) q ∙ ap (λ m. replicate m q) step)))
      ∙ closed_text-append (es ++ replicate (suc j) q) (later j) (quietly j) h q
      ∙ ap (λ t. closed_text h (es ++ replicate (suc j) q) ++ t) (closes_nothing h l q (last_event w.last w.entries q) (last_label w.last w.entries q))
      ∙ append-nil (closed_text h (es ++ replicate (suc j) q)) ∙ closed_quietly j

  -- with this one after them
  after_several : (j : ℕ) → IsAfter (es ++ (replicate (suc j) q ++ e ∷ [])) (record { entries = w.entries + suc (suc j); last = Some (lengthened first (suc j) e.event) })
  after_several j =
      let l : LedgerLine = record first { count = first.count + j } in
      let n = w.entries + suc j in
      let total : w.entries + suc (suc j) ≡ n + 1 = omega arith in
      let grown : first.count + suc j ≡ suc (first.count + j) = omega arith in
      let next : record { entries = w.entries + suc (suc j); last = Some (lengthened first (suc j) e.event) } ≡ record { entries = n + 1; last = Some (last_after (Some l) n e) } =
      ap (λ m. record { entries = m; last = Some (lengthened first (suc j) e.event) }) total
      ∙ ap (λ m. record { entries = n + 1; last = Some (record first { count = m; event = e.event }) }) grown
      ∙ ap (λ k. record { entries = n + 1; last = Some k }) (sym (goes_on l n e (last_event w.last w.entries q) (last_label w.last w.entries q))) in
      subst (λ fs. IsAfter fs (record { entries = w.entries + suc (suc j); last = Some (lengthened first (suc j) e.event) }))
      (append_assoc es (replicate (suc j) q) (e ∷ []))
      (is_after_next (es ++ replicate (suc j) q) (later j) e _ (quietly j) next)

  closed_several : (j : ℕ) → closed_text h (es ++ (replicate (suc j) q ++ e ∷ [])) ≡ closed_text h es ++ closing_text h w.last e
  closed_several j =
      let l : LedgerLine = record first { count = first.count + j } in
      ap (closed_text h) (sym (append_assoc es (replicate (suc j) q) (e ∷ [])))
      ∙ closed_text-append (es ++ replicate (suc j) q) (later j) (quietly j) h e
      ∙ ap (λ t. closed_text h (es ++ replicate (suc j) q) ++ t) (closes_nothing h l e (last_event w.last w.entries q) (last_label w.last w.entries q))
      ∙ append-nil (closed_text h (es ++ replicate (suc j) q)) ∙ closed_quietly j

  after_all : (count : ℕ) → 1 ≤ count → IsAfter (es ++ stretch_of count e) (record { entries = w.entries + count; last = Some (last_after_stretch w.last w.entries count e) })
  after_all zero some = absurd (omega (arith, some))
  after_all (suc zero) some =
      is_after_next es w e (record { entries = w.entries + 1; last = Some (last_after_stretch w.last w.entries 1 e) }) after
      (ap (λ l. record { entries = w.entries + 1; last = Some l }) (one_stretch w.last w.entries e))
  after_all (suc (suc j)) some =
      let others : suc j ≡ suc (suc j) - 1 = omega arith in
      subst (λ m. IsAfter (es ++ (replicate m q ++ e ∷ [])) (record { entries = w.entries + suc (suc j); last = Some (lengthened first m e.event) })) others (after_several j)

  pub closed_stretch : (count : ℕ) → 1 ≤ count → closed_text h (es ++ stretch_of count e) ≡ closed_text h es ++ closing_text h w.last e
  closed_stretch count some = grind (arith, nat_tests, closed_text-append, closed_several)

  pub after_stretch : (count : ℕ) (next : Progress) → 1 ≤ count → next ≡ record { entries = w.entries + count; last = Some (last_after_stretch w.last w.entries count e) }
      → IsAfter (es ++ stretch_of count e) next
  after_stretch count next some is = subst (IsAfter (es ++ stretch_of count e)) (sym is) (after_all count some)
