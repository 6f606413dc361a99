-- Where the rows of a changed table come from: each from one of the old table, of the same name and slot.
use Rattle.dk_threads.proofs.Names.{◌≡◌, ℕ, ◌∙◌, ap, refl, Option, eqb, false, subst, inr, sym, inl, ◌∷◌, arith, List, [], nat_tests, cases_Bool, slice_get, filter_map, cons_option, Has, ThreadId, Clock, rows_of, Table, changed_at, child_stopped, all_stopped, ThreadRow, Family, stopped, stopped_child, is_row_of, stopped_with_main, is_stopped}
use Rattle.std.proofs.Common.{Some, None}
use Rattle.dk_config.proofs.Lists.{get-set-same, get-set-other}
use Rattle.dk_threads.proofs.NamedRows.{rows-are}

-- each row of the process in the new table comes from one of the old table, of the same name and slot
abbrev pub Descend : Table → Table → ℕ → Type 0
Descend table table' p = (r' : ThreadRow) → Has (rows_of table' p) r' → (r : ThreadRow) × Has (rows_of table p) r × (r.id ≡ r'.id) × (r.slot ≡ r'.slot)

pub changed-here : (change : Family → Family) (p : ℕ) (table : Table) (f : Family) → slice_get table.families p ≡ Some f
    → slice_get (changed_at change p table).families p ≡ Some (change f)
changed-here change p table f at = grind (arith, nat_tests, get-set-same)

pub changed-there : (change : Family → Family) (p q : ℕ) (table : Table) → eqb q p ≡ false
    → slice_get (changed_at change p table).families q ≡ slice_get table.families q
changed-there change p q table apart = grind (arith, nat_tests, get-set-other)

-- a change that makes each new row from an old one of the same name and slot
pub descends : (change : Family → Family) (p q : ℕ) (table : Table)
    → ((f : Family) (r' : ThreadRow) → Has ((change f).main ∷ (change f).children) r' → (r : ThreadRow) × Has (f.main ∷ f.children) r × (r.id ≡ r'.id) × (r.slot ≡ r'.slot))
    → Descend table (changed_at change p table) q
descends change p q table keeps r' has =
    elim (cases_Bool (eqb q p)) [
      | inl here ↦ let e : p ≡ q = grind (arith, nat_tests) in at-own e
      | inr apart ↦ grind (arith, nat_tests, changed-there)
    ]
  where
    at-own : p ≡ q → (r : ThreadRow) × Has (rows_of table q) r × (r.id ≡ r'.id) × (r.slot ≡ r'.slot)
    at-own e = subst (λ k. (r : ThreadRow) × Has (rows_of table k) r × (r.id ≡ r'.id) × (r.slot ≡ r'.slot)) e (go (slice_get table.families p) refl)
      where
        go : (o : Option Family) → slice_get table.families p ≡ o → (r : ThreadRow) × Has (rows_of table p) r × (r.id ≡ r'.id) × (r.slot ≡ r'.slot)
        go None at =
            let has' : Has (rows_of (changed_at change p table) p) r' = subst (λ k. Has (rows_of (changed_at change p table) k) r') (sym e) has in
            let same : rows_of (changed_at change p table) p ≡ [] = grind (arith, nat_tests) in
            absurd (let none : Has [] r' = subst (λ rows. Has rows r') same has' in none)
        go (Some f) at =
            let has' : Has (rows_of (changed_at change p table) p) r' = subst (λ k. Has (rows_of (changed_at change p table) k) r') (sym e) has in
            let new = rows-are (changed_at change p table) p (change f) (changed-here change p table f at) in
            let r = keeps f r' (subst (λ rows. Has rows r') new has') in
            (r.0, subst (λ rows. Has rows r.0) (sym (rows-are table p f at)) r.1, r.2, r.3)

kept-child : (g : ThreadRow → Option ThreadRow) → ((r r' : ThreadRow) → g r ≡ Some r' → (r.id ≡ r'.id) × (r.slot ≡ r'.slot))
    → (rows : List ThreadRow) (r' : ThreadRow) → Has (filter_map g rows) r' → (r : ThreadRow) × Has rows r × (r.id ≡ r'.id) × (r.slot ≡ r'.slot)
kept-child g keeps [] r' has = absurd has
kept-child g keeps (row ∷ rows) r' has = go (g row) refl (λ h. kept-child g keeps rows r' h) has
  where
    go : (o : Option ThreadRow) → g row ≡ o → (Has (filter_map g rows) r' → (r : ThreadRow) × Has rows r × (r.id ≡ r'.id) × (r.slot ≡ r'.slot))
        → Has (cons_option o (filter_map g rows)) r' → (r : ThreadRow) × Has (row ∷ rows) r × (r.id ≡ r'.id) × (r.slot ≡ r'.slot)
    go None at more h = let r = more h in (r.0, inr r.1, r.2, r.3)
    go (Some next) at more (inl is) = let k = keeps row next at in (row, inl refl, k.0 ∙ ap (λ (z : ThreadRow). z.id) is, k.1 ∙ ap (λ (z : ThreadRow). z.slot) is)
    go (Some next) at more (inr h) = let r = more h in (r.0, inr r.1, r.2, r.3)

stopped-keeps : (clock : Clock) (r r' : ThreadRow) → stopped clock r ≡ Some r' → (r.id ≡ r'.id) × (r.slot ≡ r'.slot)
stopped-keeps clock r r' is = grind (arith, nat_tests)

pub stop-descends : (x : ThreadId) (clock : Clock) (q : ℕ) (table : Table) → Descend table (changed_at (child_stopped x clock) x.process table) q
stop-descends x clock q table = descends (child_stopped x clock) x.process q table keeps
  where
    one : (r r' : ThreadRow) → stopped_child x clock r ≡ Some r' → (r.id ≡ r'.id) × (r.slot ≡ r'.slot)
    one r r' is =
        elim (cases_Bool (is_row_of x r)) [
          | inl mine ↦ stopped-keeps clock r r' (rw mine at is)
          | inr other ↦ let some : Some r ≡ Some r' = rw other at is in let e : r ≡ r' = cc in (ap (λ (z : ThreadRow). z.id) e, ap (λ (z : ThreadRow). z.slot) e)
        ]

    keeps : (f : Family) (r' : ThreadRow) → Has ((child_stopped x clock f).main ∷ (child_stopped x clock f).children) r'
        → (r : ThreadRow) × Has (f.main ∷ f.children) r × (r.id ≡ r'.id) × (r.slot ≡ r'.slot)
    keeps f r' (inl is) = (f.main, inl refl, ap (λ (z : ThreadRow). z.id) is, ap (λ (z : ThreadRow). z.slot) is)
    keeps f r' (inr h) = let r = kept-child (stopped_child x clock) one f.children r' h in (r.0, inr r.1, r.2, r.3)

pub process-descends : (clock : Clock) (p q : ℕ) (table : Table) → Descend table (changed_at (all_stopped clock) p table) q
process-descends clock p q table = descends (all_stopped clock) p q table keeps
  where
    one : (r r' : ThreadRow) → stopped_with_main clock r ≡ Some r' → (r.id ≡ r'.id) × (r.slot ≡ r'.slot)
    one r r' is =
        elim (cases_Bool (is_stopped r.state)) [
          | inl gone ↦ let some : Some r ≡ Some r' = rw gone at is in let e : r ≡ r' = cc in (ap (λ (z : ThreadRow). z.id) e, ap (λ (z : ThreadRow). z.slot) e)
          | inr runs ↦ stopped-keeps clock r r' (rw runs at is)
        ]

    keeps : (f : Family) (r' : ThreadRow) → Has ((all_stopped clock f).main ∷ (all_stopped clock f).children) r'
        → (r : ThreadRow) × Has (f.main ∷ f.children) r × (r.id ≡ r'.id) × (r.slot ≡ r'.slot)
    keeps f r' (inl is) = (f.main, inl refl, ap (λ (z : ThreadRow). z.id) is, ap (λ (z : ThreadRow). z.slot) is)
    keeps f r' (inr h) = let r = kept-child (stopped_with_main clock) one f.children r' h in (r.0, inr r.1, r.2, r.3)
