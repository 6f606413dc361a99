-- What is left once a thread has given up all, and for how long it may keep faster levels waiting before.
use Rattle.dk_mutex.proofs.Names.{◌≡◌, ◌<◌, ◌≤◌, ◌∙◌, ◌⊎◌, inl, inr, false, eqb, leb, ℕ, zero, suc, List, [], ◌∷◌, map, Option, Some, None, ap, sym, subst, refl, arith, max, if◌then◌else◌, cases_Bool, nat_tests, Configuration, ceiling, ThreadId, Event, Entry, is_same, is_of, stops, Has, Hold, aged, given_back, held_after, held_by, greatest_left, has-aged, same-id, Holder, Lockable, freed, is_holder, holder_left, left_of, left_under, left_up_to, left_at, IsRecount, AreMutexes, emptied, hold_at}
use Rattle.std.proofs.Common.{option_map}
use Rattle.dk_trace.specs.Holds.{hold_left}
use Rattle.dk_mutex.proofs.Recounts.{hold_at-aged}
use Rattle.dk_mutex.proofs.Holding.{back-other}
use Rattle.dk_mutex.proofs.Levels.{ceiling_at, ceiling-past, hold_at-has}

freed-holder : (id x : ThreadId) (o : Option Holder)
    → holder_left x (if is_holder id o then None else o) ≡ (if is_same x id then None else holder_left x o)
freed-holder id x o = grind (arith, nat_tests, same-id)

pub left-freed : (rows : List Lockable) (id x : ThreadId) (m : ℕ) → left_at x (map (freed id) rows) m ≡ (if is_same x id then None else left_at x rows m)
left-freed [] id x m = elim (cases_Bool (is_same x id)) [ inl on ↦ rw on refl | inr off ↦ rw off refl ]
left-freed (row ∷ rows) id x zero = freed-holder id x row.holder
left-freed (row ∷ rows) id x (suc m) = left-freed rows id x m

pub emptied-freed : (rows : List Lockable) (id : ThreadId) → map emptied (map (freed id) rows) ≡ map emptied rows
emptied-freed [] id = refl
emptied-freed (row ∷ rows) id = ap (λ rest. emptied row ∷ rest) (emptied-freed rows id)

aged-own : (held : List Hold) → ((h : Hold) → Has held h → hold_at h.mutex held ≡ Some h) → (h : Hold) → Has (map aged held) h → hold_at h.mutex (map aged held) ≡ Some h
aged-own held own h has = grind (arith, nat_tests, has-aged, hold_at-aged)

back-has : (m : ℕ) (held : List Hold) (h : Hold) → Has (given_back m held) h → Has held h × (eqb h.mutex m ≡ false)
back-has m [] h has = absurd has
back-has m (k ∷ held) h has = grind (arith, nat_tests, back-has m held h)

back-own : (m : ℕ) (held : List Hold) → ((h : Hold) → Has held h → hold_at h.mutex held ≡ Some h) → (h : Hold) → Has (given_back m held) h
    → hold_at h.mutex (given_back m held) ≡ Some h
back-own m held own h has = let r = back-has m held h has in back-other m h.mutex held r.1 ∙ own h r.0

after-own : (event : Option Event) (held : List Hold) → ((h : Hold) → Has held h → hold_at h.mutex held ≡ Some h) → (h : Hold) → Has (held_after event held) h
    → hold_at h.mutex (held_after event held) ≡ Some h
after-own event held own h has = grind (arith, nat_tests, back-has, back-own)

held-own-hold : (x : ThreadId) (past : List Entry) (h : Hold) → Has (held_by x past) h → hold_at h.mutex (held_by x past) ≡ Some h
held-own-hold x [] h has = absurd has
held-own-hold x (e ∷ past) h has =
    elim (cases_Bool (stops x e)) [
      | inl gone ↦ let none : Has [] h = rw gone at has in absurd none
      | inr stays ↦
          elim (cases_Bool (is_of x e)) [
            | inl mine ↦
                rw (stays, mine)
                (after-own e.event (map aged (held_by x past)) (aged-own (held_by x past) (held-own-hold x past)) h (rw (stays, mine) at has))
            | inr other ↦ rw (stays, other) (held-own-hold x past h (rw (stays, other) at has))
          ]
    ]

-- the greatest Left of the table
up-above : (x : ThreadId) (j : ℕ) (rows : List Lockable) (m n : ℕ) → left_at x rows m ≡ Some n → ceiling_at rows m ≤ j → n ≤ left_up_to x j rows
up-above x j [] m n is low = absurd (cc)
up-above x j (row ∷ rows) zero n is low = grind (arith, nat_tests)
up-above x j (row ∷ rows) (suc m) n is low = grind (arith, nat_tests, up-above x j rows m)

data Up (x : ThreadId) (j : ℕ) (rows : List Lockable) (v : ℕ) : Type 0 where
  no_left : v ≡ 0 → Up x j rows v
  some_left : (m : ℕ) → left_at x rows m ≡ Some v → ceiling_at rows m ≤ j → Up x j rows v

under-up : (x : ThreadId) (j : ℕ) (row : Lockable) (rows : List Lockable) (o : Option ℕ) → left_of x row ≡ o → Up x j (row ∷ rows) (left_under x j row)
under-up x j row rows None is = no_left (rw is refl)
under-up x j row rows (Some n) is =
    elim (cases_Bool (leb row.ceiling j)) [
      | inl on ↦ let low : row.ceiling ≤ j = grind (arith, nat_tests) in some_left 0 (rw (is, on) refl) low
      | inr off ↦ no_left (rw (is, off) refl)
    ]

up-next : (x : ThreadId) (j : ℕ) (row : Lockable) (rows : List Lockable) (v : ℕ) → Up x j rows v → Up x j (row ∷ rows) v
up-next x j row rows v (no_left is) = no_left is
up-next x j row rows v (some_left m is low) = some_left (suc m) is low

up-some : (x : ThreadId) (j : ℕ) (rows : List Lockable) → Up x j rows (left_up_to x j rows)
up-some x j [] = no_left refl
up-some x j (row ∷ rows) =
    elim (cases_Bool (leb (left_up_to x j rows) (left_under x j row))) [
      | inl first ↦
          let e : max (left_under x j row) (left_up_to x j rows) ≡ left_under x j row = (let h : left_up_to x j rows ≤ left_under x j row = grind (arith, nat_tests) in omega (arith, h)) in
          subst (Up x j (row ∷ rows)) (sym e) (under-up x j row rows (left_of x row) refl)
      | inr later ↦
          let e : max (left_under x j row) (left_up_to x j rows) ≡ left_up_to x j rows = (let h : left_under x j row < left_up_to x j rows = grind (arith, nat_tests) in omega (arith, h)) in
          subst (Up x j (row ∷ rows)) (sym e) (up-next x j row rows (left_up_to x j rows) (up-some x j rows))
    ]

-- and that of the holds
greatest-above : (c : Configuration) (j : ℕ) (held : List Hold) (h : Hold) → Has held h → ceiling c h.mutex ≤ j → hold_left c h ≤ greatest_left c j held
greatest-above c j [] h has low = absurd has
greatest-above c j (k ∷ held) h (inl is) low = grind (arith, nat_tests)
greatest-above c j (k ∷ held) h (inr rest) low = grind (arith, nat_tests, greatest-above c j held h rest low)

greatest-some : (c : Configuration) (j : ℕ) (held : List Hold)
    → (greatest_left c j held ≡ 0) ⊎ ((h : Hold) × Has held h × (greatest_left c j held ≡ hold_left c h) × (ceiling c h.mutex ≤ j))
greatest-some c j [] = inl refl
greatest-some c j (k ∷ held) =
    elim (cases_Bool (leb (greatest_left c j held) (if leb (ceiling c k.mutex) j then hold_left c k else 0))) [
      | inl first ↦ grind (arith, nat_tests)
      | inr later ↦
          let h : (if leb (ceiling c k.mutex) j then hold_left c k else 0) < greatest_left c j held = grind (arith, nat_tests) in
          let e : greatest_left c j (k ∷ held) ≡ greatest_left c j held = omega (arith, h) in
          elim (greatest-some c j held) [
            | inl none ↦ inl (e ∙ none)
            | inr r ↦ inr (r.0, inr r.1, e ∙ r.2, r.3)
          ]
    ]

pub lefts-past : (c : Configuration) (past : List Entry) (rows : List Lockable) (x : ThreadId) (j : ℕ) → IsRecount c past rows → AreMutexes c past
    → left_up_to x j rows ≡ greatest_left c j (held_by x past)
lefts-past c past rows x j is known = let a = high in let b = low in omega (arith, a, b)
  where
    low : greatest_left c j (held_by x past) ≤ left_up_to x j rows
    low =
        elim (greatest-some c j (held_by x past)) [
          | inl none ↦ omega (arith, none)
          | inr r ↦
              let at : left_at x rows r.0.mutex ≡ Some (hold_left c r.0) = grind (arith, nat_tests, held-own-hold) in
              let up : ceiling_at rows r.0.mutex ≤ j = (let e = ceiling-past c past rows r.0.mutex is (known x r.0 r.1) in let l = r.3 in omega (arith, e, l)) in
              let above = up-above x j rows r.0.mutex (hold_left c r.0) at up in
              let e = r.2 in
              omega (arith, above, e)
        ]

    high : left_up_to x j rows ≤ greatest_left c j (held_by x past)
    high = go (left_up_to x j rows) (up-some x j rows)
      where
        go : (v : ℕ) → Up x j rows v → v ≤ greatest_left c j (held_by x past)
        go v (no_left is-none) = omega (arith, is-none)
        go v (some_left m at up) = at-hold (hold_at m (held_by x past)) refl
          where
            at-hold : (o : Option Hold) → hold_at m (held_by x past) ≡ o → v ≤ greatest_left c j (held_by x past)
            at-hold None nothing = let e : None ≡ Some v = sym (is.holds x m ∙ ap (option_map (hold_left c)) nothing) ∙ at in absurd (cc)
            at-hold (Some h) there =
                let r = hold_at-has m (held_by x past) h there in
                let e : Some (hold_left c h) ≡ Some v = sym (is.holds x m ∙ ap (option_map (hold_left c)) there) ∙ at in
                let same : hold_left c h ≡ v = cc in
                let within = known x h r.0 in
                let number = r.1 in
                let ceil = ceiling-past c past rows h.mutex is within in
                let ceil' : ceiling_at rows h.mutex ≡ ceiling_at rows m = ap (ceiling_at rows) number in
                let low' : ceiling c h.mutex ≤ j = omega (arith, ceil, ceil', up) in
                let above = greatest-above c j (held_by x past) h r.0 low' in
                omega (arith, above, same)
