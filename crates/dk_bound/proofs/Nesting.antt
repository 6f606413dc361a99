-- The holds of one thread: the time left rises from the innermost to the outermost.
use Rattle.dk_bound.proofs.Names.{ℕ, suc, ◌≡◌, ◌-◌, ◌<◌, ◌≤◌, ◌⊎◌, inl, inr, Bool, true, false, not, eqb, leb, List, [], ◌∷◌, refl, sym, ap, subst, arith, cond, map, filter, min, Option, Some, None, cases_lt, cases_eq, cases_Bool, nat_tests, Configuration, IsChecked, main_level, option_map_or, ceiling, longest_hold, is_user, Event, is_end, quiet, is_of, is_innermost, ends_hold, Hold, aged, given_back, held_after, level_holding, is_holding, is_held, hold_left, innermost_left, least_ceiling, greatest_left, past_left, held_by, Has, ThreadId, Entry, Label, ceiling-aged, ceiling-most, quiet-held, AreNested}
use Rattle.dk_bound.proofs.Holding.{Rising, Users}

pub Rising-lower : (c : Configuration) (low low' high : ℕ) (held : List Hold) → low' ≤ low → Rising c low high held → Rising c low' high held
Rising-lower c low low' high [] le r = tt
Rising-lower c low low' high (h ∷ held) le r = (omega (arith, r.0), r.1, r.2)

-- it stays so where some holds end
pub Rising-filter : (c : Configuration) (test : Hold → Bool) (low high : ℕ) (held : List Hold) → Rising c low high held → Rising c low high (filter test held)
Rising-filter c test low high [] r = tt
Rising-filter c test low high (h ∷ held) r =
    elim (cases_Bool (test h)) [
      | inl stays ↦ rw stays (r.0, r.1, Rising-filter c test (suc (hold_left c h)) high held r.2)
      | inr ends ↦ rw ends (Rising-lower c (suc (hold_left c h)) low high (filter test held) (omega (arith, r.0)) (Rising-filter c test (suc (hold_left c h)) high held r.2))
    ]

pub left-aged : (c : Configuration) (h : Hold) → hold_left c (aged h) ≡ hold_left c h - 1
left-aged c h = omega arith

-- a tick of the thread lowers them all alike
pub Rising-aged : (c : Configuration) (low high : ℕ) (held : List Hold) → Rising c (suc low) (suc high) held → Rising c low high (map aged held)
Rising-aged c low high [] r = tt
Rising-aged c low high (h ∷ held) r =
    let fall = left-aged c h in
    let here : suc (hold_left c (aged h)) ≡ hold_left c h = omega (arith, r.0, fall) in
    let rest : Rising c (suc (suc (hold_left c (aged h)))) (suc high) held = subst (λ k. Rising c (suc k) (suc high) held) (sym here) r.2 in
    (omega (arith, r.0, fall), omega (arith, r.1, fall), Rising-aged c (suc (hold_left c (aged h))) high held rest)

pub Rising-none : (c : Configuration) (held : List Hold) → Rising c 1 0 held → held ≡ []
Rising-none c [] r = refl
Rising-none c (h ∷ held) r = absurd (omega (arith, r.0, r.1))

-- what a lock has met, the present tick being counted
pub record LockFits (c : Configuration) (high m : ℕ) (held : List Hold) : Type 0 where
  pub free : is_held m held ≡ false
  pub positive : 0 < longest_hold c m
  pub ends_in_time : longest_hold c m ≤ high
  pub ends_first : (is_holding held ≡ false) ⊎ (longest_hold c m < innermost_left c held)

-- a mutex that is not held is not given back
pub given_back-free : (m : ℕ) (held : List Hold) → is_held m held ≡ false → given_back m held ≡ held
given_back-free m [] h = refl
given_back-free m (k ∷ held) h = grind (arith, nat_tests, given_back-free m held)

pub Rising-lock : (c : Configuration) (low high m : ℕ) (held : List Hold) → Rising c low high held → LockFits c high m held
    → Rising c 1 high (record { mutex = m; ticks = 0 } ∷ given_back m held)
Rising-lock c low high m held r fits = rw (given_back-free m held fits.free) (onto held r fits.ends_first)
  where
    onto : (held : List Hold) → Rising c low high held → (is_holding held ≡ false) ⊎ (longest_hold c m < innermost_left c held)
        → Rising c 1 high (record { mutex = m; ticks = 0 } ∷ held)
    onto [] r first = (let p = fits.positive in omega arith, let p = fits.ends_in_time in omega arith, tt)
    onto (h ∷ held) r first =
        let positive = fits.positive in
        let in_time = fits.ends_in_time in
        let inner : longest_hold c m < hold_left c h = elim first [ inl none ↦ absurd (cc) | inr less ↦ less ] in
        (omega arith, omega arith, (omega arith, r.1, r.2))

-- the innermost hold ends
pub Rising-unlock : (c : Configuration) (high m : ℕ) (held : List Hold) → Rising c 0 high held → is_innermost m held ≡ true
    → Rising c 1 high (filter (λ h. not (eqb h.mutex m)) held)
Rising-unlock c high m [] r inner = tt
Rising-unlock c high m (h ∷ held) r inner =
    let rest = Rising-filter c (λ h. not (eqb h.mutex m)) (suc (hold_left c h)) high held r.2 in
    rw inner (Rising-lower c (suc (hold_left c h)) 1 high (filter (λ h. not (eqb h.mutex m)) held) (omega arith) rest)

-- a hold's last tick ends it
pub not-last : (c : Configuration) (high : ℕ) (held : List Hold) (event : Option Event) → Rising c 1 high held
    → (innermost_left c held ≡ 1 → ends_hold event held ≡ true) → ((h : Hold) (rest : List Hold) → ends_hold event (h ∷ rest) ≡ true → ⊥) → Rising c 2 high held
not-last c high [] event r must never = tt
not-last c high (h ∷ held) event r must never =
    elim (cases_eq (hold_left c h) 1) [
      | inl one ↦ absurd (never h held (must one))
      | inr more ↦ (omega (arith, r.0, more), r.1, r.2)
    ]

pub Rising-tick : (c : Configuration) (low high : ℕ) (held : List Hold) → Rising c (suc low) high held → Rising c low (high - 1) (map aged held)
Rising-tick c low high [] r = tt
Rising-tick c low high (h ∷ held) r =
    let some : suc (high - 1) ≡ high = omega (arith, r.0, r.1) in
    Rising-aged c low (high - 1) (h ∷ held) (subst (λ k. Rising c (suc low) k (h ∷ held)) (sym some) r)

-- what the event has met, over the holds with the present tick counted
abbrev pub EventFits : Configuration → ℕ → List Hold → Option Event → Type 0
EventFits c high held (Some (Event.Lock m)) = LockFits c high m held
EventFits c high held (Some (Event.Unlock m)) = is_innermost m held ≡ true
EventFits c high held _ = Unit {0}

abbrev pub ends : Option Event → Bool
ends event = option_map_or is_end event false

-- the holds are nested after the entry as they were before
pub Rising-after : (c : Configuration) (high : ℕ) (held : List Hold) (event : Option Event) → Rising c 1 high held
    → (innermost_left c held ≡ 1 → ends_hold event held ≡ true) → ends event ≡ false → EventFits c (high - 1) (map aged held) event
    → Rising c 1 (high - 1) (held_after event (map aged held))
Rising-after c high held (Some (Event.Unlock m)) r must runs fits = Rising-unlock c (high - 1) m (map aged held) (Rising-tick c 0 high held r) fits
Rising-after c high held (Some (Event.Lock m)) r must runs fits =
    Rising-lock c 1 (high - 1) m (map aged held) (Rising-tick c 1 high held (not-last c high held (Some (Event.Lock m)) r must (λ h rest x. absurd (cc)))) fits
Rising-after c high held (Some Event.Exit) r must runs fits = absurd (cc)
Rising-after c high held (Some (Event.Fault kind)) r must runs fits = absurd (cc)
Rising-after c high held None r must runs fits = Rising-tick c 1 high held (not-last c high held None r must (λ h rest x. absurd (cc)))
Rising-after c high held (Some event) r must runs fits = Rising-tick c 1 high held (not-last c high held (Some event) r must (λ h rest x. absurd (cc)))

pub Users-aged : (c : Configuration) (p : ℕ) (held : List Hold) → Users c p held → Users c p (map aged held)
Users-aged c p [] u = tt
Users-aged c p (h ∷ held) u = (u.0, Users-aged c p held u.1)

pub Users-filter : (c : Configuration) (p : ℕ) (test : Hold → Bool) (held : List Hold) → Users c p held → Users c p (filter test held)
Users-filter c p test [] u = tt
Users-filter c p test (h ∷ held) u =
    elim (cases_Bool (test h)) [
      | inl stays ↦ rw stays (u.0, Users-filter c p test held u.1)
      | inr gone ↦ rw gone (Users-filter c p test held u.1)
    ]

abbrev pub LocksOwn : Configuration → ℕ → Option Event → Type 0
LocksOwn c p (Some (Event.Lock m)) = is_user c m p ≡ true
LocksOwn c p _ = Unit {0}

pub Users-after : (c : Configuration) (p : ℕ) (held : List Hold) (event : Option Event) → Users c p held → LocksOwn c p event → Users c p (held_after event held)
Users-after c p held (Some (Event.Lock m)) u own = (own, Users-filter c p (λ h. not (eqb h.mutex m)) held u)
Users-after c p held (Some (Event.Unlock m)) u own = Users-filter c p (λ h. not (eqb h.mutex m)) held u
Users-after c p held None u own = u
Users-after c p held (Some event) u own = u

ceiling-filter : (c : Configuration) (n : ℕ) (test : Hold → Bool) (held : List Hold) → least_ceiling c n held ≤ least_ceiling c n (filter test held)
ceiling-filter c n test [] = omega arith
ceiling-filter c n test (h ∷ held) = grind (arith, nat_tests, ceiling-filter c n test held)

ceiling-mono : (c : Configuration) (k n : ℕ) (held : List Hold) → k ≤ n → least_ceiling c k held ≤ least_ceiling c n held
ceiling-mono c k n [] le = le
ceiling-mono c k n (h ∷ held) le = let rest = ceiling-mono c k n held le in omega arith

ceiling-min : (c : Configuration) (k n : ℕ) (held : List Hold) → min k (least_ceiling c n held) ≤ least_ceiling c k held
ceiling-min c k n [] = omega arith
ceiling-min c k n (h ∷ held) = let rest = ceiling-min c k n held in omega arith

ceiling-held : (c : Configuration) (n m : ℕ) (held : List Hold) → is_held m held ≡ true → least_ceiling c n held ≤ ceiling c m
ceiling-held c n m [] h = absurd (cc)
ceiling-held c n m (k ∷ held) h = grind (arith, nat_tests, ceiling-held c n m held)

-- the innermost mutex has a ceiling up to the level
abbrev pub IsUnder : Configuration → ℕ → List Hold → Type 0
IsUnder c level [] = Unit {0}
IsUnder c level (h ∷ held) = ceiling c h.mutex ≤ level

pub under-aged : (c : Configuration) (level : ℕ) (held : List Hold) → IsUnder c level held → IsUnder c level (map aged held)
under-aged c level held u = grind (arith, nat_tests)

pub users-under : (c : Configuration) (p level : ℕ) (held : List Hold) → IsChecked c → main_level c p ≤ level → Users c p held → IsUnder c level held
users-under c p level held checked low u = grind (arith, nat_tests)

-- the level at which a thread runs
pub level-aged : (c : Configuration) (own : ℕ) (held : List Hold) → level_holding c own (map aged held) ≡ level_holding c own held
level-aged c own held = grind (arith, nat_tests, ceiling-aged)

pub level-most : (c : Configuration) (own : ℕ) (held : List Hold) → IsUnder c own held → level_holding c own held ≤ own
level-most c own held u = grind (arith, nat_tests, ceiling-most)

level-least : (c : Configuration) (own : ℕ) (held : List Hold) → IsUnder c own held → level_holding c own held ≤ least_ceiling c own held
level-least c own held u = grind (arith, nat_tests, ceiling-most, ceiling-mono)

least-level : (c : Configuration) (own : ℕ) (held : List Hold) → least_ceiling c own held ≤ level_holding c own held
least-level c own held = grind (arith, nat_tests, ceiling-min)

pub level-filter : (c : Configuration) (own : ℕ) (test : Hold → Bool) (held : List Hold) → IsUnder c own held
    → level_holding c own held ≤ level_holding c own (filter test held)
level-filter c own test held u = grind (arith, nat_tests, level-least, ceiling-filter, least-level)

pub level-held : (c : Configuration) (own m : ℕ) (held : List Hold) → is_held m held ≡ true → level_holding c own held ≤ ceiling c m
level-held c own m held h = grind (arith, nat_tests, ceiling-most, ceiling-held)

-- the greatest time left at mutexes of ceilings up to j
pub greatest-aged : (c : Configuration) (j : ℕ) (held : List Hold) → greatest_left c j (map aged held) ≡ greatest_left c j held - 1
greatest-aged c j [] = omega arith
greatest-aged c j (h ∷ held) = grind (arith, nat_tests, greatest-aged c j held)

pub greatest-filter : (c : Configuration) (j : ℕ) (test : Hold → Bool) (held : List Hold) → greatest_left c j (filter test held) ≤ greatest_left c j held
greatest-filter c j test [] = omega arith
greatest-filter c j test (h ∷ held) = grind (arith, nat_tests, greatest-filter c j test held)

-- a mutex that counts has at least as much left as the innermost one
pub greatest-low : (c : Configuration) (j low high : ℕ) (held : List Hold) → Rising c low high held → 0 < greatest_left c j held → low ≤ greatest_left c j held
greatest-low c j low high [] r some = absurd (omega arith)
greatest-low c j low high (h ∷ held) r some = grind (arith, nat_tests, greatest-low c j (suc (hold_left c h)) high held)

greatest-some_below : (c : Configuration) (j level high : ℕ) (held : List Hold) → Rising c 1 high held → least_ceiling c level held ≤ j → j < level → 0 < greatest_left c j held
greatest-some_below c j level high [] r low slow = absurd (omega arith)
greatest-some_below c j level high (h ∷ held) r low slow = grind (arith, nat_tests, Rising-lower, greatest-some_below c j level high held)

-- who runs at a level up to j, and is slower, keeps level j waiting
pub greatest-some : (c : Configuration) (j own high : ℕ) (held : List Hold) → Rising c 1 high held → level_holding c own held ≤ j → j < own → 0 < greatest_left c j held
greatest-some c j own high [] r low slow = absurd (omega arith)
greatest-some c j own high (h ∷ held) r low slow =
    elim (cases_lt j (ceiling c h.mutex)) [
      | inl above ↦
          let rest = greatest-some_below c j (ceiling c h.mutex) high held (Rising-lower c (suc (hold_left c h)) 1 high held (omega arith) r.2) low above in
          omega arith
      | inr counts ↦ let b : leb (ceiling c h.mutex) j ≡ true = grind (arith, nat_tests) in rw b (omega (arith, r.0))
    ]

greatest-below : (c : Configuration) (j level : ℕ) (held : List Hold) → 0 < greatest_left c j held → least_ceiling c level held ≤ j
greatest-below c j level [] some = absurd (omega arith)
greatest-below c j level (h ∷ held) some = grind (arith, nat_tests, greatest-below c j level held)

-- who keeps level j waiting runs at a level up to j
pub greatest-level : (c : Configuration) (j own : ℕ) (held : List Hold) → 0 < greatest_left c j held → level_holding c own held ≤ j
greatest-level c j own held some = grind (arith, nat_tests, greatest-below, ceiling-most)

-- an inner lock does not raise it where a mutex counts already
pub greatest-lock : (c : Configuration) (j low high m : ℕ) (held : List Hold) → Rising c low high held → 0 < greatest_left c j held → LockFits c high m held
    → greatest_left c j (record { mutex = m; ticks = 0 } ∷ given_back m held) ≤ greatest_left c j held
greatest-lock c j low high m held r some fits = grind (arith, nat_tests, greatest-low, given_back-free)

pub nested-lower : (c : Configuration) (low high : ℕ) (held : List Hold) → low ≤ high → AreNested c high held → AreNested c low held
nested-lower c low high [] less r = tt
nested-lower c low high (h ∷ held) less r = (omega (arith, r.0), r.1)

nested-aged : (c : Configuration) (low : ℕ) (held : List Hold) → AreNested c (suc low) held → AreNested c low (map aged held)
nested-aged c low [] r = tt
nested-aged c low (h ∷ held) r = grind (arith, nat_tests, nested-aged c (suc (past_left c (aged h))) held)

pub nested-above : (c : Configuration) (low : ℕ) (held : List Hold) (h : Hold) → AreNested c low held → Has held h → low ≤ past_left c h
nested-above c low [] h r has = absurd has
nested-above c low (k ∷ held) h r (inl is) = let same = ap (past_left c) is in omega (arith, r.0, same)
nested-above c low (k ∷ held) h r (inr has) = let rest = nested-above c (suc (past_left c k)) held h r.1 has in omega (arith, r.0, rest)

pub nested-quiet : (c : Configuration) (x : ThreadId) (label : Label) (past : List Entry) → AreNested c 1 (held_by x past) → AreNested c 0 (held_by x (quiet label ∷ past))
nested-quiet c x label past nest =
    subst (AreNested c 0) (sym (quiet-held x label past)) (by (is_of x (quiet label)))
  where
    by : (b : Bool) → AreNested c 0 (cond b (map aged (held_by x past)) (held_by x past))
    by true = nested-aged c 0 (held_by x past) nest
    by false = nested-lower c 0 1 (held_by x past) (omega arith) nest
