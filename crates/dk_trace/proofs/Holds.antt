-- What an entry does to the holds of a thread, and what stays as they age.
use Rattle.dk_trace.proofs.Names.{ℕ, ◌≡◌, ◌≤◌, inl, inr, true, false, ◌||◌, eqb, List, [], ◌∷◌, refl, ap, arith, ◌∙◌, ◌&&◌, leb, Bool, ltb, cond, cases_lt, nat_tests, map, min, Configuration, ceiling, ThreadId, Entry, is_of, stops, quiet, Has, Hold, aged, held_after, held_by, is_held, is_holding, least_ceiling, given_back, level_holding, is_past_innermost, blocking, Label}
use Rattle.dk_trace.proofs.Charged.{quiet-stops}
use Rattle.dk_trace.proofs.Members.{sum_by-zero}

pub held-stopped : (x : ThreadId) (e : Entry) (past : List Entry) → stops x e ≡ true → held_by x (e ∷ past) ≡ []
held-stopped x e past stopped = rw stopped refl

pub held-other : (x : ThreadId) (e : Entry) (past : List Entry) → stops x e ≡ false → is_of x e ≡ false → held_by x (e ∷ past) ≡ held_by x past
held-other x e past runs other = rw runs (rw other refl)

pub held-mine : (x : ThreadId) (e : Entry) (past : List Entry) → stops x e ≡ false → is_of x e ≡ true
    → held_by x (e ∷ past) ≡ held_after e.event (map aged (held_by x past))
held-mine x e past runs mine = rw runs (rw mine refl)

pub aged-held : (m : ℕ) (held : List Hold) → is_held m (map aged held) ≡ is_held m held
aged-held m [] = refl
aged-held m (h ∷ held) = ap (λ b. (eqb h.mutex m) || b) (aged-held m held)

pub aged-holding : (held : List Hold) → is_holding (map aged held) ≡ is_holding held
aged-holding held = grind (arith, nat_tests)

pub ceiling-aged : (c : Configuration) (n : ℕ) (held : List Hold) → least_ceiling c n (map aged held) ≡ least_ceiling c n held
ceiling-aged c n [] = refl
ceiling-aged c n (h ∷ held) = ap (min (ceiling c h.mutex)) (ceiling-aged c n held)

pub ceiling-most : (c : Configuration) (n : ℕ) (held : List Hold) → least_ceiling c n held ≤ n
ceiling-most c n [] = omega arith
ceiling-most c n (h ∷ held) = let rest = ceiling-most c n held in omega arith

pub has-aged : (held : List Hold) (h : Hold) → Has (map aged held) h → (k : Hold) × Has held k × (aged k ≡ h)
has-aged [] h has = absurd has
has-aged (k ∷ held) h (inl is) = (k, inl refl, is)
has-aged (k ∷ held) h (inr rest) = let r = has-aged held h rest in (r.0, inr r.1, r.2)

ceiling-min : (c : Configuration) (n k : ℕ) (held : List Hold) → least_ceiling c (min n k) held ≡ min n (least_ceiling c k held)
ceiling-min c n k [] = refl
ceiling-min c n k (h ∷ held) = let rest = ceiling-min c n k held in omega (arith, rest)

-- a mutex given back doesn't count under its own ceiling
pub ceiling-given : (c : Configuration) (m : ℕ) (held : List Hold) → least_ceiling c (ceiling c m) (given_back m held) ≡ least_ceiling c (ceiling c m) held
ceiling-given c m [] = refl
ceiling-given c m (h ∷ held) = grind (arith, nat_tests, ceiling-most, ceiling-given c m held)

-- where a mutex of ceiling a is held with others, the levels from there up to that of the others
pub between-is : (c : Configuration) (a own j : ℕ) (held : List Hold)
    → (leb (least_ceiling c a held) j && ltb j (level_holding c own held)) ≡ (leb a j && ltb j (level_holding c own held))
between-is c a own j [] = refl
between-is c a own j (h ∷ held) =
    let k = ceiling c h.mutex in
    let one = ceiling-min c k a held in
    let two = ceiling-min c a k held in
    let swap : min k a ≡ min a k = omega arith in
    let three = ap (λ n. least_ceiling c n held) swap in
    let is : least_ceiling c a (h ∷ held) ≡ min a (least_ceiling c k held) = omega (arith, one, two, three) in
    ap (λ n. leb n j && ltb j (least_ceiling c k held)) is ∙ tests a (least_ceiling c k held)
  where
    tests : (a b : ℕ) → (leb (min a b) j && ltb j b) ≡ (leb a j && ltb j b)
    tests a b =
        elim (cases_lt j b) [
          | inl less ↦
              elim (cases_lt j a) [
                | inl above ↦ let x : leb (min a b) j ≡ false = grind (arith, nat_tests) in let y : leb a j ≡ false = grind (arith, nat_tests) in rw (x, y) refl
                | inr under ↦ let x : leb (min a b) j ≡ true = grind (arith, nat_tests) in let y : leb a j ≡ true = grind (arith, nat_tests) in rw (x, y) refl
              ]
          | inr more ↦ let z : ltb j b ≡ false = grind (arith, nat_tests) in rw z (off (leb (min a b) j) (leb a j))
        ]
      where
        off : (p q : Bool) → (p && false) ≡ (q && false)
        off true true = refl
        off true false = refl
        off false true = refl
        off false false = refl

-- and so where the innermost of them is given back
pub between-given : (c : Configuration) (m own j : ℕ) (held : List Hold) → is_past_innermost m held ≡ true
    → (leb (level_holding c own held) j && ltb j (level_holding c own (given_back m held))) ≡ (leb (ceiling c m) j && ltb j (level_holding c own (given_back m held)))
between-given c m own j held inner = grind (arith, nat_tests, ceiling-given, between-is)

pub innermost-aged : (m : ℕ) (held : List Hold) → is_past_innermost m (map aged held) ≡ is_past_innermost m held
innermost-aged m held = grind (arith, nat_tests)

-- the holds in a tick without an event
pub quiet-held : (x : ThreadId) (label : Label) (past : List Entry)
    → held_by x (quiet label ∷ past) ≡ cond (is_of x (quiet label)) (map aged (held_by x past)) (held_by x past)
quiet-held x label past = ap (λ b. cond b [] (cond (is_of x (quiet label)) (map aged (held_by x past)) (held_by x past))) (quiet-stops x label)

pub no-blocking : (c : Configuration) (j : ℕ) → blocking c [] j ≡ 0
no-blocking c j = grind (arith, nat_tests, sum_by-zero)

pub holding-some : (held : List Hold) (h : Hold) → Has held h → is_holding held ≡ true
holding-some held h has = grind (arith, nat_tests)

-- who holds something after a tick without an event held something before it
pub quiet-holds : (x : ThreadId) (label : Label) (past : List Entry) → is_holding (held_by x (quiet label ∷ past)) ≡ is_holding (held_by x past)
quiet-holds x label past = grind (arith, nat_tests)
