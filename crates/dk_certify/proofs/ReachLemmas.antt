-- A mutex that blocks a level still does where a `max_level` is greater.
use Rattle.std.proofs.Common.{◌≡◌, ◌∙◌, sym, ◌≤◌, ℕ, Bool, true, false, List, [], ◌∷◌, map, filter, arith, refl, ap, subst}
use Rattle.std.specs.Prelude.{if◌then◌else◌, nat_lt, nat_le, ◌&&◌, ◌||◌}
use Rattle.std.specs.List.{list_any}
use Rattle.std.proofs.lemmas.Bool.{ltb-true, lt-ltb}
use Rattle.dk_config.specs.Configuration.{Configuration}
use Rattle.dk_config.specs.Mutex.{Mutex}
use Rattle.dk_config.specs.declared.rows.ProcessRow.{ProcessRow}
use Rattle.dk_config.specs.Sums.{greatest}
use Rattle.dk_config.specs.Certification.{level_blocking, can_block, uses}
use Rattle.dk_certify.specs.Laws.{ReachNoFurther, ReachesNoFurther}

-- whether the process uses the mutex and can have a thread slower than the level
abbrev slower_user : ℕ → Mutex → ProcessRow → Bool
slower_user j mutex row = uses mutex row && (nat_lt j row.level || (nat_lt 0 row.threads && nat_lt j row.max_level))

-- a fact of the first is a fact of the second
abbrev Implies : Bool → Bool → Type 0
Implies a b = a ≡ true → b ≡ true

and_more : (a b b' : Bool) → Implies b b' → Implies (a && b) (a && b')
and_more true b b' h e = h e
and_more false b b' h e = e

or_more : (a b b' : Bool) → Implies b b' → Implies (a || b) (a || b')
or_more true b b' h e = refl
or_more false b b' h e = h e

either_more : (a a' b b' : Bool) → Implies a a' → Implies b b' → Implies (a || b) (a' || b')
either_more true a' b b' h k e = ap (λ x. x || b') (h refl)
either_more false true b b' h k e = refl
either_more false false b b' h k e = k e

further : (j m n : ℕ) → m ≤ n → Implies (nat_lt j m) (nat_lt j n)
further j m n h e = lt-ltb j n (let below = ltb-true j m e in omega (arith, below, h))

longer_reach : (j : ℕ) (mutex : Mutex) (q : ProcessRow) (most : ℕ) → most ≤ q.max_level → Implies (slower_user j mutex (record q { max_level = most })) (slower_user j mutex q)
longer_reach j mutex q most h =
    and_more (uses mutex q) (nat_lt j q.level || (nat_lt 0 q.threads && nat_lt j most)) (nat_lt j q.level || (nat_lt 0 q.threads && nat_lt j q.max_level))
    (or_more (nat_lt j q.level) (nat_lt 0 q.threads && nat_lt j most) (nat_lt 0 q.threads && nat_lt j q.max_level)
    (and_more (nat_lt 0 q.threads) (nat_lt j most) (nat_lt j q.max_level) (further j most q.max_level h)))

some_slower_user : (j : ℕ) (mutex : Mutex) (ps qs : List ProcessRow) → ReachNoFurther ps qs → Implies (list_any (slower_user j mutex) ps) (list_any (slower_user j mutex) qs)
some_slower_user j mutex [] [] h e = e
some_slower_user j mutex [] (q ∷ qs) h e = absurd h
some_slower_user j mutex (p ∷ ps) [] h e = absurd h
some_slower_user j mutex (p ∷ ps) (q ∷ qs) h e =
    either_more (slower_user j mutex p) (slower_user j mutex q) (list_any (slower_user j mutex) ps) (list_any (slower_user j mutex) qs)
    (λ e. longer_reach j mutex q p.max_level h.1 (ap (slower_user j mutex) (sym h.0) ∙ e)) (some_slower_user j mutex ps qs h.2) e

abbrev holds : List Mutex → List ℕ
holds ms = map (λ m. m.hold) ms

with_first : (a b : Bool) (ms ns : List Mutex) (m : Mutex) → Implies a b → greatest (holds ms) ≤ greatest (holds ns)
    → greatest (holds (if a then (m ∷ ms) else ms)) ≤ greatest (holds (if b then (m ∷ ns) else ns))
with_first true true ms ns m h le = omega (arith, le)
with_first true false ms ns m h le = let wrong : false ≡ true = h refl in cc
with_first false true ms ns m h le = omega (arith, le)
with_first false false ms ns m h le = le

-- the greatest of what passes two tests, of which the second lets more through
greatest_more : (p q : Mutex → Bool) → ((m : Mutex) → Implies (p m) (q m)) → (ms : List Mutex) → greatest (map (λ m. m.hold) (filter p ms)) ≤ greatest (map (λ m. m.hold) (filter q ms))
greatest_more p q h [] = omega arith
greatest_more p q h (m ∷ ms) = with_first (p m) (q m) (filter p ms) (filter q ms) m (h m) (greatest_more p q h ms)

pub blocks_no_longer : (c d : Configuration) → ReachesNoFurther c d → (j : ℕ) → level_blocking c j ≤ level_blocking d j
blocks_no_longer c d h j =
    let same : c.mutexes ≡ d.mutexes = ap (λ x. x.mutexes) h.0 in
    let more = greatest_more (can_block c j) (can_block d j) (λ m. and_more (nat_le m.ceiling j) (list_any (slower_user j m) c.processes) (list_any (slower_user j m) d.processes) (some_slower_user j m c.processes d.processes h.1)) d.mutexes in
    subst (λ ms. greatest (map (λ m. m.hold) (filter (can_block c j) ms)) ≤ level_blocking d j) (sym same) more
