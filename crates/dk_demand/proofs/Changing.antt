-- Lists that are changed by levels, item by item.
use Rattle.dk_demand.proofs.Names.{◌≡◌, ◌≢◌, ◌<◌, ◌≤◌, ◌+◌, ◌-◌, ◌∙◌, ◌⊎◌, ℕ, zero, suc, true, false, List, [], ◌∷◌, length, get_or, set, refl, ap, sym, arith, slice_get, ◌==◌, option_map, length-set, nat_tests, eqb_tells, ext_get_or, get_or-set_same, get_or-set_other, by_level, at_level, between}

pub length-by_level : (f : ℕ → ℕ → ℕ) (ns : List ℕ) → length (by_level f ns) ≡ length ns
length-by_level f [] = refl
length-by_level f (n ∷ ns) = ap suc (length-by_level (λ j. f (suc j)) ns)

pub get_or-by_level : (f : ℕ → ℕ → ℕ) (ns : List ℕ) (j : ℕ) → j < length ns → get_or (by_level f ns) j 0 ≡ f j (get_or ns j 0)
get_or-by_level f [] j below = absurd (omega arith)
get_or-by_level f (n ∷ ns) zero below = refl
get_or-by_level f (n ∷ ns) (suc j) below = get_or-by_level (λ k. f (suc k)) ns j (omega arith)

pub slice_get-by_level : (f : ℕ → ℕ → ℕ) (ns : List ℕ) (j : ℕ) → slice_get (by_level f ns) j ≡ option_map (f j) (slice_get ns j)
slice_get-by_level f [] j = refl
slice_get-by_level f (n ∷ ns) zero = refl
slice_get-by_level f (n ∷ ns) (suc j) = slice_get-by_level (λ k. f (suc k)) ns j

-- a list with the changed items is the changed list
pub is-by_level : (f : ℕ → ℕ → ℕ) (ns ms : List ℕ) → length ms ≡ length ns
    → ((j : ℕ) → j < length ns → get_or ms j 0 ≡ f j (get_or ns j 0)) → ms ≡ by_level f ns
is-by_level f ns ms same each =
    ext_get_or 0 ms (by_level f ns) (same ∙ sym (length-by_level f ns))
    (λ j below. let inside : j < length ns = omega arith in each j inside ∙ sym (get_or-by_level f ns j inside))

-- a cell written at one level
at_level-set : (f : ℕ → ℕ) (ns : List ℕ) (level v j : ℕ) → level < length ns → v ≡ f (get_or ns level 0)
    → ((j == level) ≡ true) × (j ≡ level) ⊎ ((j == level) ≡ false) × (j ≢ level) → get_or (set ns level v) j 0 ≡ at_level level f j (get_or ns j 0)
at_level-set f ns level v j below is at = grind (arith, nat_tests, get_or-set_same, get_or-set_other)

pub set-by_level : (f : ℕ → ℕ) (ns : List ℕ) (level v : ℕ) → level < length ns → v ≡ f (get_or ns level 0)
    → set ns level v ≡ by_level (at_level level f) ns
set-by_level f ns level v below is = grind (arith, nat_tests, is-by_level, length-set, at_level-set, eqb_tells)

-- nothing is changed between a level and itself
between-none : (f : ℕ → ℕ) (first j n : ℕ) → between first first f j n ≡ n
between-none f first j n = grind (arith, nat_tests)

pub between-start : (f : ℕ → ℕ) (ns : List ℕ) (first : ℕ) → ns ≡ by_level (between first first f) ns
between-start f ns first = is-by_level (between first first f) ns ns refl (λ j inside. sym (between-none f first j (get_or ns j 0)))

-- and the item of the next level is as it was
pub between-next : (f : ℕ → ℕ) (ns : List ℕ) (first at : ℕ) → at < length ns
    → get_or (by_level (between first at f) ns) at 0 ≡ get_or ns at 0
between-next f ns first at below = grind (arith, nat_tests, get_or-by_level)

between-here : (f : ℕ → ℕ) (first at n : ℕ) → first ≤ at → between first (at + 1) f at n ≡ f n
between-here f first at n past = grind (arith, nat_tests)

between-there : (f : ℕ → ℕ) (first at j n : ℕ) → j ≢ at → between first at f j n ≡ between first (at + 1) f j n
between-there f first at j n other = grind (arith, nat_tests)

between-set : (f : ℕ → ℕ) (ns : List ℕ) (first at v j : ℕ) → first ≤ at → at < length ns → j < length ns → v ≡ f (get_or ns at 0)
    → ((j == at) ≡ true) × (j ≡ at) ⊎ ((j == at) ≡ false) × (j ≢ at)
    → get_or (set (by_level (between first at f) ns) at v) j 0 ≡ between first (at + 1) f j (get_or ns j 0)
between-set f ns first at v j past below inside is has = grind (arith, nat_tests, length-by_level, get_or-set_same, between-here, get_or-set_other, get_or-by_level, between-there)

-- one more level is changed
pub between-more : (f : ℕ → ℕ) (ns : List ℕ) (first at v : ℕ) → first ≤ at → at < length ns → v ≡ f (get_or ns at 0)
    → set (by_level (between first at f) ns) at v ≡ by_level (between first (at + 1) f) ns
between-more f ns first at v past below is =
    is-by_level (between first (at + 1) f) ns (set (by_level (between first at f) ns) at v)
    (length-set (by_level (between first at f) ns) at v ∙ length-by_level (between first at f) ns)
    (λ j inside. between-set f ns first at v j past below inside is (eqb_tells j at))

-- up to a level, where the level is the last one or there is none to change
pub between-stop : (f : ℕ → ℕ) (ns : List ℕ) (first at level : ℕ) → level ≤ at → at ≤ first + (level - first)
    → by_level (between first at f) ns ≡ by_level (between first level f) ns
between-stop f ns first at level end last = grind (arith, nat_tests)
