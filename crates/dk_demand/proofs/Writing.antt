-- What the demand is seen as after writes of its lists.
use Rattle.dk_demand.proofs.Names.{◌≡◌, ◌<◌, ◌∙◌, ℕ, List, length, get_or, set, refl, refill, length-set, Clock, Cells, by_level, at_level, refill-whole, nat_tests, arith}
use Rattle.dk_demand.proofs.Changing.{set-by_level, length-by_level}

-- what a list has after its slice, which was ys, had one cell written
pub put : (xs ys : List ℕ) (level v : ℕ) → ys ≡ xs → refill (length xs) xs (set ys level v) ≡ set xs level v
put xs ys level v same = grind (arith, nat_tests, refill-whole, length-set)

pub written : (f : ℕ → ℕ) (xs ys : List ℕ) (level v : ℕ) → ys ≡ xs → level < length xs → v ≡ f (get_or xs level 0)
    → refill (length xs) xs (set ys level v) ≡ by_level (at_level level f) xs
written f xs ys level v same below is = put xs ys level v same ∙ set-by_level f xs level v below is

-- and after its slice was changed by levels
pub rewritten : (f : ℕ → ℕ → ℕ) (xs ys zs : List ℕ) → ys ≡ xs → zs ≡ by_level f ys → refill (length xs) xs zs ≡ by_level f xs
rewritten f xs ys zs same changed = grind (arith, nat_tests, refill-whole, length-by_level)

abbrev pub cells : List ℕ → List ℕ → List ℕ → Clock → Cells
cells own remaining blocking windows = record { own = own; remaining = remaining; blocking = blocking; windows = windows }

pub cells-same : (a a' b b' h h' : List ℕ) (w : Clock) → a ≡ a' → b ≡ b' → h ≡ h' → cells a b h w ≡ cells a' b' h' w
cells-same a a' b b' h h' w p q r = rw (p, q, r) refl
