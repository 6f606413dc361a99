-- The tables at tick 0 are built one level, and one process, after the other; and they are the recount of no entries.
use Rattle.dk_recount.proofs.Names.{◌≡◌, ◌+◌, ℕ, true, false, cond, ltb, List, map, refl, arith, nat_tests, below, at_level, set_to, map-same}

-- f of each number that is low enough, and 0 of all others
abbrev pub part_filled : (ℕ → ℕ) → ℕ → ℕ → ℕ
part_filled f done j = cond (ltb j done) (f j) 0

abbrev pub filled : (ℕ → ℕ) → ℕ → ℕ → List ℕ
filled f done n = map (part_filled f done) (below n)

-- one more cell is filled
pub fill-more : (f : ℕ → ℕ) (k v j : ℕ) → v ≡ f k → at_level k (set_to v) j (part_filled f k j) ≡ part_filled f (k + 1) j
fill-more f k v j is = grind (arith, nat_tests)

pub fill-none : (f : ℕ → ℕ) (j : ℕ) → part_filled f 0 j ≡ 0
fill-none f j = let off : ltb j 0 ≡ false = grind (arith, nat_tests) in rw off refl

pub fill-all : (f : ℕ → ℕ) (n : ℕ) → filled f n n ≡ map f (below n)
fill-all f n = map-same (part_filled f n) f 0 n (λ j h. let on : ltb j n ≡ true = grind (arith, nat_tests) in rw on refl)
