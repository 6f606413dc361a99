-- The least of numbers that come one by one.
use Rattle.dk_mutex.proofs.Names.{◌≡◌, ◌<◌, ◌+◌, add-one, ℕ, zero, suc, List, [], ◌∷◌, length, map, take, get_or, Option, None, arith, Lockable, joined, least, nat_tests}

joined-none : (a : Option ℕ) → joined a None ≡ a
joined-none a = grind (arith, nat_tests)

joined-assoc : (a b c : Option ℕ) → joined a (joined b c) ≡ joined (joined a b) c
joined-assoc a b c = grind (arith, nat_tests)

least-take : (f : Lockable → Option ℕ) (rows : List Lockable) (i : ℕ) (d : Lockable) → i < length rows
    → least (map f (take (suc i) rows)) ≡ joined (least (map f (take i rows))) (f (get_or rows i d))
least-take f [] i d h = absurd (omega arith)
least-take f (row ∷ rows) zero d h = joined-none (f row)
least-take f (row ∷ rows) (suc i) d h = grind (arith, nat_tests, joined-none, joined-assoc, least-take f rows i)

pub least-more : (f : Lockable → Option ℕ) (rows : List Lockable) (i : ℕ) (d : Lockable) → i < length rows
    → least (map f (take (i + 1) rows)) ≡ joined (least (map f (take i rows))) (f (get_or rows i d))
least-more f rows i d h = rw add-one (least-take f rows i d h)

-- what stands in the code's place of an item past the end
abbrev pub no_row : Lockable
no_row = record { ceiling = 0; hold = 0; users = []; holder = None }
