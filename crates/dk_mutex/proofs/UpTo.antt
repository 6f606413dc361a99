-- The greatest of numbers that come one by one.
use Rattle.dk_mutex.proofs.Names.{◌≡◌, ◌<◌, ◌+◌, add-one, ℕ, zero, suc, List, [], ◌∷◌, length, take, get_or, arith, max, ThreadId, Lockable, left_under, left_up_to, nat_tests}

max-assoc : (a b c : ℕ) → max a (max b c) ≡ max (max a b) c
max-assoc a b c = omega arith

max-zero : (a : ℕ) → max a 0 ≡ max 0 a
max-zero a = omega arith

up_to-take : (x : ThreadId) (j : ℕ) (rows : List Lockable) (i : ℕ) (d : Lockable) → i < length rows
    → left_up_to x j (take (suc i) rows) ≡ max (left_up_to x j (take i rows)) (left_under x j (get_or rows i d))
up_to-take x j [] i d h = absurd (omega arith)
up_to-take x j (row ∷ rows) zero d h = grind (arith, nat_tests, max-zero, max-assoc)
up_to-take x j (row ∷ rows) (suc i) d h = grind (arith, nat_tests, max-zero, max-assoc, up_to-take x j rows i)

pub up_to-more : (x : ThreadId) (j : ℕ) (rows : List Lockable) (i : ℕ) (d : Lockable) → i < length rows
    → left_up_to x j (take (i + 1) rows) ≡ max (left_up_to x j (take i rows)) (left_under x j (get_or rows i d))
up_to-more x j rows i d h = rw add-one (up_to-take x j rows i d h)
