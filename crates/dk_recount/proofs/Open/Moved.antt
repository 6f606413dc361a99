-- How many threads get a fresh share at a tick, and that the tick moves each of them.
use Rattle.dk_recount.proofs.Names.{◌≡◌, ◌≤◌, ◌&&◌, ◌||◌, Bool, true, false, ℕ, suc, List, [], ◌∷◌, length, is_none, refl, arith, count_by, if◌then◌else◌, sum_by-cons, Configuration, Entry, Thread, threads, begins, is_moved, moved, starts_at, stops_in}
use Rattle.dk_recount.specs.Counts.{ends_at}

-- how many threads that were not stopped have a window of their level that begins
abbrev pub released_now : Configuration → List Entry → ℕ
released_now c past = count_by (λ x. is_none x.stop && begins c x.level (length past)) (threads c past)

-- a test that another one implies passes no more often
count-more : (p q : Thread → Bool) → ((x : Thread) → p x ≡ true → q x ≡ true) → (xs : List Thread) → count_by p xs ≤ count_by q xs
count-more p q more [] = omega arith
count-more p q more (x ∷ xs) =
    let a = sum_by-cons (λ y. if p y then 1 else 0) x xs in
    let b = sum_by-cons (λ y. if q y then 1 else 0) x xs in
    let rest = count-more p q more xs in
    let here = one (p x) (q x) (more x) in
    omega (arith, a, b, rest, here)
  where
    one : (s t : Bool) → (s ≡ true → t ≡ true) → (if s then 1 else 0) ≤ (if t then 1 else 0)
    one false t h = omega arith
    one true true h = omega arith
    one true false h = let none = h refl in absurd (cc)

pub released-moved : (c : Configuration) (e : Entry) (past : List Entry) → released_now c (e ∷ past) ≤ moved c (e ∷ past)
released-moved c e past =
    count-more (λ x. is_none x.stop && begins c x.level (suc (length past))) (is_moved c (length past))
    (λ x released. last (stops_in (length past) x) (starts_at (suc (length past)) x) (ends_at c (suc (length past)) x) _ released)
    (threads c (e ∷ past))
  where
    last : (a b d h : Bool) → h ≡ true → (a || (b || (d || h))) ≡ true
    last true b d h is = refl
    last false true d h is = refl
    last false false true h is = refl
    last false false false h is = is
