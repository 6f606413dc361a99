-- The entries of a process in whole windows of two runs that number it differently.
use Rattle.dk_impact.proofs.Names.{ℕ, zero, suc, ◌≡◌, ◌+◌, ◌*◌, List, [], ◌∷◌, ◌++◌, map, refl, ap, ◌∙◌, subst, arith, take, append_cancel_right, filter-append, Configuration, period, main_level, Entry, trace, world, entries_of, is_of_process, own_window, entry-by, on, on-is, renamed, IsSameAcross, nat_tests}

-- the entries of the last ticks stand before those up to an earlier tick
last-ticks : (c : Configuration) (programs : List (List ℕ)) (t n : ℕ) → trace c programs (on n t) ≡ take n (trace c programs (on n t)) ++ trace c programs t
last-ticks c programs t zero = refl
last-ticks c programs t (suc n) = grind (arith, nat_tests, on, entry-by, last-ticks c programs t n)

-- so those of a process are parted
parted : (c : Configuration) (programs : List (List ℕ)) (p t n : ℕ)
    → entries_of p (trace c programs (t + n)) ≡ entries_of p (take n (trace c programs (t + n))) ++ entries_of p (trace c programs t)
parted c programs p t n =
    let turned : on n t ≡ t + n = on-is n t ∙ omega arith in
    ap (entries_of p) (subst (λ k. trace c programs k ≡ take n (trace c programs k) ++ trace c programs t) turned (last-ticks c programs t n))
    ∙ filter-append (is_of_process p) (take n (trace c programs (t + n))) (trace c programs t)

map-parts : (f : Entry → Entry) (a b : List Entry) → map f (a ++ b) ≡ map f a ++ map f b
map-parts f [] b = refl
map-parts f (e ∷ a) b = ap (λ es. f e ∷ es) (map-parts f a b)

-- where both ends of the windows are the same, what is between them is
pub windows-across : (c c' : Configuration) (programs others : List (List ℕ)) (p p' t n t' n' : ℕ)
    → IsSameAcross p p' (world c programs t) (world c' others t') → IsSameAcross p p' (world c programs (t + n)) (world c' others (t' + n'))
    → map (renamed p') (entries_of p (take n (trace c programs (t + n)))) ≡ entries_of p' (take n' (trace c' others (t' + n')))
windows-across c c' programs others p p' t n t' n' here there = grind (arith, nat_tests, append_cancel_right, map-parts, parted)

next-window : (P k : ℕ) → suc k * P ≡ k * P + P
next-window P k = grind arith

-- so it is with the k-th windows
pub windows-any-period : (c c' : Configuration) (programs others : List (List ℕ)) (p p' k : ℕ)
    → IsSameAcross p p' (world c programs (k * period c (main_level c p))) (world c' others (k * period c' (main_level c' p')))
    → IsSameAcross p p' (world c programs (suc k * period c (main_level c p))) (world c' others (suc k * period c' (main_level c' p')))
    → map (renamed p') (own_window c programs p (k * period c (main_level c p))) ≡ own_window c' others p' (k * period c' (main_level c' p'))
windows-any-period c c' programs others p p' k here there = grind (arith, nat_tests, windows-across, next-window)
