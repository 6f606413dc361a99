-- Counters that run on, and what they have run since the marks.
use Rattle.dk_slack.proofs.Names.{◌≡◌, ◌<◌, ◌≤◌, ◌+◌, ◌%◌, ◌^◌, ◌∙◌, ℕ, zero, suc, List, [], ◌∷◌, ◌++◌, All, length, get_or, map, set, take, drop, replicate, refl, ap, arith, Option, Some, None, sum, refill, take_all, sum_by-cons, sum_by-set, raised, counted_for, since, run_of_slower, unclaimed_by, nat_tests}
use Rattle.std.proofs.Math.ListN.{length-set}
use Rattle.dk_config.proofs.Refills.{refill-whole}

-- the counter runs on by so many ticks
pub since-more : (k mark counter next : ℕ) → next % 2 ^ 32 ≡ (counter + k) % 2 ^ 32 → since mark counter + k < 2 ^ 32
    → since mark next ≡ since mark counter + k
since-more k mark counter next is room = omega arith

-- the mark is set where the counter stands
pub since-now : (mark counter : ℕ) → mark % 2 ^ 32 ≡ counter % 2 ^ 32 → since mark counter ≡ 0
since-now mark counter is = omega arith

-- the counter begins anew
pub since-wraps : (mark counter : ℕ) → since mark (counter % 2 ^ 32) ≡ since mark counter
since-wraps mark counter = omega arith

abbrev HaveRoom : ℕ → List ℕ → Type 0
HaveRoom k = All (λ n. n + k < 2 ^ 32)

-- ticks of nobody
pub nobodys-counted : (k nobodys next : ℕ) (counters marks : List ℕ) → next ≡ (nobodys + k) % 2 ^ 32
    → HaveRoom k (unclaimed_by nobodys counters marks)
    → unclaimed_by next counters marks ≡ map (λ n. n + k) (unclaimed_by nobodys counters marks)
nobodys-counted k nobodys next [] marks is room = refl
nobodys-counted k nobodys next (n ∷ counters) [] is room = refl
nobodys-counted k nobodys next (n ∷ counters) (mark ∷ marks) is room =
    rw (
      since-more k mark (nobodys + sum counters) (next + sum counters) (omega arith) (room 0 0 (omega arith)),
      nobodys-counted k nobodys next counters marks is (λ i d below. room (suc i) d (omega arith)),
    ) refl

-- ticks of the level
pub level-counted : (k nobodys level : ℕ) (counters marks : List ℕ) → level < length counters
    → HaveRoom k (take level (unclaimed_by nobodys counters marks))
    → unclaimed_by nobodys (set counters level ((get_or counters level 0 + k) % 2 ^ 32)) marks
    ≡ map (λ n. n + k) (take level (unclaimed_by nobodys counters marks)) ++ drop level (unclaimed_by nobodys counters marks)
level-counted k nobodys level [] marks inside room = absurd (omega arith)
level-counted k nobodys zero (n ∷ counters) [] inside room = refl
level-counted k nobodys (suc level) (n ∷ counters) [] inside room = refl
level-counted k nobodys zero (n ∷ counters) (mark ∷ marks) inside room = refl
level-counted k nobodys (suc level) (n ∷ counters) (mark ∷ marks) inside room =
    let known : level < length counters = omega arith in
    let next = set counters level ((get_or counters level 0 + k) % 2 ^ 32) in
    let written = sum_by-set (λ m. m) counters level ((get_or counters level 0 + k) % 2 ^ 32) 0 known in
    let more : (nobodys + sum next) % 2 ^ 32 ≡ (nobodys + sum counters + k) % 2 ^ 32 = omega (arith, written) in
    rw (
      since-more k mark (nobodys + sum counters) (nobodys + sum next) more (room 0 0 (omega arith)),
      level-counted k nobodys level counters marks known (λ i d below. room (suc i) d (omega arith)),
    ) refl

pub length-unclaimed : (nobodys : ℕ) (counters marks : List ℕ) → length counters ≡ length marks
    → length (unclaimed_by nobodys counters marks) ≡ length counters
length-unclaimed nobodys [] marks same = refl
length-unclaimed nobodys (n ∷ counters) [] same = absurd (omega arith)
length-unclaimed nobodys (n ∷ counters) (mark ∷ marks) same = ap suc (length-unclaimed nobodys counters marks (omega arith))

-- ticks of a level that isn't there are those of nobody
pub all-counted : (k level : ℕ) (us : List ℕ) → length us ≤ level
    → map (λ n. n + k) us ≡ map (λ n. n + k) (take level us) ++ drop level us
all-counted k zero [] past = refl
all-counted k (suc level) [] past = refl
all-counted k zero (u ∷ us) past = absurd (omega arith)
all-counted k (suc level) (u ∷ us) past = ap (λ ns. (u + k) ∷ ns) (all-counted k level us (omega arith))

-- whatever is booked
pub level-counts : (k : ℕ) (booked : Option ℕ) (nobodys level : ℕ) (counters marks : List ℕ) → booked ≡ Some level → level < length counters
    → HaveRoom k (raised booked (unclaimed_by nobodys counters marks))
    → unclaimed_by nobodys (set counters level ((get_or counters level 0 + k) % 2 ^ 32)) marks ≡ counted_for k booked (unclaimed_by nobodys counters marks)
level-counts k booked nobodys level counters marks is inside room = grind (arith, nat_tests, level-counted)

pub nobody-counts : (k : ℕ) (booked : Option ℕ) (nobodys : ℕ) (counters marks : List ℕ) → booked ≡ None
    → HaveRoom k (raised booked (unclaimed_by nobodys counters marks))
    → unclaimed_by ((nobodys + k) % 2 ^ 32) counters marks ≡ counted_for k booked (unclaimed_by nobodys counters marks)
nobody-counts k booked nobodys counters marks is room = grind (arith, nat_tests, nobodys-counted)

pub stranger-counts : (k : ℕ) (booked : Option ℕ) (nobodys level : ℕ) (counters marks : List ℕ) → booked ≡ Some level
    → length counters ≤ level → length counters ≡ length marks
    → HaveRoom k (raised booked (unclaimed_by nobodys counters marks))
    → unclaimed_by ((nobodys + k) % 2 ^ 32) counters marks ≡ counted_for k booked (unclaimed_by nobodys counters marks)
stranger-counts k booked nobodys level counters marks is past same room = grind (arith, nat_tests, length-unclaimed, take_all, nobodys-counted, all-counted)

-- a window of the level begins
pub marked : (nobodys level v : ℕ) (counters marks : List ℕ) → v ≡ run_of_slower level nobodys counters % 2 ^ 32
    → level < length counters
    → unclaimed_by nobodys counters (set marks level v) ≡ set (unclaimed_by nobodys counters marks) level 0
marked nobodys level v [] marks is inside = absurd (omega arith)
marked nobodys zero v (n ∷ counters) [] is inside = refl
marked nobodys (suc level) v (n ∷ counters) [] is inside = refl
marked nobodys zero v (n ∷ counters) (mark ∷ marks) is inside = grind (arith, nat_tests, since-now)
marked nobodys (suc level) v (n ∷ counters) (mark ∷ marks) is inside = grind (arith, nat_tests, since-now, marked nobodys level v counters marks)

-- what is unclaimed of the level
pub unclaimed-at : (nobodys level : ℕ) (counters marks : List ℕ) → level < length counters → length counters ≡ length marks
    → get_or (unclaimed_by nobodys counters marks) level 0 ≡ since (get_or marks level 0) (run_of_slower level nobodys counters)
unclaimed-at nobodys level [] marks inside same = absurd (omega arith)
unclaimed-at nobodys level (n ∷ counters) [] inside same = absurd (omega arith)
unclaimed-at nobodys zero (n ∷ counters) (mark ∷ marks) inside same = refl
unclaimed-at nobodys (suc level) (n ∷ counters) (mark ∷ marks) inside same = grind (arith, nat_tests, unclaimed-at nobodys level counters marks)

-- at the start
nothing-run : (n : ℕ) → sum (replicate n 0) ≡ 0
nothing-run zero = refl
nothing-run (suc n) = omega (arith, sum_by-cons (λ m. m) 0 (replicate n 0), nothing-run n)

unclaimed-start : (n : ℕ) → unclaimed_by 0 (replicate n 0) (replicate n 0) ≡ replicate n 0
unclaimed-start zero = refl
unclaimed-start (suc n) = rw (nothing-run n, unclaimed-start n) refl

pub unclaimed-none : (n : ℕ) (counters marks : List ℕ) → counters ≡ replicate n 0 → marks ≡ replicate n 0
    → unclaimed_by 0 counters marks ≡ replicate n 0
unclaimed-none n counters marks counts marked = rw (counts, marked) (unclaimed-start n)

-- a list after its slice, which was ys, had one number written
pub put : (xs ys : List ℕ) (at v : ℕ) → ys ≡ xs → refill (length xs) xs (set ys at v) ≡ set xs at v
put xs ys at v same = ap (λ ns. refill (length xs) xs (set ns at v)) same ∙ refill-whole xs (set xs at v) (length-set xs at v)
