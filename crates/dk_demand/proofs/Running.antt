-- Counters that run on, and what the marks ahead of them say.
use Rattle.dk_demand.proofs.Names.{◌≡◌, ◌≢◌, ◌<◌, ◌≤◌, ◌+◌, ◌-◌, ◌%◌, ◌^◌, ◌∙◌, ◌⊎◌, ℕ, zero, suc, true, false, List, [], ◌∷◌, length, get_or, map, set, take, refl, ap, sym, subst, arith, add-one, length-take, get_or-take, ◌==◌, sum, length-set, take-set-lt, nat_tests, eqb_tells, get_or-set_same, get_or-set_other, take-set-le, sum_by-set, sum_by_more, adjusted, by_level, at_level, from_level, less, set_to, ahead, run_up_to, own_by, remaining_by}
use Rattle.dk_demand.proofs.Changing.{length-by_level, get_or-by_level, is-by_level}

-- a mark is so far ahead as was added to the counter to set it
pub ahead-is : (mark counter n : ℕ) → n < 2 ^ 64 → mark % 2 ^ 64 ≡ (n + counter) % 2 ^ 64 → ahead mark counter ≡ n
ahead-is mark counter n small is = omega arith

-- the counter runs on
pub ahead-run : (mark counter next n : ℕ) → next % 2 ^ 64 ≡ (counter + n) % 2 ^ 64 → n ≤ ahead mark counter
    → ahead mark next ≡ ahead mark counter - n
ahead-run mark counter next n is low = omega arith

-- the counter begins anew
pub ahead-wraps : (mark counter : ℕ) → ahead mark (counter % 2 ^ 64) ≡ ahead mark counter
ahead-wraps mark counter = omega arith

-- the mark is set back
pub ahead-lowered : (mark next counter lower : ℕ) → (next + lower) % 2 ^ 64 ≡ mark % 2 ^ 64 → lower ≤ ahead mark counter
    → ahead next counter ≡ ahead mark counter + 0 - lower
ahead-lowered mark next counter lower is low = omega arith

-- the sum up to a faster level stays where a level's counter is written
pub run-before : (counters : List ℕ) (level j v : ℕ) → j < level → run_up_to j (set counters level v) ≡ run_up_to j counters
run-before counters level j v before = ap sum (take-set-le (suc j) counters level v (omega arith))

-- and that up to it and to each slower one changes with it
pub run-from : (counters : List ℕ) (level j v : ℕ) → level ≤ j → level < length counters
    → run_up_to j (set counters level v) + get_or counters level 0 ≡ run_up_to j counters + v
run-from counters level j v past inside =
    let early : level < suc j = omega arith in
    let known : level < length (take (suc j) counters) = omega (arith, length-take {A = ℕ}) in
    let before : get_or (take (suc j) counters) level 0 ≡ get_or counters level 0 = get_or-take (suc j) counters level 0 early in
    let written = sum_by-set (λ n. n) (take (suc j) counters) level v 0 known in
    let split = ap sum (take-set-lt (suc j) counters level v early) in
    omega (arith, before, written, split)

-- one more counter is added
pub run-more : (counters : List ℕ) (level : ℕ) → level < length counters
    → run_up_to level counters ≡ sum (take level counters) + get_or counters level 0
run-more counters level inside =
    ap (λ n. sum (take n counters)) (sym (add-one level)) ∙ sum_by_more (λ n. n) counters level 0 inside

-- what is read of a level
pub own-read : (gone marks ys zs : List ℕ) (level : ℕ) → ys ≡ marks → zs ≡ gone → level < length marks
    → ahead (get_or ys level 0) (get_or zs level 0) ≡ get_or (own_by gone marks) level 0
own-read gone marks ys zs level same alike inside = grind (arith, nat_tests, get_or-by_level)

pub remaining-read : (gone marks ys : List ℕ) (level run : ℕ) → ys ≡ marks → run ≡ run_up_to level gone % 2 ^ 64
    → level < length marks → ahead (get_or ys level 0) run ≡ get_or (remaining_by gone marks) level 0
remaining-read gone marks ys level run same ran inside = grind (arith, nat_tests, ahead-wraps, get_or-by_level)

-- lists by marks: a mark is written
mark-set : (says : ℕ → ℕ → ℕ) (f : ℕ → ℕ) (marks : List ℕ) (level v j : ℕ) → level < length marks
    → says level v ≡ f (says level (get_or marks level 0))
    → ((j == level) ≡ true) × (j ≡ level) ⊎ ((j == level) ≡ false) × (j ≢ level)
    → says j (get_or (set marks level v) j 0) ≡ at_level level f j (says j (get_or marks j 0))
mark-set says f marks level v j below is at = grind (arith, nat_tests, get_or-set_same, get_or-set_other)

pub marks-set : (says : ℕ → ℕ → ℕ) (f : ℕ → ℕ) (marks : List ℕ) (level v : ℕ) → level < length marks
    → says level v ≡ f (says level (get_or marks level 0))
    → by_level says (set marks level v) ≡ by_level (at_level level f) (by_level says marks)
marks-set says f marks level v below is =
    is-by_level (at_level level f) (by_level says marks) (by_level says (set marks level v))
    (length-by_level says (set marks level v) ∙ length-set marks level v ∙ sym (length-by_level says marks))
    (λ j inside.
    let known : j < length marks = omega (arith, inside, length-by_level says marks) in
    get_or-by_level says (set marks level v) j (omega (arith, known, length-set marks level v))
    ∙ mark-set says f marks level v j below is (eqb_tells j level)
    ∙ sym (ap (at_level level f j) (get_or-by_level says marks j known)))

-- all marks say something else
marks-say : (old new f : ℕ → ℕ → ℕ) (marks : List ℕ)
    → ((j : ℕ) → j < length marks → new j (get_or marks j 0) ≡ f j (old j (get_or marks j 0)))
    → by_level new marks ≡ by_level f (by_level old marks)
marks-say old new f marks each =
    is-by_level f (by_level old marks) (by_level new marks)
    (length-by_level new marks ∙ sym (length-by_level old marks))
    (λ j inside.
    let known : j < length marks = omega (arith, inside, length-by_level old marks) in
    get_or-by_level new marks j known ∙ each j known ∙ sym (ap (f j) (get_or-by_level old marks j known)))

-- what is said of a level is no longer to be done
module _ (gone : List ℕ) (level n : ℕ) (inside : level < length gone) where
  abbrev pub next : ℕ
  next = (get_or gone level 0 + n) % 2 ^ 64

  own-at : (mark j : ℕ) → (j ≡ level → n ≤ ahead mark (get_or gone j 0))
      → ((j == level) ≡ true) × (j ≡ level) ⊎ ((j == level) ≡ false) × (j ≢ level)
      → ahead mark (get_or (set gone level next) j 0) ≡ at_level level (less n) j (ahead mark (get_or gone j 0))
  own-at mark j low is = grind (arith, nat_tests, get_or-set_same, ahead-run, get_or-set_other)

  pub own-gone : (marks : List ℕ) → n ≤ get_or (own_by gone marks) level 0
      → own_by (set gone level next) marks ≡ by_level (at_level level (less n)) (own_by gone marks)
  own-gone marks low = grind (arith, nat_tests, marks-say, own-at, get_or-by_level, eqb_tells)

  remaining-at : (mark j : ℕ) → (level ≤ j → n ≤ ahead mark (run_up_to j gone))
      → ahead mark (run_up_to j (set gone level next)) ≡ from_level level (less n) j (ahead mark (run_up_to j gone))
  remaining-at mark j low = grind (arith, nat_tests, run-from, ahead-run, run-before)

  pub remaining-gone : (marks : List ℕ) → ((j : ℕ) → level ≤ j → j < length marks → n ≤ get_or (remaining_by gone marks) j 0)
      → remaining_by (set gone level next) marks ≡ by_level (from_level level (less n)) (remaining_by gone marks)
  remaining-gone marks low =
      let said = λ (j : ℕ) (mark : ℕ). ahead mark (run_up_to j gone) in
      marks-say said (λ j mark. ahead mark (run_up_to j (set gone level next))) (from_level level (less n)) marks
      (λ j known. remaining-at (get_or marks j 0) j
      (λ past. subst (λ m. n ≤ m) (get_or-by_level said marks j known) (low j past known)))

-- at the start nothing has run, and there is nothing to do
abbrev nothing : {X : Type 0} → List X → List ℕ
nothing rows = map (λ row. 0) rows

zeros-get : {X : Type 0} (rows : List X) (j : ℕ) → get_or (nothing rows) j 0 ≡ 0
zeros-get [] j = refl
zeros-get (row ∷ rows) zero = refl
zeros-get (row ∷ rows) (suc j) = zeros-get rows j

zeros-run : {X : Type 0} (rows : List X) (n : ℕ) → sum (take n (nothing rows)) ≡ 0
zeros-run [] zero = refl
zeros-run [] (suc n) = refl
zeros-run (row ∷ rows) zero = refl
zeros-run (row ∷ rows) (suc n) = zeros-run rows n

pub own-start : {X : Type 0} (rows : List X) → own_by (nothing rows) (nothing rows) ≡ nothing rows
own-start rows =
    let zeros = nothing rows in
    sym (is-by_level (λ j mark. ahead mark (get_or zeros j 0)) zeros zeros refl
    (λ j inside. rw (zeros-get rows j) refl))

pub remaining-start : {X : Type 0} (rows : List X) → remaining_by (nothing rows) (nothing rows) ≡ nothing rows
remaining-start rows =
    let zeros = nothing rows in
    sym (is-by_level (λ j mark. ahead mark (run_up_to j zeros)) zeros zeros refl
    (λ j inside. rw (zeros-get rows j, zeros-run rows (suc j)) refl))

-- a mark is set ahead of the counters
pub own-marked : (gone marks : List ℕ) (level n count : ℕ) → level < length marks → n < 2 ^ 64 → count ≡ get_or gone level 0
    → own_by gone (set marks level ((n + count) % 2 ^ 64)) ≡ by_level (at_level level (set_to n)) (own_by gone marks)
own-marked gone marks level n count inside small is = grind (arith, nat_tests, marks-set, ahead-is)

pub remaining-marked : (gone marks : List ℕ) (level n run : ℕ) → level < length marks → n < 2 ^ 64
    → run ≡ run_up_to level gone % 2 ^ 64
    → remaining_by gone (set marks level ((n + run) % 2 ^ 64)) ≡ by_level (at_level level (set_to n)) (remaining_by gone marks)
remaining-marked gone marks level n run inside small is = grind (arith, nat_tests, marks-set, ahead-is)

-- or moved
pub remaining-lowered : (gone marks : List ℕ) (level mark lower : ℕ) → level < length marks → mark ≡ get_or marks level 0
    → lower < 2 ^ 64 → lower ≤ get_or (remaining_by gone marks) level 0
    → remaining_by gone (set marks level ((mark + (2 ^ 64 - lower)) % 2 ^ 64))
    ≡ by_level (at_level level (adjusted lower 0)) (remaining_by gone marks)
remaining-lowered gone marks level mark lower inside is small low = grind (arith, nat_tests, get_or-by_level, marks-set, ahead-lowered)
