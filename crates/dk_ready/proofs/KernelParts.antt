-- The kernel's own parts after a tick and after an event.
use Rattle.dk_ready.proofs.Names.{◌≡◌, ◌<◌, ◌+◌, ◌-◌, ◌∙◌, true, false, ltb, eqb, ℕ, zero, suc, List, ◌∷◌, length, take, get_or, set, Option, Some, None, refl, ap, sym, arith, Bool, [], count_by, fold, if◌then◌else◌, option_map_or, nat_tests, Configuration, LevelRow, release, get_or-map-numbers, Label, Entry, kernel_level, is_kernel_at, window, quiet, Job, kernel_rem, count-charged, spent, new_job, AreParts, kernel_part, first_parts}
use Rattle.dk_ready.proofs.Numbers.{map-same, rows-places, set-numbers}

same-part : (s s' u u' : ℕ) → s ≡ s' → u ≡ u' → ◌≡◌ {A = Job} (record { share = s; used = u; out_ticks = 0; closed = false }) (record { share = s'; used = u'; out_ticks = 0; closed = false })
same-part s s' u u' one two = rw (one, two) refl

-- the kernel's part of a level that has the tick, and of all others
pub part-spent : (c : Configuration) (label : Label) (past : List Entry) (k : ℕ) → kernel_level label ≡ Some k → 0 < release c k - count_by (is_kernel_at k) (window c (length past) past k)
    → spent 0 (kernel_part c (length past) past k) ≡ kernel_part c (length past) (quiet label ∷ past) k
part-spent c label past k is left =
    let used = count_by (is_kernel_at k) (window c (length past) past k) in
    let first : ltb used 0 ≡ false = grind (arith, nat_tests) in
    let within : ltb used (release c k - 0) ≡ true = grind (arith, nat_tests) in
    let mine : is_kernel_at k (quiet label) ≡ true = ap (λ o. option_map_or (λ j. eqb j k) o false) is ∙ (let self : eqb k k ≡ true = grind (arith, nat_tests) in self) in
    let more : count_by (is_kernel_at k) (window c (length past) (quiet label ∷ past) k) ≡ used + 1 = count-charged (is_kernel_at k) c (quiet label) past k ∙ rw mine (omega arith) in
    rw (first, within) (same-part (release c k) (release c k) (used + 1) _ refl (sym more))

pub part-kept : (c : Configuration) (label : Label) (past : List Entry) (i : ℕ) (o : Option ℕ) → kernel_level label ≡ o → option_map_or (λ j. eqb j i) o false ≡ false
    → kernel_part c (length past) past i ≡ kernel_part c (length past) (quiet label ∷ past) i
part-kept c label past i o is off =
    let other : is_kernel_at i (quiet label) ≡ false = ap (λ q. option_map_or (λ j. eqb j i) q false) is ∙ off in
    let same : count_by (is_kernel_at i) (window c (length past) (quiet label ∷ past) i) ≡ count_by (is_kernel_at i) (window c (length past) past i) =
    count-charged (is_kernel_at i) c (quiet label) past i ∙ rw other (omega arith) in
    same-part (release c i) (release c i) _ _ refl (sym same)

pub part-at : (c : Configuration) (now : ℕ) (past : List Entry) (parts : List Job) (k : ℕ) → AreParts c now past parts → k < length c.levels
    → get_or parts k (new_job 0) ≡ kernel_part c now past k
part-at c now past parts k are known =
    ap (λ ps. get_or ps k (new_job 0)) are
    ∙ get_or-map-numbers (kernel_part c now past) 0 (length c.levels) k (new_job 0) known ∙ ap (kernel_part c now past) (omega arith)

pub tick-spends : (c : Configuration) (label : Label) (past : List Entry) (k : ℕ) (parts : List Job) → AreParts c (length past) past parts
    → kernel_level label ≡ Some k → k < length c.levels → 0 < kernel_rem c (length past) past k
    → AreParts c (length past) (quiet label ∷ past) (set parts k (spent 0 (get_or parts k (new_job 0))))
tick-spends c label past k parts are says known left =
    let now = length past in
    let after = quiet label ∷ past in
    let value : spent 0 (get_or parts k (new_job 0)) ≡ kernel_part c now after (0 + k) =
    ap (spent 0) (part-at c now past parts k are known) ∙ part-spent c label past k says left ∙ ap (kernel_part c now after) (omega arith) in
    ap (λ ps. set ps k (spent 0 (get_or parts k (new_job 0)))) are
    ∙ set-numbers (kernel_part c now past) (kernel_part c now after) 0 (length c.levels) k (spent 0 (get_or parts k (new_job 0))) known value
    (λ j off. part-kept c label past (0 + j) (Some k) says (let off' : eqb k (0 + j) ≡ false = grind (arith, nat_tests) in off'))

pub others-keep : (c : Configuration) (label : Label) (past : List Entry) (parts : List Job) → AreParts c (length past) past parts
    → kernel_level label ≡ None → AreParts c (length past) (quiet label ∷ past) parts
others-keep c label past parts are none =
    are ∙ map-same (kernel_part c (length past) past) (kernel_part c (length past) (quiet label ∷ past)) 0 (length c.levels) (λ i h. part-kept c label past i None none refl)

-- counts of a window whose last entry has another event
pub count-same : (f : Entry → Bool) (n : ℕ) (e e' : Entry) (past : List Entry) → f e ≡ f e' → count_by f (take n (e ∷ past)) ≡ count_by f (take n (e' ∷ past))
count-same f zero e e' past same = refl
count-same f (suc n) e e' past same = ap (λ b. fold (λ a x. a + (if f x then 1 else 0)) (0 + (if b then 1 else 0)) (take n past)) same

pub event-keeps : (c : Configuration) (e : Entry) (past : List Entry) (parts : List Job)
    → AreParts c (length past) (quiet e.label ∷ past) parts → AreParts c (length past) (e ∷ past) parts
event-keeps c e past parts are =
    are ∙ map-same (kernel_part c (length past) (quiet e.label ∷ past)) (kernel_part c (length past) (e ∷ past)) 0 (length c.levels)
    (λ k h. same-part (release c k) (release c k) _ _ refl (count-same (is_kernel_at k) _ (quiet e.label) e past refl))

pub parts-start : (c : Configuration) → AreParts c 0 [] (first_parts c)
parts-start c =
    rows-places (λ (row : LevelRow). new_job row.release) (kernel_part c 0 []) c.levels 0 (λ j row at.
    let here : release c (0 + j) ≡ row.release = ap (release c) (omega arith) ∙ ap (λ o. option_map_or (λ (r : LevelRow). r.release) o 0) at in
    same-part row.release (release c (0 + j)) 0 _ (sym here) (sym (nothing (is_kernel_at (0 + j)) _)))
  where
    nothing : (f : Entry → Bool) (n : ℕ) → count_by f (take n []) ≡ 0
    nothing f zero = refl
    nothing f (suc n) = refl
