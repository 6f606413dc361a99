-- The unclaimed ticks of each level once one more tick is past.
use Rattle.dk_slack.proofs.Names.{◌≡◌, ℕ, zero, suc, ◌+◌, ◌-◌, ◌<◌, ◌≤◌, Bool, false, not, cond, List, [], ◌∷◌, ◌++◌, map, take, drop, length, get_or, refl, sym, ap, ◌∙◌, arith, nat_le, count_by, Contains, Option, Some, option_map_or, nat_tests, sum_by-cons, Configuration, numbers, below, window_start, ThreadId, Entry, payer, Thread, threads, level_of, is_claimed_up_to, unclaimed, counted, claiming_level, KeepsLevels, unclaimed_of}

all_raised : (f g : ℕ → ℕ) (low n : ℕ) → ((j : ℕ) → low ≤ j → g j ≡ f j + 1) → map (λ m. m + 1) (map f (numbers low n)) ≡ map g (numbers low n)
all_raised f g low zero more = refl
all_raised f g low (suc n) more = rw (more low (omega arith), all_raised f g (suc low) n (λ j h. more j (omega arith))) refl

all_same : (f g : ℕ → ℕ) (low n : ℕ) → ((j : ℕ) → low ≤ j → g j ≡ f j) → map f (numbers low n) ≡ map g (numbers low n)
all_same f g low zero same = refl
all_same f g low (suc n) same = rw (same low (omega arith), all_same f g (suc low) n (λ j h. same j (omega arith))) refl

first_raised : (f g : ℕ → ℕ) (low n i : ℕ) → ((j : ℕ) → low ≤ j → j < low + i → g j ≡ f j + 1) → ((j : ℕ) → low + i ≤ j → g j ≡ f j)
    → map (λ m. m + 1) (take i (map f (numbers low n))) ++ drop i (map f (numbers low n)) ≡ map g (numbers low n)
first_raised f g low n zero more same = grind (arith, nat_tests, all_same)
first_raised f g low zero (suc i) more same = refl
first_raised f g low (suc n) (suc i) more same = grind (arith, nat_tests, all_same, first_raised f g (suc low) n i)

-- one more for each level that the claiming level is not up to
abbrev left_over : Option ℕ → ℕ → ℕ
left_over claim j = cond (not (option_map_or (λ i. nat_le i j) claim false)) 1 0

pub counted-each : (claim : Option ℕ) (f g : ℕ → ℕ) (n : ℕ) → ((j : ℕ) → g j ≡ left_over claim j + f j) → counted claim (map f (below n)) ≡ map g (below n)
counted-each claim f g n more = grind (arith, nat_tests, all_raised, first_raised)

-- a level claims the tick of its kernel work or of its thread
claimed-by : (xs : List Thread) (j : ℕ) (e : Entry) → is_claimed_up_to xs j e ≡ option_map_or (λ i. nat_le i j) (claiming_level xs e) false
claimed-by xs j e = grind (arith, nat_tests)

count-cons : (p : Entry → Bool) (e : Entry) (es : List Entry) → count_by p (e ∷ es) ≡ cond (p e) 1 0 + count_by p es
count-cons p e es = sum_by-cons (λ d. cond (p d) 1 0) e es

module _ (xs ys : List Thread) (j : ℕ) where
  -- a tick is claimed by the same level where its thread has the same
  same-claim : (d : Entry) → ((x : ThreadId) → payer d.label ≡ Some x → level_of xs x ≡ level_of ys x) → is_claimed_up_to xs j d ≡ is_claimed_up_to ys j d
  same-claim d same = grind (arith, nat_tests)

  same-count : (es : List Entry) → ((d : Entry) (x : ThreadId) → Contains es d → payer d.label ≡ Some x → level_of xs x ≡ level_of ys x)
      → count_by (λ d. not (is_claimed_up_to xs j d)) es ≡ count_by (λ d. not (is_claimed_up_to ys j d)) es
  same-count [] same = refl
  same-count (e ∷ es) same =
      let rest = same-count es (λ d x has paid. same d x (suc has.0, omega (arith, has.1), has.2) paid) in
      let here = same-claim e (λ x paid. same e x (0, omega arith, refl) paid) in
      count-cons (λ d. not (is_claimed_up_to xs j d)) e es
      ∙ ap (λ (b : Bool). cond (not b) 1 0 + count_by (λ d. not (is_claimed_up_to xs j d)) es) here
      ∙ ap (λ n. cond (not (is_claimed_up_to ys j e)) 1 0 + n) rest
      ∙ sym (count-cons (λ d. not (is_claimed_up_to ys j d)) e es)

-- the newest entries are among all
of_taken : (n : ℕ) (es : List Entry) (d : Entry) → Contains (take n es) d → Contains es d
of_taken zero es d has = absurd (omega (arith, has.1))
of_taken (suc n) [] d has = absurd (omega (arith, has.1))
of_taken (suc n) (e ∷ es) d has = further (of_taken n es d) has.0 has.1 has.2
  where
    further : (Contains (take n es) d → Contains es d) → (i : ℕ) → i < length (e ∷ take n es) → get_or (e ∷ take n es) i d ≡ d → Contains (e ∷ es) d
    further older zero inside at = (0, omega arith, at)
    further older (suc i) inside at = let rest = older (i, omega arith, at) in (suc rest.0, omega (arith, rest.1), rest.2)

module _ (c : Configuration) (past : List Entry) (e : Entry) (keeps : KeepsLevels c e past) where
  one-more : (j : ℕ) → unclaimed c (length past) (e ∷ past) j ≡ left_over (claiming_level (threads c (e ∷ past)) e) j + unclaimed c (length past) past j
  one-more j =
      let began : window_start c j (length past) ≤ length past = omega arith in
      let longer : length (e ∷ past) - window_start c j (length past) ≡ suc (length past - window_start c j (length past)) = omega arith in
      let older = take (length past - window_start c j (length past)) past in
      let same : count_by (λ d. not (is_claimed_up_to (threads c (e ∷ past)) j d)) older ≡ count_by (λ d. not (is_claimed_up_to (threads c past) j d)) older =
      same-count (threads c (e ∷ past)) (threads c past) j older (λ d x has paid. keeps d x (of_taken _ past d has) paid) in
      ap (λ n. count_by (λ d. not (is_claimed_up_to (threads c (e ∷ past)) j d)) (take n (e ∷ past))) longer
      ∙ count-cons (λ d. not (is_claimed_up_to (threads c (e ∷ past)) j d)) e older
      ∙ ap (λ (b : Bool). cond (not b) 1 0 + count_by (λ d. not (is_claimed_up_to (threads c (e ∷ past)) j d)) older) (claimed-by (threads c (e ∷ past)) j e)
      ∙ ap (λ n. left_over (claiming_level (threads c (e ∷ past)) e) j + n) same

  pub tick-counted : counted (claiming_level (threads c (e ∷ past)) e) (unclaimed_of c (length past) past) ≡ unclaimed_of c (length past) (e ∷ past)
  tick-counted = grind (arith, nat_tests, counted-each, one-more)

pub window-begun : (c : Configuration) (past : List Entry) (j : ℕ) → window_start c j (length past) ≡ length past → unclaimed c (length past) past j ≡ 0
window-begun c past j begins = grind (arith, nat_tests)

pub window-stays : (c : Configuration) (now : ℕ) (past : List Entry) (j : ℕ) → window_start c j (now + 1) ≡ window_start c j now
    → unclaimed c (now + 1) past j ≡ unclaimed c now past j
window-stays c now past j stays = ap (λ w. count_by (λ d. not (is_claimed_up_to (threads c past) j d)) (take (length past - w) past)) stays
