-- A tick is idle exactly where nobody has anything left and nobody asks.
use Rattle.dk_slack_promise.proofs.Names.{ℕ, zero, suc, ◌≡◌, ◌+◌, ◌<◌, ◌≤◌, ◌&&◌, inl, inr, Bool, true, false, eqb, ltb, List, [], ◌∷◌, length, refl, ap, ◌∙◌, subst, arith, Option, Some, None, option_map, option_or, unwrap_or, MatchOption, filter, list_all, cases_Bool, cases_lt, and_parts, nat_tests, Configuration, IsChecked, IsAccepted, numbers, below, first_of, Choice, Entry, Has, Thread, threads, thread_rem, kernel_rem, held_by, is_holding, effective_level, fits, fits_at, want, is_wishing, older, oldest, choice_at, work_at, slack_at, wish_at, holder_at, ready_at, on_slack, Audited, Always, holders_stand, IsFirst, NoAnswer, first-none, first_of-is, option_map-none, option_or-none, find-nothing, has-filter, filter-has, nothing-in, NoWorkAt, Passed, no-demand, no-work, threads-fit}
use Rattle.dk_slack_promise.specs.Rest.{IsAtRest, IdleAtRest, WishIsHeard}

-- where nobody has work for a level, no work is chosen there
pub work-none : (c : Configuration) (past : List Entry) (i : ℕ) → NoWorkAt c past i → work_at c past i ≡ None
work-none c past i none =
    let kernel = none.kernel in
    let off : ltb 0 (kernel_rem c (length past) past i) ≡ false = grind (arith, nat_tests) in
    let holder : holder_at c past i ≡ None =
    find-nothing (λ x. is_holding (held_by x.id past) && eqb (effective_level c past x) i) (threads c past) (λ x among. no-holder x among) in
    let first : ready_at c past i ≡ None =
    find-nothing (λ x. eqb x.level i && ltb 0 (thread_rem c (length past) past x)) (threads c past) (λ x among. no-share x among) in
    rw (off, holder, first) refl
  where
    no-holder : (x : Thread) → Has (threads c past) x → (is_holding (held_by x.id past) && eqb (effective_level c past x) i) ≡ false
    no-holder x among =
        elim (cases_Bool (is_holding (held_by x.id past) && eqb (effective_level c past x) i)) [
          | inr out ↦ out
          | inl both ↦
              let parts = and_parts (is_holding (held_by x.id past)) (eqb (effective_level c past x) i) both in
              let at : eqb (effective_level c past x) i ≡ true = parts.1 in
              absurd (none.holders x among parts.0 (grind (arith, nat_tests)))
        ]

    no-share : (x : Thread) → Has (threads c past) x → (eqb x.level i && ltb 0 (thread_rem c (length past) past x)) ≡ false
    no-share x among =
        elim (cases_Bool (eqb x.level i && ltb 0 (thread_rem c (length past) past x))) [
          | inr out ↦ out
          | inl both ↦
              let parts = and_parts (eqb x.level i) (ltb 0 (thread_rem c (length past) past x)) both in
              let at : eqb x.level i ≡ true = parts.0 in
              let some : ltb 0 (thread_rem c (length past) past x) ≡ true = parts.1 in
              let nothing_left = none.ready x among (grind (arith, nat_tests)) in
              absurd (grind (arith, nat_tests))
        ]

oldest-some : (c : Configuration) (now : ℕ) (past : List Entry) (xs : List Thread) → oldest c now past xs ≡ None → xs ≡ []
oldest-some c now past [] is = refl
oldest-some c now past (x ∷ xs) is = absurd (older-some (oldest c now past xs) is)
  where
    older-some : (o : Option Thread) → older c now past x o ≡ None → ⊥
    older-some o is = grind (arith, nat_tests)

-- where no wish is found at a level, no thread of the level wishes
pub nobody-wishes : (c : Configuration) (past : List Entry) (k : ℕ) (x : Thread) → wish_at c past k ≡ None → Has (threads c past) x
    → is_wishing c (length past) past k x ≡ false
nobody-wishes c past k x none among =
    elim (cases_Bool (is_wishing c (length past) past k x)) [
      | inr out ↦ out
      | inl wishes ↦
          let empty = oldest-some c (length past) past (filter (is_wishing c (length past) past k) (threads c past)) none in
          let in_it = has-filter (is_wishing c (length past) past k) (threads c past) x among wishes in
          absurd (subst (λ xs. Has xs x) empty in_it)
    ]

-- and where nobody wishes none is found
wish-none : (c : Configuration) (past : List Entry) (k : ℕ) → ((x : Thread) → Has (threads c past) x → want c (length past) past x ≡ 0) → wish_at c past k ≡ None
wish-none c past k quiet =
    let n = length past in
    let empty : filter (is_wishing c n past k) (threads c past) ≡ [] =
    nothing-in (filter (is_wishing c n past k) (threads c past)) (λ x h. not-there x h) in
    ap (oldest c n past) empty
  where
    not-there : (x : Thread) → Has (filter (is_wishing c (length past) past k) (threads c past)) x → ⊥
    not-there x h =
        let r = filter-has (is_wishing c (length past) past k) (threads c past) x h in
        let none = quiet x r.0 in
        let parts = and_parts ((eqb x.level k) && eqb (thread_rem c (length past) past x) 0) (ltb 0 (want c (length past) past x)) r.1 in
        let some : ltb 0 (want c (length past) past x) ≡ true = parts.1 in
        absurd (grind (arith, nat_tests))

-- no level chooses to be idle
work-never : (c : Configuration) (past : List Entry) (k : ℕ) → work_at c past k ≡ Some Choice.Idle → ⊥
work-never c past k is = grind (arith, nat_tests)

slack-never : (c : Configuration) (past : List Entry) (k : ℕ) → slack_at c past k ≡ Some Choice.Idle → ⊥
slack-never c past k is = grind (arith, nat_tests)

choice-never : (work slack : Option Choice) → (work ≡ Some Choice.Idle → ⊥) → (slack ≡ Some Choice.Idle → ⊥) → option_or work slack ≡ Some Choice.Idle → ⊥
choice-never None slack a b is = b is
choice-never (Some w) slack a b is = a is

pub all-true : (test : ℕ → Bool) (low n : ℕ) → ((k : ℕ) → low ≤ k → k < low + n → test k ≡ true) → list_all test (numbers low n) ≡ true
all-true test low zero h = refl
all-true test low (suc n) h = grind (arith, nat_tests, all-true test (suc low) n)

-- where no level has work slack fits
fits-at-rest : (c : Configuration) (past : List Entry) → Passed c past (length c.levels) → fits c (length past) past ≡ true
fits-at-rest c past passed =
    all-true (fits_at c (length past) past) 0 (length c.levels)
    (λ j a b. let none = no-demand c past j (passed j (omega arith)) in rw none refl)

-- what follows where no level chooses
quiet : (c : Configuration) (past : List Entry) → IsChecked c → Audited c past → NoAnswer (choice_at c past) 0 (0 + length c.levels) → IsAtRest c past
quiet c past checked audited none =
    let n = length past in
    let L = length c.levels in
    let passed : Passed c past L = λ i known. no-work c past i (option_or-none (work_at c past i) (slack_at c past i) (none i (omega arith) (omega arith))) in
    let fitting = fits-at-rest c past passed in
    let wishless : (k : ℕ) → k < L → wish_at c past k ≡ None =
    λ k known.
    let empty = work-none c past k (passed k known) in
    let all : option_or (work_at c past k) (slack_at c past k) ≡ None = none k (omega arith) (omega arith) in
    let slack : slack_at c past k ≡ None = rw empty at all in
    let mapped : option_map (on_slack c past) (wish_at c past k) ≡ None = rw fitting at slack in
    option_map-none (on_slack c past) (wish_at c past k) mapped in
    record {
      kernel = λ i known. (passed i known).kernel;
      shares = λ x among. (passed x.level (level-there x among)).ready x among refl;
      wishes = λ x among. wants-none x (passed x.level (level-there x among)) among (nobody-wishes c past x.level x (wishless x.level (level-there x among)) among);
    }
  where
    level-there : (x : Thread) → Has (threads c past) x → x.level < length c.levels
    level-there x among =
        let row = (threads-fit c past checked audited).rows x among in
        let high = row.high in
        let reaches = checked.reaches x.id.process row.known in
        omega arith

    wants-none : (x : Thread) → NoWorkAt c past x.level → Has (threads c past) x → is_wishing c (length past) past x.level x ≡ false → want c (length past) past x ≡ 0
    wants-none x nothing among is =
        let left = nothing.ready x among refl in
        grind (arith, nat_tests)

rest-of : (c : Configuration) (past : List Entry) (o : Option Choice) → IsChecked c → Audited c past → first_of (choice_at c past) (below (length c.levels)) ≡ o
    → MatchOption o (NoAnswer (choice_at c past) 0 (0 + length c.levels)) (IsFirst (choice_at c past) 0 (0 + length c.levels))
    → unwrap_or o Choice.Idle ≡ Choice.Idle → IsAtRest c past
rest-of c past None checked audited is none same = quiet c past checked audited none
rest-of c past (Some choice) checked audited is first same =
    let at : choice_at c past first.place ≡ Some Choice.Idle = first.answer ∙ ap Some same in
    absurd (choice-never (work_at c past first.place) (slack_at c past first.place) (work-never c past first.place) (slack-never c past first.place) at)

-- where nobody has anything left no level has work
works-not : (c : Configuration) (past : List Entry) → IsChecked c → IsAccepted c → Audited c past → IsAtRest c past → Passed c past (length c.levels)
works-not c past checked accepted audited rest i known = record {
  kernel = rest.kernel i known;
  holders = λ x among holding level.
      let some = (holders_stand c past checked accepted audited x among holding).rem in
      let none = rest.shares x among in absurd (omega arith);
  ready = λ x among level. rest.shares x among;
}

pub idle_at_rest : Always IdleAtRest
idle_at_rest c past checked accepted audited = (
  λ is. rest-of c past (first_of (choice_at c past) (below (length c.levels))) checked audited refl (first_of-is (choice_at c past) 0 (length c.levels)) is,
  λ rest. ap (λ o. unwrap_or o Choice.Idle) (first-none (choice_at c past) (length c.levels) (λ k known. chooses-none rest k known)),
)
  where
    chooses-none : IsAtRest c past → (k : ℕ) → k < length c.levels → choice_at c past k ≡ None
    chooses-none rest k known =
        let work = work-none c past k (works-not c past checked accepted audited rest k known) in
        let wish = wish-none c past k rest.wishes in
        let slack : slack_at c past k ≡ None = elim (cases_Bool (fits c (length past) past)) [ inl t ↦ rw (t, wish) refl | inr f ↦ rw f refl ] in
        rw (work, slack) refl

heard-by : (c : Configuration) (past : List Entry) (k : ℕ) (x : Thread) (o : Option Choice) → k < length c.levels → Has (threads c past) x → is_wishing c (length past) past k x ≡ true
    → fits c (length past) past ≡ true
    → MatchOption o (NoAnswer (choice_at c past) 0 (0 + length c.levels)) (IsFirst (choice_at c past) 0 (0 + length c.levels))
    → (i : ℕ) × (i ≤ k) × (choice_at c past i ≡ Some (unwrap_or o Choice.Idle))
heard-by c past k x o known among wishes fitting first = go o first
  where
    found : choice_at c past k ≡ None → ⊥
    found none =
        let work : work_at c past k ≡ None = option_or-none (work_at c past k) (slack_at c past k) none in
        let slack : slack_at c past k ≡ None = rw work at none in
        let mapped : option_map (on_slack c past) (wish_at c past k) ≡ None = rw fitting at slack in
        let quiet = nobody-wishes c past k x (option_map-none (on_slack c past) (wish_at c past k) mapped) among in
        absurd (cc)

    go : (o : Option Choice) → MatchOption o (NoAnswer (choice_at c past) 0 (0 + length c.levels)) (IsFirst (choice_at c past) 0 (0 + length c.levels))
        → (i : ℕ) × (i ≤ k) × (choice_at c past i ≡ Some (unwrap_or o Choice.Idle))
    go None none = absurd (found (none k (omega arith) (omega (arith, known))))
    go (Some choice) first =
        elim (cases_lt k first.place) [
          | inl later ↦ absurd (found (first.before k (omega arith) later))
          | inr early ↦ (first.place, omega (arith, early), first.answer)
        ]

pub wish_is_heard : Always WishIsHeard
wish_is_heard c past checked accepted audited k x known among wishes = (
  λ is. let quiet = ((idle_at_rest c past checked accepted audited).0 is).wishes x among in
      let parts = and_parts ((eqb x.level k) && eqb (thread_rem c (length past) past x) 0) (ltb 0 (want c (length past) past x)) wishes in
      let some : ltb 0 (want c (length past) past x) ≡ true = parts.1 in
      absurd (grind (arith, nat_tests)),
  λ fitting. heard-by c past k x (first_of (choice_at c past) (below (length c.levels))) known among wishes fitting (first_of-is (choice_at c past) 0 (length c.levels)),
)
