-- Why a choice was made: what its level and all levels before it have to do.
use Rattle.dk_trace.proofs.Names.{ℕ, suc, ◌≡◌, ◌+◌, ◌<◌, inl, inr, Bool, true, ◌&&◌, eqb, ltb, List, [], ◌∷◌, length, refl, sym, ◌∙◌, subst, arith, filter, Option, Some, None, MatchOption, unwrap_or, option_map, option_or, cases_eq, cases_Bool, and_parts, and_from, nat_tests, Configuration, below, first_of, Choice, Entry, Thread, threads, thread_rem, kernel_rem, held_by, is_holding, effective_level, is_holder, fits, own_demand, is_wishing, older, oldest, chosen, choice_at, work_at, slack_at, wish_at, ready_at, holder_at, on_budget, on_slack, IsFirst, NoAnswer, first_of-is, option_or-none, option_map-none, option_map-some, Has}
use Rattle.dk_trace.proofs.Members.{find-has, find-none, filter-has, sum_by-zero}

abbrev pub now_rem : Configuration → List Entry → Thread → ℕ
now_rem c past x = thread_rem c (length past) past x

-- nobody has work for level i
pub record NoWorkAt (c : Configuration) (past : List Entry) (i : ℕ) : Type 0 where
  pub kernel : kernel_rem c (length past) past i ≡ 0
  pub holders : (x : Thread) → Has (threads c past) x → is_holder past x ≡ true → effective_level c past x ≡ i → ⊥
  pub ready : (x : Thread) → Has (threads c past) x → x.level ≡ i → now_rem c past x ≡ 0

abbrev holds_at : Configuration → List Entry → ℕ → Thread → Bool
holds_at c past k x = is_holding (held_by x.id past) && (eqb (effective_level c past x) k)

abbrev ready_in : Configuration → List Entry → ℕ → Thread → Bool
ready_in c past k x = (eqb x.level k) && ltb 0 (thread_rem c (length past) past x)

pub no-holder : (c : Configuration) (past : List Entry) (k : ℕ) → holder_at c past k ≡ None
    → (x : Thread) → Has (threads c past) x → is_holder past x ≡ true → effective_level c past x ≡ k → ⊥
no-holder c past k none x h holding level = grind (arith, nat_tests, find-none, and_from)

pub no-ready : (c : Configuration) (past : List Entry) (k : ℕ) → ready_at c past k ≡ None
    → (x : Thread) → Has (threads c past) x → x.level ≡ k → now_rem c past x ≡ 0
no-ready c past k none x h level = grind (arith, nat_tests, find-none, and_from)

pub no-work : (c : Configuration) (past : List Entry) (k : ℕ) → work_at c past k ≡ None → NoWorkAt c past k
no-work c past k none =
    let n = length past in
    elim (cases_Bool (ltb 0 (kernel_rem c n past k))) [
      | inl some ↦ let h : Some (Choice.Kernel k) ≡ None = rw some at none in absurd (cc)
      | inr idle ↦
          let h : option_map (on_budget c past) (option_or (holder_at c past k) (ready_at c past k)) ≡ None = rw idle at none in
          let both : option_or (holder_at c past k) (ready_at c past k) ≡ None = option_map-none (on_budget c past) (option_or (holder_at c past k) (ready_at c past k)) h in
          let first : holder_at c past k ≡ None = option_or-none (holder_at c past k) (ready_at c past k) both in
          let second : ready_at c past k ≡ None = rw first at both in
          record {
            kernel = grind (arith, nat_tests);
            holders = no-holder c past k first;
            ready = no-ready c past k second;
          }
    ]

-- a level that nobody has work for has no demand of its own
pub no-demand : (c : Configuration) (past : List Entry) (i : ℕ) → NoWorkAt c past i → own_demand c (length past) past i ≡ 0
no-demand c past i nothing = grind (arith, nat_tests, sum_by-zero)

-- nobody has work for a level before k
abbrev pub Passed : Configuration → List Entry → ℕ → Type 0
Passed c past k = (i : ℕ) → i < k → NoWorkAt c past i

-- whom level k chose on budget
pub data Turn (c : Configuration) (past : List Entry) (k : ℕ) (x : Thread) : Type 0 where
  by_hold : is_holder past x ≡ true → effective_level c past x ≡ k → Turn c past k x
  by_share : ((y : Thread) → Has (threads c past) y → is_holder past y ≡ true → effective_level c past y ≡ k → ⊥)
      → ready_at c past k ≡ Some x → x.level ≡ k → 0 < now_rem c past x → Turn c past k x

-- why a choice was made
pub data Reason (c : Configuration) (past : List Entry) : Choice → Type 0 where
  kernel_first : (k : ℕ) → k < length c.levels → Passed c past k → 0 < kernel_rem c (length past) past k → Reason c past (Choice.Kernel k)
  thread_first : (k : ℕ) (x : Thread) → k < length c.levels → Passed c past k → Has (threads c past) x → Turn c past k x
      → Reason c past (on_budget c past x)
  slack_first : (k : ℕ) (x : Thread) → k < length c.levels → Passed c past (suc k) → Has (threads c past) x
      → is_wishing c (length past) past k x ≡ true → fits c (length past) past ≡ true → Reason c past (on_slack c past x)
  nothing : Passed c past (length c.levels) → Reason c past Choice.Idle

pub holder-turn : (c : Configuration) (past : List Entry) (k : ℕ) (x : Thread) → holder_at c past k ≡ Some x → Has (threads c past) x × Turn c past k x
holder-turn c past k x found =
    let r = find-has (holds_at c past k) (threads c past) x found in
    let parts = and_parts (is_holder past x) (eqb (effective_level c past x) k) r.1 in
    let level : eqb (effective_level c past x) k ≡ true = parts.1 in
    (r.0, by_hold parts.0 (grind (arith, nat_tests)))

pub ready-turn : (c : Configuration) (past : List Entry) (k : ℕ) (x : Thread) → holder_at c past k ≡ None → ready_at c past k ≡ Some x → Has (threads c past) x × Turn c past k x
ready-turn c past k x none found =
    let r = find-has (ready_in c past k) (threads c past) x found in
    let parts = and_parts (eqb x.level k) (ltb 0 (now_rem c past x)) r.1 in
    let level : eqb x.level k ≡ true = parts.0 in
    let left : ltb 0 (now_rem c past x) ≡ true = parts.1 in
    (r.0, by_share (no-holder c past k none) found (grind (arith, nat_tests)) (grind (arith, nat_tests)))

pub turn-of : (c : Configuration) (past : List Entry) (k : ℕ) (x : Thread) (o : Option Thread) → holder_at c past k ≡ o
    → option_or o (ready_at c past k) ≡ Some x → Has (threads c past) x × Turn c past k x
turn-of c past k x None is found = ready-turn c past k x is found
turn-of c past k x (Some y) is found = holder-turn c past k x (is ∙ found)

pub some-work : (c : Configuration) (past : List Entry) (k : ℕ) (choice : Choice) → k < length c.levels → Passed c past k
    → work_at c past k ≡ Some choice → Reason c past choice
some-work c past k choice known passed found =
    let n = length past in
    elim (cases_Bool (ltb 0 (kernel_rem c n past k))) [
      | inl some ↦
          let h : Some (Choice.Kernel k) ≡ Some choice = rw some at found in
          let same : Choice.Kernel k ≡ choice = cc in
          subst (Reason c past) same (kernel_first k known passed (grind (arith, nat_tests)))
      | inr idle ↦
          let h : option_map (on_budget c past) (option_or (holder_at c past k) (ready_at c past k)) ≡ Some choice = rw idle at found in
          let r = option_map-some (on_budget c past) (option_or (holder_at c past k) (ready_at c past k)) choice h in
          let t = turn-of c past k r.0 (holder_at c past k) refl r.1 in
          subst (Reason c past) r.2 (thread_first k r.0 known passed t.0 t.1)
    ]

pub older-Has : (c : Configuration) (now : ℕ) (past : List Entry) (z : Thread) (xs : List Thread) (o : Option Thread) (x : Thread)
    → ((y : Thread) → o ≡ Some y → Has xs y) → older c now past z o ≡ Some x → Has (z ∷ xs) x
older-Has c now past z xs o x later h = grind (arith, nat_tests)

pub oldest-Has : (c : Configuration) (now : ℕ) (past : List Entry) (xs : List Thread) (x : Thread) → oldest c now past xs ≡ Some x → Has xs x
oldest-Has c now past [] x h = absurd (cc)
oldest-Has c now past (z ∷ xs) x h = older-Has c now past z xs (oldest c now past xs) x (λ y is. oldest-Has c now past xs y is) h

-- who wishes for slack has nothing left
pub wishing-none : (c : Configuration) (past : List Entry) (k : ℕ) (x : Thread) → is_wishing c (length past) past k x ≡ true → now_rem c past x ≡ 0
wishing-none c past k x wishes = grind (arith, nat_tests)

pub slack-reason : (c : Configuration) (past : List Entry) (k : ℕ) (choice : Choice) → k < length c.levels → Passed c past (suc k)
    → slack_at c past k ≡ Some choice → Reason c past choice
slack-reason c past k choice known passed found =
    let n = length past in
    elim (cases_Bool (fits c n past)) [
      | inl fitting ↦
          let h : option_map (on_slack c past) (wish_at c past k) ≡ Some choice = rw fitting at found in
          let r = option_map-some (on_slack c past) (wish_at c past k) choice h in
          let among = oldest-Has c n past (filter (is_wishing c n past k) (threads c past)) r.0 r.1 in
          let wishes = filter-has (is_wishing c n past k) (threads c past) r.0 among in
          subst (Reason c past) r.2 (slack_first k r.0 known passed wishes.0 wishes.1 fitting)
      | inr tight ↦ let h : None ≡ Some choice = rw tight at found in absurd (cc)
    ]

pub choice-reason : (c : Configuration) (past : List Entry) (k : ℕ) (choice : Choice) (work : Option Choice) → k < length c.levels → Passed c past k
    → work_at c past k ≡ work → option_or work (slack_at c past k) ≡ Some choice → Reason c past choice
choice-reason c past k choice (Some work) known passed is found = some-work c past k choice known passed (is ∙ found)
choice-reason c past k choice None known passed is found =
    slack-reason c past k choice known
    (λ i less. elim (cases_eq i k) [ inl same ↦ subst (NoWorkAt c past) (sym same) (no-work c past k is) | inr other ↦ passed i (omega arith) ])
    found

reason_at : (c : Configuration) (past : List Entry) (o : Option Choice)
    → MatchOption o (NoAnswer (choice_at c past) 0 (0 + length c.levels)) (IsFirst (choice_at c past) 0 (0 + length c.levels))
    → Reason c past (unwrap_or o Choice.Idle)
reason_at c past None none =
    nothing (λ i known. no-work c past i (option_or-none (work_at c past i) (slack_at c past i) (none i (omega arith) (omega arith))))
reason_at c past (Some choice) first =
    choice-reason c past first.place choice (work_at c past first.place) (omega (arith, first.under))
    (λ i less. no-work c past i (option_or-none (work_at c past i) (slack_at c past i) (first.before i (omega arith) less)))
    refl first.answer

pub chosen-reason : (c : Configuration) (past : List Entry) → Reason c past (chosen c past)
chosen-reason c past =
    reason_at c past (first_of (choice_at c past) (below (length c.levels))) (first_of-is (choice_at c past) 0 (length c.levels))
