-- The threads of entries that name what is there, and what may be chosen among them.
use Rattle.dk_world.proofs.Names.{ℕ, ◌≡◌, ◌+◌, ◌<◌, ◌≤◌, ◌^◌, Bool, true, cond, List, ◌∷◌, length, refl, arith, length-append, length-map, IfSome, filter, find, nat_lt, option_map, option_or, AllByRecursion, Configuration, below, first_of, budget, spare, ThreadId, Source, Work, Choice, Event, Entry, is_of, Thread, after_entry, made_by, family, threads, phase, kernel_rem, fits, older, oldest, unclaimed, overdrawn_at, source, is_wishing, on_budget, on_slack, holder_at, ready_at, work_at, wish_at, slack_at, choice_at, chosen, label_of, size_of, HasThread, HasSource, HasLabel, HasEntry, nat_tests}
use Rattle.std.proofs.Common.{[], map}
use Rattle.std.specs.Prelude.{Option, Some, None}
use Rattle.dk_world.proofs.Each.{either, or_some, map_some, map_or, some_or, each_append, each_map, each_find, each_filter, each_flat, each_first, weaker}

abbrev pub main_id : ℕ → ThreadId
main_id p = record { process = p; serial = 0 }

-- a child's quota is within the budget of its process
abbrev pub LendsWithin : Configuration → ℕ → Event → Type 0
LendsWithin c p (Event.Create serial level quota) = quota ≤ budget c p
LendsWithin c p _ = Unit {0}

-- an entry names what is there, and lends no more than there is
pub record IsSound (c : Configuration) (e : Entry) : Type 0 where
  pub ranges : HasEntry (size_of c) e
  pub lends : (p : ℕ) → is_of (main_id p) e ≡ true → IfSome e.event (LendsWithin c p)

pub record IsThread (c : Configuration) (p : ℕ) (y : Thread) : Type 0 where
  pub process : y.id.process ≡ p
  pub serial : y.id.serial < 2 ^ 32
  pub quota : y.quota ≤ budget c p

newly : (c : Configuration) (p tick : ℕ) (e : Entry) (mine : Bool) → is_of (main_id p) e ≡ mine → IsSound c e
    → AllByRecursion (IsThread c p) (cond mine (made_by c p tick e.event) [])
newly c p tick e mine is sound = grind (arith, nat_tests)

after : (c : Configuration) (p : ℕ) (e : Entry) (tick : ℕ) (y : Thread) → IsThread c p y → IsThread c p (after_entry e tick y)
after c p e tick y h = record { process = h.process; serial = h.serial; quota = h.quota }

pub family_each : (c : Configuration) (p : ℕ) (past : List Entry) → AllByRecursion (IsSound c) past → AllByRecursion (IsThread c p) (family c p past)
family_each c p [] sound = (record { process = refl; serial = omega arith; quota = omega arith }, tt)
family_each c p (e ∷ past) sound =
    let n = length past in
    each_append (IsThread c p) (map (after_entry e n) (family c p past)) (cond (is_of (main_id p) e) (made_by c p n e.event) [])
    (each_map (IsThread c p) (IsThread c p) (after_entry e n) (after c p e n) (family c p past) (family_each c p past sound.1))
    (newly c p n e (is_of (main_id p) e) refl sound.0)

few_new : (c : Configuration) (p tick : ℕ) (e : Entry) (mine : Bool) → length (cond mine (made_by c p tick e.event) []) ≤ 1
few_new c p tick e mine = grind (arith, nat_tests)

-- an entry makes at most one thread
pub family_few : (c : Configuration) (p : ℕ) (past : List Entry) → length (family c p past) ≤ length past + 1
family_few c p [] = omega arith
family_few c p (e ∷ past) =
    let n = length past in
    let old = family_few c p past in
    let joined = length-append (map (after_entry e n) (family c p past)) (cond (is_of (main_id p) e) (made_by c p n e.event) []) in
    let same = length-map (family c p past) (after_entry e n) in
    let new = few_new c p n e (is_of (main_id p) e) in
    omega (arith, old, joined, same, new)

-- the configuration has the thread's process
abbrev IsNamed : Configuration → Thread → Type 0
IsNamed c y = HasThread (size_of c) y.id

-- the levels and processes of a choice are those of the configuration
abbrev pub HasChoice : Configuration → Choice → Type 0
HasChoice c (Choice.Kernel k) = k < length c.levels
HasChoice c (Choice.Budget x phase) = HasThread (size_of c) x
HasChoice c (Choice.Slack x source phase) = HasThread (size_of c) x × HasSource (size_of c) source
HasChoice c Choice.Idle = Unit {0}

pub label_within : (c : Configuration) (choice : Choice) (work : Work) → HasChoice c choice → HasLabel (size_of c) (label_of choice work)
label_within c choice work r = grind (arith, nat_tests)

module _ (c : Configuration) where
  named : (p : ℕ) → p < length c.processes → (y : Thread) → IsThread c p y → IsNamed c y
  named p here y is = grind (arith, nat_tests)

  threads_each : (past : List Entry) → AllByRecursion (IsSound c) past → AllByRecursion (IsNamed c) (threads c past)
  threads_each past sound =
      each_flat (IsNamed c) (λ p. family c p past) 0 (length c.processes)
      (λ p a b. weaker (IsThread c p) (IsNamed c) (named p (omega (arith, b))) (family c p past) (family_each c p past sound))

  older_named : (now : ℕ) (past : List Entry) (x : Thread) (o : Option Thread) → IsNamed c x → IfSome o (IsNamed c) → IfSome (older c now past x o) (IsNamed c)
  older_named now past x o r s = grind (arith, nat_tests)

  oldest_named : (now : ℕ) (past : List Entry) (xs : List Thread) → AllByRecursion (IsNamed c) xs → IfSome (oldest c now past xs) (IsNamed c)
  oldest_named now past [] r = tt
  oldest_named now past (x ∷ xs) r = older_named now past x (oldest c now past xs) r.0 (oldest_named now past xs r.1)

  drawn_named : (now : ℕ) (past : List Entry) (j : ℕ) → j < length c.levels → IfSome (overdrawn_at c now past j) (λ k. k < length c.levels)
  drawn_named now past j known = either (λ o. IfSome o (λ k. k < length c.levels)) (nat_lt (unclaimed c now past j) (spare c j)) None (Some j) tt known

  source_named : (now : ℕ) (past : List Entry) → HasSource (size_of c) (source c now past)
  source_named now past =
      map_or (λ k. k < length c.levels) (HasSource (size_of c)) Source.Reclaimed (λ k known. known)
      (first_of (overdrawn_at c now past) (below (length c.levels))) Source.Timeline
      (each_first (λ k. k < length c.levels) (overdrawn_at c now past) 0 (length c.levels) (λ k a b. drawn_named now past k (omega (arith, b)))) tt

  module _ (past : List Entry) (sound : AllByRecursion (IsSound c) past) where
    of_threads : (test : Thread → Bool) → IfSome (find test (threads c past)) (IsNamed c)
    of_threads test = each_find (IsNamed c) test (threads c past) (threads_each past sound)

    work_within : (k : ℕ) → k < length c.levels → IfSome (work_at c past k) (HasChoice c)
    work_within k known =
        either (λ o. IfSome o (HasChoice c)) (nat_lt 0 (kernel_rem c (length past) past k)) (Some (Choice.Kernel k))
        (option_map (on_budget c past) (option_or (holder_at c past k) (ready_at c past k))) known
        (map_some (IsNamed c) (HasChoice c) (on_budget c past) (λ x r. r) (option_or (holder_at c past k) (ready_at c past k))
        (or_some (IsNamed c) (holder_at c past k) (ready_at c past k) (of_threads _) (of_threads _)))

    slack_within : (k : ℕ) → IfSome (slack_at c past k) (HasChoice c)
    slack_within k =
        either (λ o. IfSome o (HasChoice c)) (fits c (length past) past) (option_map (on_slack c past) (wish_at c past k)) None
        (map_some (IsNamed c) (HasChoice c) (on_slack c past) (λ x r. (r, source_named (length past) past)) (wish_at c past k)
        (oldest_named (length past) past (filter (is_wishing c (length past) past k) (threads c past))
        (each_filter (IsNamed c) (is_wishing c (length past) past k) (threads c past) (threads_each past sound)))) tt

    pub chosen_within : HasChoice c (chosen c past)
    chosen_within =
        some_or (HasChoice c) (first_of (choice_at c past) (below (length c.levels))) Choice.Idle
        (each_first (HasChoice c) (choice_at c past) 0 (length c.levels) (λ k a b.
        or_some (HasChoice c) (work_at c past k) (slack_at c past k) (work_within k (omega (arith, b))) (slack_within k))) tt
