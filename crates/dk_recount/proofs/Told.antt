-- What the tables tell of their jobs, ready queues, holders and wishes.
use Rattle.dk_recount.proofs.Names.{◌≡◌, ◌≢◌, ◌<◌, ◌∙◌, inl, inr, ◌&&◌, true, eqb, ltb, ℕ, zero, suc, List, [], ◌∷◌, length, map, Some, option_map, refl, ap, sym, arith, slice_get, filter, Contains, and_parts, eq-eqb, nat_tests, Configuration, ThreadId, Entry, Has, Thread, threads, job, thread_rem, past_want, is_past_entering, past_holder_at, filter-has, has-contains, has-filter, has_row, holder_at, Slack, is_entering, asking, HaveOwnNodes, AreWishes, Seat, seat_at, told_phase, Tables, HasFamilies, node_in, IsReady, IsRecount, is_ready, phase_in, ready_in, ready_thread, rem_in}
use Rattle.dk_slack.specs.Wishes.{want}
use Rattle.dk_recount.specs.Needed.{ChoosingLaws as Laws}
use Rattle.dk_recount.proofs.Rows.{nodes-differ}
use Rattle.dk_recount.proofs.Choosing.{holders-fit, worker-there, asker-there, row-of, asker, own-nodes}

-- Jobs.

pub rem-told : (c : Configuration) (now : ℕ) (past : List Entry) (d : Tables) (x : ThreadId) (y : Thread) → IsRecount c now past d → Has (threads c past) y → y.id ≡ x → has_row c now y ≡ true
    → rem_in d x ≡ thread_rem c now past y
rem-told c now past d x y r among is there = grind (arith, nat_tests)

pub phase-told : (c : Configuration) (now : ℕ) (past : List Entry) (d : Tables) (x : ThreadId) (y : Thread) → IsRecount c now past d → Has (threads c past) y → y.id ≡ x → has_row c now y ≡ true
    → phase_in d x ≡ told_phase c.costs.switch (job c now past y)
phase-told c now past d x y r among is there = grind (arith, nat_tests)

-- what the law of the wishes says
abbrev pub AmountIs : Type 0
AmountIs = (node_of : ThreadId → ℕ) (spares : List ℕ) (c : Configuration) (now : ℕ) (past : List Entry) (t : Slack) (k : ℕ) (x : Thread)
    → AreWishes node_of spares c now past t → HaveOwnNodes node_of c now past → k < length c.levels → Contains (asking c now past k) x
    → want (node_of x.id) t.wishes ≡ past_want c now past x

abbrev pub NothingIs : Type 0
NothingIs = (node_of : ThreadId → ℕ) (spares : List ℕ) (c : Configuration) (now : ℕ) (past : List Entry) (t : Slack) (node : ℕ)
    → AreWishes node_of spares c now past t
    → ((k : ℕ) (x : Thread) → k < length c.levels → Contains (asking c now past k) x → node ≢ node_of x.id)
    → want node t.wishes ≡ 0

-- the threads that sit on the nodes of a list, at one place
at-place : (sits : ℕ → ThreadId) (node_of : Thread → ℕ) (xs : List Thread) (i : ℕ) → ((x : Thread) → Has xs x → sits (node_of x) ≡ x.id)
    → option_map sits (slice_get (map node_of xs) i) ≡ option_map (λ (x : Thread). x.id) (slice_get xs i)
at-place sits node_of [] zero h = refl
at-place sits node_of [] (suc i) h = refl
at-place sits node_of (x ∷ xs) zero h = ap Some (h x (inl refl))
at-place sits node_of (x ∷ xs) (suc i) h = at-place sits node_of xs i (λ y has. h y (inr has))

module _ (laws : Laws) (c : Configuration) (past : List Entry) (d : Tables) (ready : IsReady c past d) (families : HasFamilies d) where
  abbrev now : ℕ
  now = length past

  abbrev node_of : ThreadId → ℕ
  node_of = node_in d.threads

  -- Workers.

  sits-there : (k : ℕ) (x : Thread) → Has (filter (is_ready c now past k) (threads c past)) x → (seat_at d.jobs (node_of x.id)).thread ≡ x.id
  sits-there k x has =
      let r = filter-has (is_ready c now past k) (threads c past) x has in
      let some = some-of (thread_rem c now past x) (and_parts (eqb x.level k) (ltb 0 (thread_rem c now past x)) r.1).1 in
      ap (λ (s : Seat). s.thread) (ready.recount.jobs.seats x r.0 (worker-there laws c past d ready families x r.0 some))
    where
      some-of : (n : ℕ) → ltb 0 n ≡ true → 0 < n
      some-of n h = grind (arith, nat_tests)

  pub ready-told : (k index : ℕ) → k < length c.levels → ready_in d k index ≡ ready_thread c past k index
  ready-told k index known = grind (arith, nat_tests, at-place, sits-there)

  pub holder-told : (k : ℕ) → holder_at k d.mutexes ≡ option_map (λ (x : Thread). x.id) (past_holder_at c past k)
  holder-told k = laws.holder c past d.mutexes k ready.recount.holders ready.recount.own_levels (holders-fit laws c past d ready families)

  -- Wishes.

  asks-there : (x : Thread) → Has (threads c past) x → 0 < past_want c now past x → Contains (asking c now past x.level) x
  asks-there x among some =
      let on : ltb 0 (past_want c now past x) ≡ true = grind (arith, nat_tests) in
      has-contains (asking c now past x.level) x
      (has-filter (λ (y : Thread). eqb y.level x.level && ltb 0 (past_want c now past y)) (threads c past) x among (rw (eq-eqb x.level x.level refl, on) refl))

  level-there : (x : Thread) → Has (threads c past) x → x.level < length c.levels
  level-there x among = (laws.places c past ready.ruled.checked ready.ruled.accepted ready.ruled.audited x among).level

  pub want-told : AmountIs → NothingIs → (i : ThreadId) (x : Thread) → Has (threads c past) x → x.id ≡ i → has_row c now x ≡ true
      → want (node_of i) d.slack.wishes ≡ past_want c now past x
  want-told amount nothing i x among is there =
      ap (λ (j : ThreadId). want (node_of j) d.slack.wishes) (sym is) ∙ go (past_want c now past x) refl
    where
      go : (n : ℕ) → past_want c now past x ≡ n → want (node_of x.id) d.slack.wishes ≡ past_want c now past x
      go (suc n) some = amount node_of _ c now past d.slack x.level x ready.recount.wishes (own-nodes laws c past d ready families) (level-there x among) (asks-there x among (omega (arith, some)))
      go zero none =
          nothing node_of _ c now past d.slack (node_of x.id) ready.recount.wishes
          (λ k y known has same.
          let a = asker laws c past d ready families k y has in
          let one = row-of laws c past d ready families x among there in
          let two = row-of laws c past d ready families y a.0 (asker-there laws c past d ready families y a.0 a.2) in
          let names = nodes-differ d.threads x.id y.id families one two same in
          let equal = (laws.named c past ready.ruled.checked ready.ruled.accepted ready.ruled.audited).distinct x y among a.0 names in
          let wants : past_want c now past x ≡ past_want c now past y = ap (past_want c now past) equal in
          let some = a.2 in
          omega (arith, some, wants, none))
          ∙ sym none

  pub entering-told : (i : ThreadId) (x : Thread) → Has (threads c past) x → x.id ≡ i → 0 < past_want c now past x
      → is_entering (node_of i) d.slack.wishes ≡ is_past_entering c now past x
  entering-told i x among is some =
      ap (λ (j : ThreadId). is_entering (node_of j) d.slack.wishes) (sym is)
      ∙ laws.switch node_of _ c now past d.slack x.level x ready.recount.wishes (own-nodes laws c past d ready families) (level-there x among) (asks-there x among some)
