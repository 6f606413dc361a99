-- The seats and the queues where the job of one thread moves, or of none.
use Rattle.dk_ready.proofs.Names.{◌≡◌, ◌<◌, ◌≤◌, ◌∙◌, inl, inr, ◌&&◌, not, Bool, true, false, cond, eqb, ltb, ℕ, List, [], ◌∷◌, length, map, option_map, refl, ap, sym, subst, arith, zero, suc, ◌+◌, set, ◌++◌, ◌||◌, filter, slice_get, IsSome, ◌==◌, IsNone, cases_Bool, cases_eq, and_parts, nat_tests, slice_get-map, get_or-set_same, set-set, set-get_or, Configuration, slice_set-length, ThreadId, Entry, Has, is_same, Thread, threads, Job, job, rem, thread_rem, same-id, same-self, spent, worked_for, HasBody, queue_at, unlinked, without, holder, holds, pushed, Queues, Seat, Roster, closed, closed_on, left_on, seat_at, spent_on, told_phase, vacant, with_job, spent_for, queued, AreSeated, IsRecount, KeepsJobs, MovesJob, is_ready, ready_nodes, seat_of, position_from, list_any-has, map-has, has-filter, worked-more, left-more}
use Rattle.dk_ready.proofs.Numbers.{set-other}

pub queue-unlinked : (node : ℕ) (lists : List (List ℕ)) (k : ℕ) → queue_at (unlinked lists node) k ≡ without node (queue_at lists k)
queue-unlinked node [] k = refl
queue-unlinked node (queue ∷ lists) zero = refl
queue-unlinked node (queue ∷ lists) (suc k) = queue-unlinked node lists k

-- two tests that agree on a list filter it alike
pub filter-same : {X : Type 0} (p q : X → Bool) (xs : List X) → ((x : X) → Has xs x → p x ≡ q x) → filter p xs ≡ filter q xs
filter-same p q [] same = refl
filter-same p q (x ∷ xs) same = rw (same x (inl refl), filter-same p q xs (λ y h. same y (inr h))) refl

-- the nodes of those that pass, without the one node whose thread passes no more
without-one : {X : Type 0} (node : X → ℕ) (p q : X → Bool) (n : ℕ) (xs : List X)
    → ((x : X) → Has xs x → p x ≡ false → q x ≡ false) → ((x : X) → Has xs x → p x ≡ true → q x ≡ not (eqb n (node x)))
    → without n (map node (filter p xs)) ≡ map node (filter q xs)
without-one node p q n [] off on = refl
without-one node p q n (x ∷ xs) off on =
    let rest = without-one node p q n xs (λ y h. off y (inr h)) (λ y h. on y (inr h)) in
    elim (cases_Bool (p x)) [
      | inr out ↦ let out' = off x (inl refl) out in rw (out, out') rest
      | inl in' ↦
          let is = on x (inl refl) in' in
          elim (cases_Bool (eqb n (node x))) [
            | inl own ↦ let out' : q x ≡ false = is ∙ ap not own in rw (in', out', own) rest
            | inr other ↦ let stays : q x ≡ true = is ∙ ap not other in rw (in', stays, other) (ap (λ ns. node x ∷ ns) rest)
          ]
    ]

some-of : (n : ℕ) → ltb 0 n ≡ true → 0 < n
some-of n h = grind (arith, nat_tests)

none-of : (n m : ℕ) → n ≤ m → ltb 0 m ≡ false → ltb 0 n ≡ false
none-of n m less h = grind (arith, nat_tests)

abbrev sitting : Thread → Job → Seat
sitting x j = record { thread = x.id; level = x.level; job = j }

-- all jobs stay
pub jobs-keep : (node_of : ThreadId → ℕ) (sits : Thread → Bool) (c : Configuration) (now next : ℕ) (before after : List Entry) (r : Roster)
    → KeepsJobs c now next before after → IsRecount node_of sits c now before r → IsRecount node_of sits c next after r
jobs-keep node_of sits c now next before after r keeps is = record {
  switch = is.switch;
  seats = λ x among there.
      (let old : Has (threads c before) x = subst (λ xs. Has xs x) keeps.rows among in
      is.seats x old there ∙ ap (sitting x) (sym (keeps.jobs x old)));
  ready = λ k known.
      is.ready k known
      ∙ ap (map (λ (x : Thread). node_of x.id))
      (filter-same (is_ready c now before k) (is_ready c next after k) (threads c before)
      (λ x h. ap (λ j. eqb x.level k && ltb 0 (rem c.costs.switch j)) (sym (keeps.jobs x h)))
      ∙ ap (filter (is_ready c next after k)) (sym keeps.rows));
}

module _ (node_of : ThreadId → ℕ) (sits : Thread → Bool) (c : Configuration) (now : ℕ) (before after : List Entry) (r : Roster) (x : Thread)
    (is : IsRecount node_of sits c now before r) (seated : AreSeated node_of sits c now before)
    (among : Has (threads c before) x) (there : sits x ≡ true) (inside : node_of x.id < length r.seats)
    (moves : MovesJob c now before after x) where
  nodes-tell : (y : Thread) → Has (threads c before) y → sits y ≡ true → eqb (node_of x.id) (node_of y.id) ≡ is_same y.id x.id
  nodes-tell y has there' =
      elim (cases_Bool (is_same y.id x.id)) [
        | inl same ↦
            let e : node_of x.id ≡ node_of y.id = sym (ap node_of (same-id y.id x.id same)) in
            let on : eqb (node_of x.id) (node_of y.id) ≡ true = grind (arith, nat_tests) in
            on ∙ sym same
        | inr other ↦
            elim (cases_eq (node_of x.id) (node_of y.id)) [
              | inr apart ↦ let off : eqb (node_of x.id) (node_of y.id) ≡ false = grind (arith, nat_tests) in off ∙ sym other
              | inl e ↦
                  let on : is_same y.id x.id ≡ true = subst (λ i. is_same y.id i ≡ true) (seated.apart y x has among there' there (sym e)) (same-self y.id) in
                  absurd (cc)
            ]
      ]

  -- the node has the job that the thread has then
  module _ (next : Job) (own : next ≡ job c now after x) (leaves : Bool)
      (left : ltb 0 (rem c.costs.switch next) ≡ (ltb 0 (thread_rem c now before x) && not leaves)) where
    seats-moved : (y : Thread) → Has (threads c after) y → sits y ≡ true → seat_at (with_job (node_of x.id) next leaves r) (node_of y.id) ≡ seat_of c now after y
    seats-moved y has there' =
        let old : Has (threads c before) y = subst (λ ys. Has ys y) moves.rows has in
        elim (cases_Bool (is_same y.id x.id)) [
          | inl same ↦
              subst (λ (z : Thread). seat_at (with_job (node_of x.id) next leaves r) (node_of z.id) ≡ seat_of c now after z)
              (sym (seated.named y x old among (same-id y.id x.id same)))
              (get_or-set_same r.seats (node_of x.id) _ vacant inside
              ∙ ap (λ (s : Seat). record { thread = s.thread; level = s.level; job = next }) (is.seats x among there) ∙ ap (sitting x) own)
          | inr other ↦
              set-other r.seats (node_of x.id) (node_of y.id) _ vacant (nodes-tell y old there' ∙ other)
              ∙ is.seats y old there' ∙ ap (sitting y) (sym (moves.others y old other))
        ]

    -- who is ready then
    own-ready : (k : ℕ) → is_ready c now after k x ≡ (is_ready c now before k x && not leaves)
    own-ready k = ap (λ b. eqb x.level k && b) (ap (λ j. ltb 0 (rem c.costs.switch j)) (sym own) ∙ left) ∙ assoc (eqb x.level k) (ltb 0 (thread_rem c now before x)) (not leaves)
      where
        assoc : (a b d : Bool) → (a && (b && d)) ≡ ((a && b) && d)
        assoc true b d = refl
        assoc false b d = refl

    other-ready : (k : ℕ) (y : Thread) → Has (threads c before) y → is_same y.id x.id ≡ false → is_ready c now after k y ≡ is_ready c now before k y
    other-ready k y has other = ap (λ j. eqb y.level k && ltb 0 (rem c.costs.switch j)) (moves.others y has other)

    ready-moved : (k : ℕ) (y : Thread) → Has (threads c before) y → is_ready c now after k y ≡ (is_ready c now before k y && not (leaves && is_same y.id x.id))
    ready-moved k y has =
        elim (cases_Bool (is_same y.id x.id)) [
          | inl same ↦
              subst (λ (z : Thread). is_ready c now after k z ≡ (is_ready c now before k z && not (leaves && is_same z.id x.id)))
              (sym (seated.named y x has among (same-id y.id x.id same)))
              (own-ready k ∙ ap (λ b. is_ready c now before k x && not b) (sym (ap (λ b. leaves && b) (same-self x.id) ∙ true-right leaves)))
          | inr other ↦
              other-ready k y has other
              ∙ sym (ap (λ b. is_ready c now before k y && not (leaves && b)) other ∙ ap (λ b. is_ready c now before k y && not b) (false-right leaves) ∙ true-right (is_ready c now before k y))
        ]
      where
        true-right : (b : Bool) → (b && true) ≡ b
        true-right true = refl
        true-right false = refl

        false-right : (b : Bool) → (b && false) ≡ false
        false-right true = refl
        false-right false = refl

    sits-ready : (k : ℕ) (y : Thread) → Has (threads c before) y → is_ready c now before k y ≡ true → sits y ≡ true
    sits-ready k y has on = seated.workers y has (some-of (thread_rem c now before y) (and_parts (eqb y.level k) (ltb 0 (thread_rem c now before y)) on).1)

    queues-moved : (k : ℕ) → k < length c.levels → queue_at (with_job (node_of x.id) next leaves r).ready.lists k ≡ ready_nodes node_of c now after k
    queues-moved k known = go leaves refl ∙ ap (λ xs. map (λ (y : Thread). node_of y.id) (filter (is_ready c now after k) xs)) (sym moves.rows)
      where
        node : Thread → ℕ
        node y = node_of y.id

        go : (b : Bool) → leaves ≡ b
            → queue_at (cond leaves (record { nodes = r.ready.nodes; lists = unlinked r.ready.lists (node_of x.id) }) r.ready).lists k
            ≡ map (λ (y : Thread). node_of y.id) (filter (is_ready c now after k) (threads c before))
        go true on =
            ap (λ b. queue_at (cond b (record { nodes = r.ready.nodes; lists = unlinked r.ready.lists (node_of x.id) }) r.ready).lists k) on
            ∙ queue-unlinked (node_of x.id) r.ready.lists k
            ∙ ap (without (node_of x.id)) (is.ready k known)
            ∙ without-one (λ (y : Thread). node_of y.id) (is_ready c now before k) (is_ready c now after k) (node_of x.id) (threads c before)
            (λ y h off. ready-moved k y h ∙ ap (λ b. b && not (leaves && is_same y.id x.id)) off)
            (λ y h in'.
            ready-moved k y h ∙ ap (λ b. b && not (leaves && is_same y.id x.id)) in' ∙ ap (λ b. not (b && is_same y.id x.id)) on
            ∙ ap not (sym (nodes-tell y h (sits-ready k y h in'))))
        go false off =
            ap (λ b. queue_at (cond b (record { nodes = r.ready.nodes; lists = unlinked r.ready.lists (node_of x.id) }) r.ready).lists k) off
            ∙ is.ready k known
            ∙ ap (map (λ (y : Thread). node_of y.id))
            (filter-same (is_ready c now before k) (is_ready c now after k) (threads c before)
            (λ y h. sym (ready-moved k y h ∙ ap (λ b. is_ready c now before k y && not (b && is_same y.id x.id)) off ∙ true-right (is_ready c now before k y))))
          where
            true-right : (b : Bool) → (b && true) ≡ b
            true-right true = refl
            true-right false = refl

    pub moved : IsRecount node_of sits c now after (with_job (node_of x.id) next leaves r)
    moved = record { switch = is.switch; seats = seats-moved; ready = queues-moved }

  -- what the node has left
  pub left-is : left_on r (node_of x.id) ≡ thread_rem c now before x
  left-is = ap (λ (s : Seat). rem r.switch s.job) (is.seats x among there) ∙ ap (λ W. rem W (job c now before x)) is.switch

  -- a test of what is left afterwards
  left-after : (next : Job) → next ≡ job c now after x → (some : Bool) → (ltb 0 (thread_rem c now before x) ≡ true → some ≡ true)
      → ltb 0 (rem c.costs.switch next) ≡ (ltb 0 (thread_rem c now before x) && not (some && eqb (rem c.costs.switch next) 0))
  left-after next own some was = go (ltb 0 (thread_rem c now before x)) refl
    where
      low : rem c.costs.switch next ≤ thread_rem c now before x
      low = let e = ap (rem c.costs.switch) own in let less = moves.lowers in omega (arith, e, less)

      tests : (n : ℕ) → ltb 0 n ≡ not (eqb n 0)
      tests n = elim (cases_Bool (eqb n 0)) [ inl none ↦ grind (arith, nat_tests) | inr more ↦ grind (arith, nat_tests) ]

      go : (b : Bool) → ltb 0 (thread_rem c now before x) ≡ b → ltb 0 (rem c.costs.switch next) ≡ (b && not (some && eqb (rem c.costs.switch next) 0))
      go false none = none-of (rem c.costs.switch next) (thread_rem c now before x) low none
      go true more = tests (rem c.costs.switch next) ∙ ap (λ b. not (b && eqb (rem c.costs.switch next) 0)) (sym (was more))

  pub spent-moves : job c now after x ≡ spent c.costs.switch (job c now before x) → IsRecount node_of sits c now after (spent_on (node_of x.id) r)
  spent-moves own =
      let seat = is.seats x among there in
      let next = spent r.switch (seat_at r (node_of x.id)).job in
      let is-next : next ≡ job c now after x = ap (λ (s : Seat). spent r.switch s.job) seat ∙ ap (λ W. spent W (job c now before x)) is.switch ∙ sym own in
      let leaves : eqb (rem r.switch next) 0 ≡ eqb (rem c.costs.switch next) 0 = ap (λ W. eqb (rem W next) 0) is.switch in
      moved next is-next (eqb (rem r.switch next) 0)
      (left-after next is-next true (λ more. refl) ∙ ap (λ b. ltb 0 (thread_rem c now before x) && not b) (sym leaves))

  pub closed-moves : job c now after x ≡ closed (job c now before x) → IsRecount node_of sits c now after (closed_on (node_of x.id) r)
  closed-moves own =
      let seat = is.seats x among there in
      let next = closed (seat_at r (node_of x.id)).job in
      let is-next : next ≡ job c now after x = ap (λ (s : Seat). closed s.job) seat ∙ sym own in
      let leaves : eqb (rem r.switch next) 0 ≡ eqb (rem c.costs.switch next) 0 = ap (λ W. eqb (rem W next) 0) is.switch in
      moved next is-next (ltb 0 (left_on r (node_of x.id)) && eqb (rem r.switch next) 0)
      (left-after next is-next (ltb 0 (left_on r (node_of x.id))) (λ more. ap (ltb 0) left-is ∙ more)
      ∙ ap (λ b. ltb 0 (thread_rem c now before x) && not (ltb 0 (left_on r (node_of x.id)) && b)) (sym leaves))

-- the words of the seats
pub tells-left : (node_of : ThreadId → ℕ) (sits : Thread → Bool) (c : Configuration) (now : ℕ) (past : List Entry) (r : Roster) (x : Thread)
    → IsRecount node_of sits c now past r → Has (threads c past) x → sits x ≡ true → left_on r (node_of x.id) ≡ thread_rem c now past x
tells-left node_of sits c now past r x is among there =
    ap (λ (s : Seat). rem r.switch s.job) (is.seats x among there) ∙ ap (λ W. rem W (job c now past x)) is.switch

pub tells-phase : (node_of : ThreadId → ℕ) (sits : Thread → Bool) (c : Configuration) (now : ℕ) (past : List Entry) (r : Roster) (x : Thread)
    → IsRecount node_of sits c now past r → Has (threads c past) x → sits x ≡ true
    → told_phase r.switch (seat_at r (node_of x.id)).job ≡ told_phase c.costs.switch (job c now past x)
tells-phase node_of sits c now past r x is among there =
    ap (λ (s : Seat). told_phase r.switch s.job) (is.seats x among there) ∙ ap (λ W. told_phase W (job c now past x)) is.switch

pub tells-ready : (node_of : ThreadId → ℕ) (sits : Thread → Bool) (c : Configuration) (now : ℕ) (past : List Entry) (r : Roster) (k index : ℕ)
    → IsRecount node_of sits c now past r → k < length c.levels
    → slice_get (queue_at r.ready.lists k) index ≡ option_map (λ x. node_of x.id) (slice_get (filter (is_ready c now past k) (threads c past)) index)
tells-ready node_of sits c now past r k index is known =
    ap (λ ns. slice_get ns index) (is.ready k known) ∙ slice_get-map (λ (x : Thread). node_of x.id) (filter (is_ready c now past k) (threads c past)) index

-- whoever has something left stands in the queue of its level
in-some : (node : ℕ) (lists : List (List ℕ)) (k from : ℕ) → holds node (queue_at lists k) ≡ true → IsSome (position_from (holds node) from lists)
in-some node [] k from h = absurd (let none : false ≡ true = h in cc)
in-some node (q ∷ lists) zero from h = rw h refl
in-some node (q ∷ lists) (suc k) from h =
    elim (cases_Bool (holds node q)) [
      | inl here ↦ rw here refl
      | inr other ↦ rw other (in-some node lists k (from + 1) h)
    ]

pub queues-workers : (node_of : ThreadId → ℕ) (sits : Thread → Bool) (c : Configuration) (now : ℕ) (past : List Entry) (r : Roster) (x : Thread)
    → IsRecount node_of sits c now past r → Has (threads c past) x → x.level < length c.levels → 0 < thread_rem c now past x
    → IsSome (holder r.ready.lists (node_of x.id))
queues-workers node_of sits c now past r x is among known some =
    let node = node_of x.id in
    let left : ltb 0 (thread_rem c now past x) ≡ true = grind (arith, nat_tests) in
    let self : eqb x.level x.level ≡ true = grind (arith, nat_tests) in
    let passes : is_ready c now past x.level x ≡ true = rw (self, left) refl in
    let has : Has (ready_nodes node_of c now past x.level) node =
    map-has (λ (y : Thread). node_of y.id) (filter (is_ready c now past x.level) (threads c past)) x (has-filter (is_ready c now past x.level) (threads c past) x among passes) in
    let queue : Has (queue_at r.ready.lists x.level) node = subst (λ q. Has q node) (sym (is.ready x.level known)) has in
    let same : eqb node node ≡ true = grind (arith, nat_tests) in
    in-some node r.ready.lists x.level 0 (list_any-has (λ n. eqb node n) (queue_at r.ready.lists x.level) node queue same)

module _ (r : Roster) (node : ℕ) (inside : node < length r.seats) where
  abbrev seat : Seat
  seat = seat_at r node

  pub seat-then : (m : ℕ) → seat_at (spent_for node m r) node ≡ record { thread = seat.thread; level = seat.level; job = worked_for m seat.job }
  seat-then m = get_or-set_same r.seats node _ vacant inside

  pub jobs-none : r ≡ spent_for node 0 r
  jobs-none =
      let same : seat.job.used + 0 ≡ seat.job.used = omega arith in
      let job : worked_for 0 seat.job ≡ seat.job = ap (λ (u : ℕ). record { share = seat.job.share; used = u; out_ticks = seat.job.out_ticks; closed = seat.job.closed }) same in
      sym (ap (λ (j : Job). record r { seats = set r.seats node (record { thread = seat.thread; level = seat.level; job = j }) }) job
      ∙ ap (λ (ss : List Seat). record r { seats = ss }) (set-get_or r.seats node vacant))

  pub jobs-more : (m : ℕ) → HasBody r.switch (suc m) seat.job → spent_on node (spent_for node m r) ≡ spent_for node (suc m) r
  jobs-more m body =
      let R = spent_for node m r in
      let next = worked_for (suc m) seat.job in
      let is : spent r.switch (seat_at R node).job ≡ next = ap (λ (s : Seat). spent r.switch s.job) (seat-then m) ∙ worked-more r.switch m seat.job body in
      let stays : (rem r.switch (spent r.switch (seat_at R node).job) == 0) ≡ false = ap (λ j. rem r.switch j == 0) is ∙ left-more r.switch m seat.job body in
      ap (λ b. with_job node (spent r.switch (seat_at R node).job) b R) stays
      ∙ ap (λ j. with_job node j false R) is
      ∙ ap (λ (s : Seat). record r { seats = set R.seats node (record { thread = s.thread; level = s.level; job = next }) }) (seat-then m)
      ∙ ap (λ (ss : List Seat). record r { seats = ss }) (set-set r.seats node _ _)

pub queued-lists : (node : ℕ) (seat : Seat) (ready : Queues) → length (queued node seat ready).lists ≡ length ready.lists
queued-lists node seat ready = go (eqb seat.job.share 0)
  where
    go : (b : Bool) → length (cond b ready (record { nodes = ready.nodes; lists = pushed ready.lists seat.level node })).lists ≡ length ready.lists
    go true = refl
    go false = slice_set-length ready.lists seat.level (queue_at ready.lists seat.level ++ node ∷ [])

pub holds-append : (n : ℕ) (xs ys : List ℕ) → holds n (xs ++ ys) ≡ (holds n xs || holds n ys)
holds-append n [] ys = refl
holds-append n (x ∷ xs) ys =
    elim (cases_Bool (eqb n x)) [
      | inl on ↦ rw on refl
      | inr off ↦ rw off (holds-append n xs ys)
    ]

-- the node stands in no queue
abbrev pub Absent : ℕ → Roster → Type 0
Absent node r = (k : ℕ) → k < length r.ready.lists → holds node (queue_at r.ready.lists k) ≡ false

pub no-holder : (node : ℕ) (lists : List (List ℕ)) (from : ℕ) → ((k : ℕ) → k < length lists → holds node (queue_at lists k) ≡ false) → IsNone (position_from (holds node) from lists)
no-holder node [] from off = refl
no-holder node (q ∷ lists) from off =
    let here : holds node q ≡ false = off 0 (omega arith) in
    rw here (no-holder node lists (from + 1) (λ k h. off (suc k) (omega (arith, h))))

pub none-holds : (node : ℕ) (queue : List ℕ) → ((n : ℕ) → Has queue n → eqb node n ≡ false) → holds node queue ≡ false
none-holds node [] off = refl
none-holds node (n ∷ queue) off = rw (off n (inl refl)) (none-holds node queue (λ m h. off m (inr h)))
