-- Who computes in the next ticks, with nobody that holds a mutex.
use Rattle.dk_dispatch.proofs.Names.{arith, inl, inr, ◌≡◌, ◌∙◌, ◌+◌, ◌-◌, ◌≤◌, ◌<◌, true, false, ltb, eqb, ℕ, List, None, Some, length, map, get_or, ap, refl, sym, subst, cases_lt, nat_tests, get_or_past, ThreadId, Phase, Choice, Job, phase, rem, HasBody, worked_for, body-less, spent_row, effective_level, hold_left, holder_at, end_at, First, Seat, IsComputing, IsComputingFor, seat_at, told_phase, vacant, seat-then, IsSound, Tables, node_in, level_in, HasNoWish, choice_of, kernel_left, EndsAfter, HasRoomFor, computed, sound-computed}
use Rattle.dk_ready.specs.Roster.{spent_for}
use Rattle.dk_recount.specs.Stretching.{MayRun}
use Rattle.dk_dispatch.proofs.Looking.{first-works, work-is-chosen}

-- who has a body to come has a tick of it next
pub body-phase : (W m n : ℕ) (job : Job) → m < n → HasBody W n job → told_phase W (worked_for m job) ≡ Some Phase.Body
body-phase W m n job less body =
    let open' : job.closed ≡ false = body.opened in
    let entered = body.entered in
    let far = body.body in
    let more = body.more in
    let left : rem W (worked_for m job) ≡ job.share - (job.used + m) = rw open' refl in
    let some : eqb (job.share - (job.used + m)) 0 ≡ false = grind (arith, nat_tests) in
    let in' : ltb (job.used + m) W ≡ false = grind (arith, nat_tests) in
    let on : ltb (job.used + m) (job.share - W) ≡ true = grind (arith, nat_tests) in
    let is : phase W (worked_for m job) ≡ Phase.Body = rw (open', in', on) refl in
    rw (left, some, is) refl

-- and sits on a node
pub node-inside : (W n : ℕ) (seats : List Seat) (node : ℕ) → HasBody W n (get_or seats node vacant).job → node < length seats
node-inside W n seats node body = elim (cases_lt node (length seats)) [
  | inl within ↦ within
  | inr past ↦
      let none : get_or seats node vacant ≡ vacant = get_or_past seats node vacant past in
      let some : 0 < (get_or seats node vacant).job.share = (let more = body.more in omega (arith, more)) in
      let never : (get_or seats node vacant).job.share ≡ 0 = ap (λ (s : Seat). s.job.share) none in
      absurd (omega (arith, some, never))
]

-- fewer ticks end before the window does too
pub ends-sooner : (n m : ℕ) (d : Tables) → n ≤ m → EndsAfter m d → EndsAfter n d
ends-sooner n m d less within = sooner n m d.demand.windows.tick (end_at d.demand.windows 0) less within
  where
    sooner : (n m t e : ℕ) → n ≤ m → t + m < e → t + n < e
    sooner n m t e less within = omega (arith, less, within)

-- and there is room for them
pub room-sooner : (n m : ℕ) (d : Tables) → n ≤ m → HasRoomFor m d → HasRoomFor n d
room-sooner n m d less has = (let room = has.room in record { config = has.config; past = has.past; stands = has.stands; room = omega (arith, less, room) })

module _ (d : Tables) (first : First) (most : ℕ) (ahead : IsComputingFor d.jobs most first) (sound : IsSound d)
    (kernel : (k : ℕ) → k ≤ first.level → kernel_left d k ≡ 0) (holders : (k : ℕ) → k ≤ first.level → holder_at k d.mutexes ≡ None) (wish : HasNoWish d first.level) where
  abbrev x : ThreadId
  x = first.thread

  pub is-computing : IsComputing d.jobs first
  is-computing =
      let job = (seat_at d.jobs first.node).job in
      let none : job.used + 0 ≡ job.used = omega arith in
      record {
        stands = ahead.stands;
        phase =
            ap (λ (u : ℕ). told_phase d.jobs.switch (record { share = job.share; used = u; out_ticks = job.out_ticks; closed = job.closed })) (sym none)
            ∙ body-phase d.jobs.switch 0 most job ahead.some ahead.body;
      }

  module _ (node : first.node ≡ node_in d.threads first.thread) (free : hold_left first.thread d.mutexes ≡ 0) (holds : map (spent_row first.thread) d.mutexes ≡ d.mutexes)
      (levels : (own : ℕ) → effective_level first.thread own d.mutexes ≡ own) where
    own-body : HasBody d.jobs.switch most (seat_at d.jobs (node_in d.threads x)).job
    own-body = subst (λ n. HasBody d.jobs.switch most (seat_at d.jobs n).job) node ahead.body

    own-node : node_in d.threads x < length d.jobs.seats
    own-node = node-inside d.jobs.switch most d.jobs.seats (node_in d.threads x) own-body

    -- it is first in all of them, and computes
    still-computing : (i : ℕ) → i < most → IsComputing (computed x i d).jobs first
    still-computing i less =
        let r = d.jobs in
        let n = node_in d.threads x in
        let at : seat_at (spent_for n i r) first.node ≡ record { thread = (seat_at r n).thread; level = (seat_at r n).level; job = worked_for i (seat_at r n).job } =
        ap (seat_at (spent_for n i r)) node ∙ seat-then r n own-node i in
        record {
          stands = record {
            known = ahead.stands.known;
            before = ahead.stands.before;
            front = ahead.stands.front;
            thread = ap (λ (s : Seat). s.thread) at ∙ ap (λ k. (seat_at r k).thread) (sym node) ∙ ahead.stands.thread;
            level = ap (λ (s : Seat). s.level) at ∙ ap (λ k. (seat_at r k).level) (sym node) ∙ ahead.stands.level;
          };
          phase = ap (λ (s : Seat). told_phase r.switch s.job) at ∙ body-phase r.switch i most (seat_at r n).job less own-body;
        }

    still-chosen : (i : ℕ) → i < most → choice_of (computed x i d) ≡ Choice.Budget x Phase.Body
    still-chosen i less =
        let D = computed x i d in
        work-is-chosen D (record { level = first.level; choice = Choice.Budget x Phase.Body })
        (first-works D first (still-computing i less) kernel holders (sound-computed x d sound i)) (λ on. wish)

    pub may-run : (n : ℕ) → n ≤ most → HasRoomFor n d → EndsAfter n d → MayRun x n d
    may-run n less room within = record {
      room = room;
      computes = record {
        node = own-node;
        body = body-less d.jobs.switch most n (seat_at d.jobs (node_in d.threads x)).job less own-body;
        free = free;
        holds = holds;
        runs = levels (level_in d x);
        chosen = λ i below. still-chosen i (omega (arith, less, below));
      };
      within = within;
    }
