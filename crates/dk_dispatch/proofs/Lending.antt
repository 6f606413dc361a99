-- A thread that has the next ticks as slack, by the tables and by the past.
use Rattle.dk_dispatch.proofs.Names.{ℕ, ◌≡◌, ◌∙◌, ◌+◌, ◌<◌, ◌≤◌, inl, true, false, List, length, map, Option, Some, None, refl, ap, sym, subst, arith, IfSome, if◌then◌else◌, is_none, MAX_TICKS, Configuration, window_end, ThreadId, Phase, Source, Choice, Work, Entry, Has, Thread, threads, past_want, chosen, label_of, end_at, has_row, spent_row, hold_left, first_unfit, at_tick, Ahead, IsAhead, first_node, is_entering, spent_for, want, counted_for, source_of, entered-lowered, first-lowered, seat_at, HasFamilies, IsSound, Tables, node_in, IsReady, MayCharge, MaySlack, HasNoWork, choice_of, WhereReady, slots, EndsAfter, HasRoomFor, Lends, MayCountFor, MayLendBy, Passes, lent, Past, Ready, Borrower, BorrowsBy, Dispatched, Stands, dispatched, Borrows, MayLend}
use Rattle.dk_dispatch.proofs.Looking.{wish-chosen}
use Rattle.dk_dispatch.proofs.Runs.{ends-sooner}
use Rattle.dk_dispatch.proofs.Running.{EndsAreTheConfigurations, HoldsNothing, LeftIsThePasts, MutexIsThePasts, RowsAreThePasts, holds-nothing, seated, sooner-by, window-ends}
use Rattle.dk_dispatch.proofs.Stretching.{chosen-to, gone, some-levels}
use Rattle.dk_dispatch.proofs.Ticking.{is-ready}

-- Whose wish comes before all work and all other wishes has each of the ticks in which slack fits and the source stays.
module _ (d : Tables) (ahead : Ahead) (is : IsAhead d.slack ahead) (quiet fit : ℕ) (low : ahead.level < quiet) (within : quiet ≤ length d.kernel) (work : HasNoWork d quiet)
    (fits : (i : ℕ) → i < fit → first_unfit (at_tick d.demand (d.demand.windows.tick + i)) ≡ None) (x : ThreadId) (own : (seat_at d.jobs ahead.node).thread ≡ x)
    (node : ahead.node ≡ node_in d.threads x) (free : hold_left x d.mutexes ≡ 0) (holds : map (spent_row x) d.mutexes ≡ d.mutexes) where
  abbrev mine : ℕ
  mine = node_in d.threads x

  abbrev part : ℕ → Phase
  part i = if is_entering ahead.node (spent_for mine i d.slack.wishes) then Phase.In else Phase.Body

  entered : (i : ℕ) → is_entering ahead.node (spent_for mine i d.slack.wishes) ≡ false
  entered i = subst (λ k. is_entering ahead.node (spent_for k i d.slack.wishes) ≡ false) node (entered-lowered ahead.node i d.slack.wishes is.entered)

  still-chosen : (i : ℕ) → i < ahead.ticks → i < fit → choice_of (lent x i d) ≡ Choice.Slack x ahead.source Phase.Body
  still-chosen i less before =
      let D = lent x i d in
      let first : first_node ahead.level D.slack.wishes ≡ Some ahead.node = first-lowered mine i ahead.level d.slack.wishes ∙ is.first in
      let inside : ahead.level < length d.kernel = omega (arith, low, within) in
      wish-chosen D ahead.level ahead.node inside (λ j less. work j (omega (arith, less, low)))
      (λ k less. first-lowered mine i k d.slack.wishes ∙ is.before k less) first (ap is_none (fits i before))
      ∙ ap (λ y. Choice.Slack y (source_of (counted_for i None d.slack.unclaimed) d.slack.spares) (part i)) own
      ∙ ap (λ z. Choice.Slack x z (part i)) (is.lasts i less)
      ∙ ap (λ b. Choice.Slack x ahead.source (if b then Phase.In else Phase.Body)) (entered i)

  pub may-lend : (n : ℕ) → n ≤ ahead.ticks → n ≤ fit → HasRoomFor n d → EndsAfter n d → MayLendBy x ahead.source n d
  may-lend n less before room ends = record {
    room = room;
    lends = record {
      wish = subst (λ k. n < want k d.slack.wishes) node (let more = is.more in omega (arith, less, more));
      free = free;
      holds = holds;
      chosen = λ i below. still-chosen i (omega (arith, below, less)) (omega (arith, below, before));
    };
    within = ends;
  }

-- what ticks of slack leave
abbrev PassesLent : Type 0
PassesLent = (n : ℕ) (x : ThreadId) (source : Source) (d : Tables) → IsSound d → HasFamilies d → Lends x source n d → EndsAfter n d
    → Passes (Choice.Slack x source Phase.Body) n d (lent x n d)

abbrev WishesAreThePasts : Type 0
WishesAreThePasts = (c : Configuration) (past : List Entry) (d : Tables) (id : ThreadId) (x : Thread) → IsReady c past d → HasFamilies d → Has (threads c past) x → x.id ≡ id
    → has_row c (length past) x ≡ true → want (node_in d.threads id) d.slack.wishes ≡ past_want c (length past) past x

module _ (passes : PassesLent) (ends : EndsAreTheConfigurations) (wishes : WishesAreThePasts) (p : Past) (d : Tables) (stands : IsReady p.config p.entries d) (sound : IsSound d)
    (families : HasFamilies d) (x : ThreadId) (source : Source) where
  abbrev c : Configuration
  c = p.config

  abbrev past : List Entry
  past = p.entries

  abbrev choice : Choice
  choice = Choice.Slack x source Phase.Body

  -- from the tables to the past
  pub lends-by-past : RowsAreThePasts → (n s : ℕ) → slots d x ≡ Some s → MayLendBy x source n d → length past + n ≤ MAX_TICKS → MayLend x source n p
  lends-by-past rows n s at may room =
      let h = seated rows c past d x stands s at in
      let went = gone choice c past d stands n (lent x n d) (passes n x source d sound families may.lends may.within) room in
      record {
        goes = record { chosen = went.chosen; free = went.free };
        has = h;
        wish = subst (λ k. n < k) (wishes c past d x h.row stands families h.among h.id h.there) may.lends.wish;
        within = sooner-by (length past) d.demand.windows.tick (window_end c 0 (length past)) (end_at d.demand.windows 0) n
            (sym stands.recount.tick) (sym (window-ends ends c past d stands)) may.within;
      }

  -- and back
  module _ (law : (c : Configuration) (past : List Entry) (d : Tables) → IsReady c past d → HasFamilies d → choice_of d ≡ chosen c past)
      (charge : WhereReady (λ c label past d. MayCharge (chosen c past) d)) (left : LeftIsThePasts) (mutex : MutexIsThePasts)
      (n : ℕ) (may : MayLend x source n p) (some : 0 < n) (room : length past + n ≤ MAX_TICKS) where
    owed : MaySlack x d
    owed = subst (λ z. MayCharge z d) (sym (may.goes.chosen 0 some)) (charge c (label_of (chosen c past) Work.Run) past d stands families sound (inl refl))

    nothing : HoldsNothing x d
    nothing = holds-nothing left mutex c past d x stands (may.goes.free 0 x some refl) owed.holds

    within : EndsAfter n d
    within =
        sooner-by d.demand.windows.tick (length past) (end_at d.demand.windows 0) (window_end c 0 (length past)) n stands.recount.tick
        (window-ends ends c past d stands) may.within

    wish : n < want (node_in d.threads x) d.slack.wishes
    wish = subst (λ k. n < k) (sym (wishes c past d x may.has.row stands families may.has.among may.has.id may.has.there)) may.wish

    lends-to : (m : ℕ) → m ≤ n → ((i : ℕ) → i < m → choice_of (lent x i d) ≡ choice) → Lends x source m d
    lends-to m less chose = record { wish = omega (arith, less, wish); free = nothing.free; holds = nothing.holds; chosen = chose }

    pub lends-by-tables : MayLendBy x source n d
    lends-by-tables = record {
      room = record { config = c; past = past; stands = stands; room = room };
      lends = lends-to n (omega arith)
          (chosen-to choice c past d stands (λ m. lent x m d) (λ m. families) law n room may.goes.chosen
          (λ m less chose. passes m x source d sound families (lends-to m less chose) (ends-sooner m n d less within)) n (omega arith));
      within = within;
    }

-- who is told by the tables is told by the past
pub borrows-by-past : (passes : PassesLent) (ends : EndsAreTheConfigurations) (wishes : WishesAreThePasts) (rows : RowsAreThePasts)
    (p : Past) (d : Tables) → IsReady p.config p.entries d → IsSound d → HasFamilies d → (most : ℕ) → length p.entries + most ≤ MAX_TICKS
    → (o : Option Borrower) → IfSome o (λ b. BorrowsBy b d) → IfSome o (λ b. b.ticks ≤ most) → IfSome o (λ b. Borrows b (dispatched p d))
borrows-by-past passes ends wishes rows p d stands sound families most room None borrows few = tt
borrows-by-past passes ends wishes rows p d stands sound families most room (Some b) borrows few = record {
  may = λ n less. lends-by-past passes ends wishes p d stands sound families b.thread b.source rows n b.slot borrows.seat.at (borrows.may n less) (omega (arith, room, few, less));
  seat = borrows.seat;
}

-- What so many ticks of slack owe the tables, and what they leave.
pub record LendOwes (x : ThreadId) (source : Source) (n : ℕ) (d : Tables) : Type 0 where
  pub wish : n < want (node_in d.threads x) d.slack.wishes
  pub counts : MayCountFor n None d.slack
  pub room : d.demand.windows.tick + n ≤ MAX_TICKS
  pub known : 0 < length d.demand.windows.periods
  pub within : EndsAfter n d
  pub passes : Passes (Choice.Slack x source Phase.Body) n d (lent x n d)

abbrev CountsLent : Type 0
CountsLent = (n : ℕ) (x : ThreadId) (source : Source) (c : Configuration) (past : List Entry) (d : Tables) → IsReady c past d → IsSound d → HasFamilies d → Lends x source n d
    → EndsAfter n d → length past + n ≤ MAX_TICKS → 0 < n → MayCountFor n None d.slack

pub lend-owes : (passes : PassesLent) → CountsLent → (ends : EndsAreTheConfigurations) (wishes : WishesAreThePasts)
    → ((c : Configuration) (past : List Entry) (d : Tables) → IsReady c past d → HasFamilies d → choice_of d ≡ chosen c past)
    → WhereReady (λ c label past d. MayCharge (chosen c past) d) → LeftIsThePasts → MutexIsThePasts
    → (p : Past) (d : Tables) (v : Dispatched) → dispatched p d ≡ v → v.past.tick ≡ Ready → Stands p d → IsSound d → HasFamilies d
    → (x : ThreadId) (source : Source) (n : ℕ) → MayLend x source n v.past → 0 < n → length v.past.entries + n ≤ MAX_TICKS → LendOwes x source n d
lend-owes passes counts ends wishes law charge left mutex p d v is at stands sound families x source n may some room =
    let stands' = is-ready p d v is at stands in
    let may' : MayLend x source n p = subst (λ (w : Dispatched). MayLend x source n w.past) (sym is) may in
    let room' : length p.entries + n ≤ MAX_TICKS = subst (λ (w : Dispatched). length w.past.entries + n ≤ MAX_TICKS) (sym is) room in
    let by = lends-by-tables passes ends wishes p d stands' sound families x source law charge left mutex n may' some room' in
    let tick = stands'.recount.tick in
    record {
      wish = by.lends.wish;
      counts = counts n x source p.config p.entries d stands' sound families by.lends by.within room' some;
      room = omega (arith, tick, room');
      known = some-levels n d by.room;
      within = by.within;
      passes = passes n x source d sound families by.lends by.within;
    }
