-- A thread that computes in the next ticks, by the past and by the tables.
use Rattle.dk_dispatch.proofs.Names.{ℕ, zero, suc, ◌≡◌, ◌∙◌, ◌+◌, ◌<◌, ◌≤◌, inl, inr, Bool, true, false, List, [], ◌∷◌, length, map, Option, Some, None, option_map, refl, ap, sym, subst, arith, IfSome, is_some, list_any, position_from, option_map_or, and_parts, cases_Bool, or_parts, MAX_TICKS, Configuration, window_end, ThreadId, Phase, Choice, Work, Entry, is_same, Has, Thread, threads, HasBody, Hold, held_by, past_left, innermost_left, chosen, label_of, same-id, body-less, any-has, Clock, clock_at, end_at, ThreadRow, find_row, has_row, is_there, Holder, Lockable, ceiling_of, holder_left, is_by, is_holder, is_within, joined, least, lowered, spent_row, hold_left, holds_within, innermost, left_at, hold_at, last_locked, Seat, seat_at, seat_of, HasFamilies, IsSound, Tables, node_in, IsReady, IsRecount, MayBudget, MayCharge, level_in, choice_of, WhereReady, TellsOf, ready, slots, Computes, EndsAfter, MayRunBy, Passes, computed, Past, Runner, RunsBy, dispatched, HasRow, MayRun, Runs}
use Rattle.dk_dispatch.proofs.Runs.{ends-sooner, node-inside}
use Rattle.dk_dispatch.proofs.Stretching.{chosen-to, gone}

-- Who holds no mutex.

no-position : {A : Type 0} (test : A → Bool) (i : ℕ) (xs : List A) → list_any test xs ≡ false → position_from test i xs ≡ None
no-position test i [] none = refl
no-position test i (x ∷ xs) none = let parts = or_parts (test x) (list_any test xs) none in rw parts.0 (no-position test (i + 1) xs parts.1)

nothing-locked : (held : List Hold) → last_locked held ≡ None → held ≡ []
nothing-locked [] none = refl
nothing-locked (h ∷ held) none = absurd (cc)

no-holder : (x : ThreadId) (o : Option Holder) → holder_left x o ≡ None → (is_holder x o ≡ false) × (lowered x o ≡ o)
no-holder x None none = (refl, refl)
no-holder x (Some h) none =
    elim (cases_Bool (is_same x h.thread)) [
      | inl own ↦ let some : Some h.left ≡ None = rw own at none in absurd (cc)
      | inr other ↦ (other, rw other refl)
    ]

-- a tick takes nothing from it, and it runs at its own level
unheld-rows : (x : ThreadId) (rows : List Lockable) → ((m : ℕ) → left_at x rows m ≡ None) → (map (spent_row x) rows ≡ rows) × (least (map (ceiling_of x) rows) ≡ None)
unheld-rows x [] none = (refl, refl)
unheld-rows x (row ∷ rows) none =
    let rest = unheld-rows x rows (λ m. none (suc m)) in
    let own = no-holder x row.holder (none zero) in
    let off : is_by x row ≡ false = own.0 in
    let one : spent_row x row ≡ row = ap (λ o. record row { holder = o }) own.1 in
    let free : ceiling_of x row ≡ None = rw off refl in (
      ap (λ r. r ∷ map (spent_row x) rows) one ∙ ap (λ rs. row ∷ rs) rest.0,
      ap (λ o. joined o (least (map (ceiling_of x) rows))) free ∙ rest.1,
    )

-- whoever has nothing left of a hold that doesn't end holds nothing
abbrev pub LeftIsThePasts : Type 0
LeftIsThePasts = (c : Configuration) (past : List Entry) (d : Tables) (x : ThreadId) → TellsOf d c past → hold_left x d.mutexes ≡ innermost_left c (held_by x past)

abbrev pub MutexIsThePasts : Type 0
MutexIsThePasts = (c : Configuration) (past : List Entry) (d : Tables) (x : ThreadId) → TellsOf d c past → innermost x d.mutexes ≡ last_locked (held_by x past)

pub record HoldsNothing (x : ThreadId) (d : Tables) : Type 0 where
  pub free : hold_left x d.mutexes ≡ 0
  pub holds : map (spent_row x) d.mutexes ≡ d.mutexes
  pub ceiling : least (map (ceiling_of x) d.mutexes) ≡ None

pub holds-nothing : LeftIsThePasts → MutexIsThePasts → (c : Configuration) (past : List Entry) (d : Tables) (x : ThreadId) → IsReady c past d
    → innermost_left c (held_by x past) ≡ 0 → holds_within x 0 d.mutexes ≡ false → HoldsNothing x d
holds-nothing left mutex c past d x stands none-left ends =
    let free : hold_left x d.mutexes ≡ 0 = left c past d x (ready stands) ∙ none-left in
    let none : innermost x d.mutexes ≡ None = ap (λ k. position_from (is_within x k) 0 d.mutexes) free ∙ no-position (is_within x 0) 0 d.mutexes ends in
    let none-held : held_by x past ≡ [] = nothing-locked (held_by x past) (sym (mutex c past d x (ready stands)) ∙ none) in
    let unheld = unheld-rows x d.mutexes (λ m. stands.recount.holders.holds x m ∙ ap (λ hs. option_map (past_left c) (hold_at m hs)) none-held) in
    record { free = free; holds = unheld.0; ceiling = unheld.1 }

-- whoever has a slot has a row
abbrev pub RowsAreThePasts : Type 0
RowsAreThePasts = (c : Configuration) (now : ℕ) (past : List Entry) (d : Tables) (id : ThreadId) → IsRecount c now past d
    → is_some (find_row d.threads id) ≡ list_any (is_there c now id) (threads c past)

pub seated : RowsAreThePasts → (c : Configuration) (past : List Entry) (d : Tables) (x : ThreadId) → IsReady c past d → (s : ℕ) → slots d x ≡ Some s → HasRow c past x
seated rows c past d x stands s at =
    let h = any-has (is_there c (length past) x) (threads c past) (sym (rows c (length past) past d x stands.recount) ∙ found (find_row d.threads x) at) in
    let parts = and_parts (is_same x h.0.id) (has_row c (length past) h.0) h.2 in
    record { row = h.0; among = h.1; id = sym (same-id x h.0.id parts.0); there = parts.1 }
  where
    found : (o : Option ThreadRow) → option_map (λ (row : ThreadRow). row.slot) o ≡ Some s → is_some o ≡ true
    found None none = absurd (cc)
    found (Some row) some = refl

pub sooner-by : (t t' e e' n : ℕ) → t ≡ t' → e ≡ e' → t' + n < e' → t + n < e
sooner-by t t' e e' n tick end within = omega (arith, tick, end, within)

-- what computing for some ticks leaves
abbrev PassesComputed : Type 0
PassesComputed = (n : ℕ) (x : ThreadId) (d : Tables) → IsSound d → HasFamilies d → Computes x n d → EndsAfter n d → Passes (Choice.Budget x Phase.Body) n d (computed x n d)

abbrev pub EndsAreTheConfigurations : Type 0
EndsAreTheConfigurations = (c : Configuration) (tick level : ℕ) → end_at (clock_at c tick) level ≡ window_end c level tick

-- the fastest level's window ends by the tables as by the past
pub window-ends : (ends : EndsAreTheConfigurations) (c : Configuration) (past : List Entry) (d : Tables) → IsReady c past d → end_at d.demand.windows 0 ≡ window_end c 0 (length past)
window-ends ends c past d stands =
    ap (λ (w : Clock). end_at w 0) stands.recount.cells.windows ∙ ap (λ t. end_at (clock_at c t) 0) stands.recount.tick ∙ ends c (length past) 0

module _ (passes : PassesComputed) (ends : EndsAreTheConfigurations) (p : Past) (d : Tables) (stands : IsReady p.config p.entries d) (sound : IsSound d) (families : HasFamilies d) (x : ThreadId) where
  abbrev c : Configuration
  c = p.config

  abbrev past : List Entry
  past = p.entries

  abbrev run : Choice
  run = Choice.Budget x Phase.Body

  abbrev seat : Seat
  seat = seat_at d.jobs (node_in d.threads x)

  seat-is : (row : Thread) → Has (threads c past) row → row.id ≡ x → has_row c (length past) row ≡ true → seat ≡ seat_of c (length past) past row
  seat-is row among id there = ap (λ i. seat_at d.jobs (node_in d.threads i)) (sym id) ∙ stands.recount.jobs.seats row among there

  -- from the tables to the past
  module _ (rows : RowsAreThePasts) where
    pub may-by-past : (n s : ℕ) → slots d x ≡ Some s → MayRunBy x n d → length past + n ≤ MAX_TICKS → MayRun x n p
    may-by-past n s at may room =
        let h = seated rows c past d x stands s at in
        let went = gone run c past d stands n (computed x n d) (passes n x d sound families may.computes may.within) room in
        record {
          goes = record { chosen = went.chosen; free = went.free };
          has = h;
          body = subst (λ (s : Seat). HasBody c.costs.switch n s.job) (seat-is h.row h.among h.id h.there)
              (subst (λ w. HasBody w n seat.job) stands.recount.jobs.switch may.computes.body);
          within = sooner-by (length past) d.demand.windows.tick (window_end c 0 (length past)) (end_at d.demand.windows 0) n
              (sym stands.recount.tick) (sym (window-ends ends c past d stands)) may.within;
        }

  -- and back
  module _ (choice : (c : Configuration) (past : List Entry) (d : Tables) → IsReady c past d → HasFamilies d → choice_of d ≡ chosen c past)
      (charge : WhereReady (λ c label past d. MayCharge (chosen c past) d))
      (left : LeftIsThePasts) (mutex : MutexIsThePasts)
      (n : ℕ) (may : MayRun x n p) (some : 0 < n) (room : length past + n ≤ MAX_TICKS) where
    owed : MayBudget x d
    owed = subst (λ z. MayCharge z d) (sym (may.goes.chosen 0 some)) (charge c (label_of (chosen c past) Work.Run) past d stands families sound (inl refl))

    nothing : HoldsNothing x d
    nothing = holds-nothing left mutex c past d x stands (may.goes.free 0 x some refl) owed.holds

    body : HasBody d.jobs.switch n seat.job
    body =
        subst (λ w. HasBody w n seat.job) (sym stands.recount.jobs.switch)
        (subst (λ (s : Seat). HasBody c.costs.switch n s.job) (sym (seat-is may.has.row may.has.among may.has.id may.has.there)) may.body)

    within : EndsAfter n d
    within =
        sooner-by d.demand.windows.tick (length past) (end_at d.demand.windows 0) (window_end c 0 (length past)) n stands.recount.tick
        (window-ends ends c past d stands) may.within

    computes-to : (m : ℕ) → m ≤ n → ((i : ℕ) → i < m → choice_of (computed x i d) ≡ run) → Computes x m d
    computes-to m less chose = record {
      node = node-inside d.jobs.switch n d.jobs.seats (node_in d.threads x) body;
      body = body-less d.jobs.switch n m seat.job less body;
      free = nothing.free;
      holds = nothing.holds;
      runs = ap (λ o. option_map_or (λ k. k) o (level_in d x)) nothing.ceiling;
      chosen = chose;
    }

    all-chosen : (i : ℕ) → i < n → choice_of (computed x i d) ≡ run
    all-chosen =
        chosen-to run c past d stands (λ m. computed x m d) (λ m. families) choice n room may.goes.chosen
        (λ m less chose. passes m x d sound families (computes-to m less chose) (ends-sooner m n d less within)) n (omega arith)

    pub may-by-tables : MayRunBy x n d
    may-by-tables = record {
      room = record { config = c; past = past; stands = stands; room = room };
      computes = computes-to n (omega arith) all-chosen;
      within = within;
    }

-- who is told by the tables is told by the past
pub runs-by-past : (passes : PassesComputed) (ends : EndsAreTheConfigurations)
    (rows : RowsAreThePasts)
    (p : Past) (d : Tables) → IsReady p.config p.entries d → IsSound d → HasFamilies d → (most : ℕ) → length p.entries + most ≤ MAX_TICKS
    → (o : Option Runner) → IfSome o (λ runner. RunsBy runner d) → IfSome o (λ runner. runner.ticks ≤ most) → IfSome o (λ runner. Runs runner (dispatched p d))
runs-by-past passes ends rows p d stands sound families most room None runs few = tt
runs-by-past passes ends rows p d stands sound families most room (Some runner) runs few = record {
  may = λ n less. may-by-past passes ends p d stands sound families runner.thread rows n runner.slot runs.seat.at (runs.may n less) (omega (arith, room, few, less));
  seat = runs.seat;
}
