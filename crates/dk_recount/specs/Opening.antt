-- What the opening of a tick changes in the tables, and what it needs of them.
use Rattle.std.specs.Prelude.{ℕ, ◌≡◌, ◌+◌, ◌*◌, ◌/◌, ◌<◌, Bool, true, ◌&&◌, ◌==◌, nat_lt, nat_le, if◌then◌else◌, List, [], ◌∷◌, length, flat_map, sum_by, IsNone, slice_index, slice_set, get_or}
use Rattle.std.specs.List.{cons_option}
use Rattle.dk_config.specs.Sums.{numbers, below, sum_from, sum_up_to}
use Rattle.dk_trace.specs.Jobs.{Job}
use Rattle.dk_windows.specs.Clock.{Clock, period_at, begins_at}
use Rattle.dk_threads.specs.declared.row.ThreadRow.{ThreadRow}
use Rattle.dk_threads.specs.Table.{Table, find_row, children_at, changed_all, family_ended, family_started}
use Rattle.dk_threads.specs.Recount.{main_id}
use Rattle.dk_budget.specs.Book.{Book}
use Rattle.dk_budget.specs.Calls.{all_given_back}
use Rattle.dk_budget.specs.Sound.{ArePeriods}
use Rattle.dk_budget.specs.Shares.{present_main_share, present_child_share, future_shares}
use Rattle.dk_demand.specs.Cells.{Cells, released_cells}
use Rattle.dk_slack.specs.Wishes.{Wish, want, dropped}
use Rattle.dk_rail.specs.Queues.{holder}
use Rattle.dk_ready.specs.declared.seat.Seat.{Seat}
use Rattle.dk_ready.specs.Roster.{Roster, new_job, released}
use Rattle.dk_recount.specs.Tables.{Tables}
use Rattle.dk_recount.specs.Stopping.{node_on}

-- The rows of the threads.

-- those of a process: its main's, and its children's by rising serial
abbrev pub rows_in : Table → ℕ → List ThreadRow
rows_in table p = cons_option (find_row table (main_id p)) (children_at table p)

-- those of so many processes from one on
abbrev pub rows_from : Table → ℕ → ℕ → List ThreadRow
rows_from table p n = flat_map (rows_in table) (numbers p n)

abbrev pub all_rows : Table → List ThreadRow
all_rows table = rows_from table 0 (length table.families)

-- the share of the row's thread of the present window of its level
abbrev pub share_in : Book → Clock → ThreadRow → ℕ
share_in b w row =
    if row.id.serial == 0 then present_main_share b w row.id.process
    else present_child_share b w row.id.process row.id.serial

abbrev pub seat_in : Book → Clock → ThreadRow → Seat
seat_in b w row = record { thread = row.id; level = row.level; job = new_job (share_in b w row) }

-- Where a window of its level begins, the thread has its share of it, and asks for no slack yet.
abbrev pub given_one : Book → Clock → ThreadRow → Roster → Roster
given_one b w row r = if begins_at w row.level then released (node_on row) (seat_in b w row) r else r

abbrev pub given : Book → Clock → List ThreadRow → Roster → Roster
given b w [] r = r
given b w (row ∷ rows) r = given b w rows (given_one b w row r)

abbrev pub quieted_one : Clock → ThreadRow → List (List Wish) → List (List Wish)
quieted_one w row wishes = if begins_at w row.level then dropped (node_on row) wishes else wishes

abbrev pub quieted : Clock → List ThreadRow → List (List Wish) → List (List Wish)
quieted w [] wishes = wishes
quieted w (row ∷ rows) wishes = quieted w rows (quieted_one w row wishes)

-- one step for a share that is not 0, and one for a wish that goes
abbrev pub steps_of : Book → Clock → ThreadRow → List (List Wish) → ℕ
steps_of b w row wishes =
    if begins_at w row.level
    then (if share_in b w row == 0 then 0 else 1) + (if nat_lt 0 (want (node_on row) wishes) then 1 else 0)
    else 0

abbrev pub given_steps : Book → Clock → List ThreadRow → List (List Wish) → ℕ
given_steps b w [] wishes = 0
given_steps b w (row ∷ rows) wishes = steps_of b w row wishes + given_steps b w rows (quieted_one w row wishes)

-- the row's level and process are there
pub record IsKnownRow (b : Book) (w : Clock) (row : ThreadRow) : Type 0 where
  pub level : row.level < length w.periods
  pub lender : row.id.process < length b.lenders

abbrev pub AreKnown : Book → Clock → List ThreadRow → Type 0
AreKnown b w [] = Unit {0}
AreKnown b w (row ∷ rows) = IsKnownRow b w row × AreKnown b w rows

-- nobody's queue has the node of the row
pub record CanSit (w : Clock) (row : ThreadRow) (r : Roster) : Type 0 where
  pub node : node_on row < length r.seats
  pub queue : row.level < length r.ready.lists
  pub free : begins_at w row.level ≡ true → IsNone (holder r.ready.lists (node_on row))

abbrev pub CanAllSit : Book → Clock → List ThreadRow → Roster → Type 0
CanAllSit b w [] r = Unit {0}
CanAllSit b w (row ∷ rows) r = CanSit w row r × CanAllSit b w rows (given_one b w row r)

-- What the levels have to do whose windows begin.

-- whether the level is one of those from the first to the last
abbrev pub is_between : ℕ → ℕ → ℕ → Bool
is_between first last i = nat_le first i && nat_le i last

-- the shares of the rows of the levels that pass the test, of the present windows of their levels
abbrev pub shares_in : Book → Clock → (ℕ → Bool) → List ThreadRow → ℕ
shares_in b w test rows = sum_by (λ row. if test row.level then share_in b w row else 0) rows

abbrev pub own_in : List ℕ → Table → Book → Clock → ℕ → ℕ
own_in releases table b w k = get_or releases k 0 + shares_in b w (is_between k k) (all_rows table)

-- the kernel's own work of the levels up to k in a window of level k
abbrev pub kernel_work : List ℕ → Clock → ℕ → ℕ
kernel_work releases w k = sum_up_to k (λ i. get_or releases i 0 * (period_at w k / period_at w i))

-- all shares of the windows to come before the window of level k ends, of levels up to it
abbrev pub shares_to_come : Book → Clock → ℕ → ℕ
shares_to_come b w k = sum_from 0 (length b.lenders) (λ p. future_shares b w p k)

abbrev pub remaining_in : List ℕ → Table → Book → Clock → ℕ → ℕ
remaining_in releases table b w k =
    kernel_work releases w k + shares_in b w (is_between 0 k) (all_rows table) + shares_to_come b w k

-- the three cells of a level; slower holders keep it waiting as before
abbrev pub cells_set : ℕ → ℕ → ℕ → Cells → Cells
cells_set k own remaining d = released_cells k own remaining (slice_index d.blocking k) d

abbrev pub cells_begun : List ℕ → Table → Book → List ℕ → Cells → Cells
cells_begun releases table b [] d = d
cells_begun releases table b (k ∷ ks) d =
    cells_begun releases table b ks
    (if begins_at d.windows k
    then cells_set k (own_in releases table b d.windows k) (remaining_in releases table b d.windows k) d
    else d)

abbrev pub parts_begun : List ℕ → Clock → List ℕ → List Job → List Job
parts_begun releases w [] parts = parts
parts_begun releases w (k ∷ ks) parts =
    parts_begun releases w ks (if begins_at w k then slice_set parts k (new_job (get_or releases k 0)) else parts)

abbrev pub counts_begun : Clock → List ℕ → List ℕ → List ℕ
counts_begun w [] unclaimed = unclaimed
counts_begun w (k ∷ ks) unclaimed = counts_begun w ks (if begins_at w k then slice_set unclaimed k 0 else unclaimed)

-- three steps for each level whose window begins
abbrev pub cell_steps : Clock → List ℕ → ℕ
cell_steps w ks = sum_by (λ k. if begins_at w k then 3 else 0) ks

-- The opening: who is due ends and starts, and then the windows begin.

abbrev pub due_threads : ℕ → Table → Table
due_threads now table = changed_all (family_started now) (changed_all (family_ended now) table)

-- the ends and starts of the present tick
abbrev pub due : Tables → Tables
due d = record d {
  threads = due_threads d.demand.windows.tick d.threads;
  loans = all_given_back d.demand.windows.tick d.loans;
}

-- the windows that begin at the present tick
abbrev pub begun : Tables → Tables
begun d =
    let levels = below (length d.kernel) in
    record d {
      demand = cells_begun d.releases d.threads d.loans levels d.demand;
      slack = record d.slack {
        wishes = quieted d.demand.windows (all_rows d.threads) d.slack.wishes;
        unclaimed = counts_begun d.demand.windows levels d.slack.unclaimed;
      };
      jobs = given d.loans d.demand.windows (all_rows d.threads) d.jobs;
      kernel = parts_begun d.releases d.demand.windows levels d.kernel;
    }

-- where a window begins, one of level 0 does
abbrev pub begun_if : Tables → Tables
begun_if d = if begins_at d.demand.windows 0 then begun d else d

abbrev pub opened : Tables → Tables
opened d = begun_if (due d)

abbrev pub begin_steps : Tables → ℕ
begin_steps d =
    given_steps d.loans d.demand.windows (all_rows d.threads) d.slack.wishes
    + cell_steps d.demand.windows (below (length d.kernel))

abbrev pub open_steps : Tables → ℕ
open_steps d = if begins_at d.demand.windows 0 then begin_steps (due d) else 0

-- what the tables owe the beginning of windows
pub record MayBegin (d : Tables) : Type 0 where
  pub periods : ArePeriods d.demand.windows.periods
  pub known : AreKnown d.loans d.demand.windows (all_rows d.threads)
  pub seats : CanAllSit d.loans d.demand.windows (all_rows d.threads) d.jobs
