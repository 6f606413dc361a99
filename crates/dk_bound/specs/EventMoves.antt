-- What the event at the end of a tick does: from the past with the tick's entry without it to the past with it.
use Rattle.std.specs.Prelude.{ℕ, ◌≡◌, ◌+◌, ◌-◌, ◌<◌, ◌≤◌, Bool, true, false, ◌&&◌, ◌||◌, ◌==◌, nat_le, if◌then◌else◌, List, [], ◌∷◌, length, sum_by, is_none}
use Rattle.dk_config.specs.Configuration.{Configuration}
use Rattle.dk_config.specs.Sums.{sum_from}
use Rattle.dk_trace.specs.declared.ThreadId.{ThreadId}
use Rattle.dk_trace.specs.declared.Entry.{Entry}
use Rattle.dk_trace.specs.Members.{Has}
use Rattle.dk_trace.specs.Entries.{is_of, does, is_wait, is_end, stops, quiet}
use Rattle.dk_trace.specs.Threads.{Thread, threads, after_entry, new_rows}
use Rattle.dk_trace.specs.Jobs.{Job, job, thread_rem, kernel_rem}
use Rattle.dk_trace.specs.Holds.{held_by, held_after, thread_blocking, blocking}
use Rattle.dk_trace.specs.Demand.{own_demand, remaining_demand}
use Rattle.dk_bound.specs.Moves.{released, BlockingFollows, shares_to_come}

-- whether the event closes the thread's window: a wait of its own, or a stop now
abbrev pub closes : Entry → Thread → Bool
closes e x = does is_wait x.id e || (is_none x.stop && stops x.id e)

abbrev pub closed_if : Bool → Job → Job
closed_if now job = record { share = job.share; used = job.used; out_ticks = job.out_ticks; closed = now || job.closed }

-- closes the jobs of the threads whose windows it closes, and changes nothing of the others
abbrev pub EventCloses : Configuration → Entry → List Entry → Type 0
EventCloses c e past =
    (x : Thread) → Has (threads c past) x
    → job c (length past) (e ∷ past) (after_entry e (length past) x)
    ≡ closed_if (closes e x) (job c (length past) (quiet e.label ∷ past) x)

-- leaves nobody more than before
abbrev pub EventLowersRem : Configuration → Entry → List Entry → Type 0
EventLowersRem c e past =
    (x : Thread) → Has (threads c past) x
    → thread_rem c (length past) (e ∷ past) (after_entry e (length past) x)
    ≤ thread_rem c (length past) (quiet e.label ∷ past) x

-- and a child that it makes nothing yet
abbrev pub NewHaveNothing : Configuration → Entry → List Entry → Type 0
NewHaveNothing c e past =
    (p : ℕ) (x : Thread) → p < length c.processes → Has (new_rows c p e past) x
    → job c (length past) (e ∷ past) x ≡ released 0

abbrev pub EventKeepsKernel : Configuration → Entry → List Entry → Type 0
EventKeepsKernel c e past = (i : ℕ)
    → kernel_rem c (length past) (e ∷ past) i ≡ kernel_rem c (length past) (quiet e.label ∷ past) i

-- what the thread gives up by the event
abbrev pub given_up : Configuration → Entry → List Entry → Thread → ℕ
given_up c e past x =
    thread_rem c (length past) (quiet e.label ∷ past) x
    - thread_rem c (length past) (e ∷ past) (after_entry e (length past) x)

-- what the threads of the levels that pass the test give up
abbrev pub given_up_by : (ℕ → Bool) → Configuration → Entry → List Entry → ℕ
given_up_by test c e past = sum_by (λ x. if test x.level then given_up c e past x else 0) (threads c past)

-- Its level has less to do by what is given up there.
abbrev pub EventLowersOwn : Configuration → Entry → List Entry → Type 0
EventLowersOwn c e past =
    (j : ℕ) → own_demand c (length past) (e ∷ past) j + given_up_by (λ i. i == j) c e past
    ≡ own_demand c (length past) (quiet e.label ∷ past) j

-- those of the process whose main the event stops
abbrev pub lost_shares : Configuration → Entry → List Entry → ℕ → ℕ
lost_shares c e past j =
    sum_from 0 (length c.processes)
    (λ p. if does is_end (record { process = p; serial = 0 }) e
    then shares_to_come c (length past) (quiet e.label ∷ past) j p else 0)

-- The levels up to j need less by what is given up there and by the shares that a process loses with its main; a create
-- and the stop of a child change nothing of the shares to come.
abbrev pub EventLowersRemaining : Configuration → Entry → List Entry → Type 0
EventLowersRemaining c e past =
    (j : ℕ) → j < length c.levels
    → remaining_demand c (length past) (e ∷ past) j + given_up_by (λ i. nat_le i j) c e past + lost_shares c e past j
    ≡ remaining_demand c (length past) (quiet e.label ∷ past) j

-- What is given up where the event closes nobody's window, or one thread's.
pub record GivenUp (c : Configuration) (e : Entry) (past : List Entry) : Type 0 where
  pub unclosed : (x : Thread) → Has (threads c past) x → closes e x ≡ false → given_up c e past x ≡ 0
  pub nobody : (test : ℕ → Bool) → ((x : Thread) → Has (threads c past) x → closes e x ≡ false)
      → given_up_by test c e past ≡ 0
  pub one : (test : ℕ → Bool) (x : Thread) → Has (threads c past) x
      → ((y : Thread) → Has (threads c past) y → closes e y ≡ true → y.id ≡ x.id)
      → given_up_by test c e past ≡ (if test x.level then given_up c e past x else 0)

-- The holds after the event are those of the tick, changed by it, and nothing of a thread that it stops.
abbrev pub EventMovesHolds : Configuration → Entry → List Entry → Type 0
EventMovesHolds c e past =
    (x : ThreadId) → held_by x (e ∷ past)
    ≡ (if stops x e then [] else if is_of x e then held_after e.event (held_by x (quiet e.label ∷ past))
    else held_by x (quiet e.label ∷ past))

-- Blocking is that of the threads that were there before, and where only one thread's holds change, it changes by that one's part.
pub record EventMovesBlocking (c : Configuration) (e : Entry) (past : List Entry) : Type 0 where
  pub sums : (j : ℕ) → blocking c (e ∷ past) j ≡ sum_by (thread_blocking c (e ∷ past) j) (threads c past)
  pub keeps : ((x : Thread) → Has (threads c past) x → held_by x.id (e ∷ past) ≡ held_by x.id (quiet e.label ∷ past))
      → (j : ℕ) → blocking c (e ∷ past) j ≡ blocking c (quiet e.label ∷ past) j
  pub follows : (x : Thread) → Has (threads c past) x
      → ((y : Thread) → Has (threads c past) y → (y.id ≡ x.id → ⊥)
      → held_by y.id (e ∷ past) ≡ held_by y.id (quiet e.label ∷ past))
      → BlockingFollows c (quiet e.label ∷ past) (e ∷ past) x
