-- What the laws of the jobs say, of every configuration and every past.
use Rattle.std.specs.Prelude.{ℕ, ◌≡◌, ◌*◌, ◌<◌, Bool, true, List, [], ◌∷◌, length, filter, slice_get, slice_set, get_or, Some, None, option_map, IsSome}
use Rattle.dk_config.specs.declared.TheConstants.{MAX_THREADS}
use Rattle.dk_config.specs.Configuration.{Configuration}
use Rattle.dk_config.specs.Checked.{IsChecked}
use Rattle.dk_trace.specs.declared.ThreadId.{ThreadId}
use Rattle.dk_trace.specs.declared.Label.{Label}
use Rattle.dk_trace.specs.declared.Entry.{Entry}
use Rattle.dk_trace.specs.Entries.{kernel_level, quiet}
use Rattle.dk_trace.specs.Members.{Has}
use Rattle.dk_trace.specs.Threads.{Thread, threads}
use Rattle.dk_trace.specs.Jobs.{Job, job, kernel_rem, thread_rem}
use Rattle.dk_trace.specs.JobSteps.{spent}
use Rattle.dk_rail.specs.Queues.{holder, queue_at}
use Rattle.dk_ready.specs.Roster.{Roster, closed, closed_on, left_on, new_job, seat_at, spent_on, told_phase}
use Rattle.dk_ready.specs.Recount.{AreParts, AreSeated, IsRecount, KeepsJobs, MovesJob, is_ready}
use Rattle.dk_ready.specs.Start.{first_parts, seated}

-- At the start each main sits on the first node of its process.
abbrev pub MainsAreSeated : Type 0
MainsAreSeated =
    (node_of : ThreadId → ℕ) (sits : Thread → Bool) (c : Configuration) → IsChecked c
    → ((p : ℕ) → p < length c.processes → node_of (record { process = p; serial = 0 }) ≡ MAX_THREADS * p)
    → IsRecount node_of sits c 0 [] (seated c (length c.processes))

-- And the kernel has all its release work to do.
abbrev pub PartsAreReleased : Type 0
PartsAreReleased = (c : Configuration) → AreParts c 0 [] (first_parts c)

-- A budget tick of a thread is spent on its node.
abbrev pub BudgetTickSpends : Type 0
BudgetTickSpends =
    (node_of : ThreadId → ℕ) (sits : Thread → Bool) (c : Configuration)
    (label : Label) (past : List Entry) (r : Roster) (x : Thread)
    → IsRecount node_of sits c (length past) past r → AreSeated node_of sits c (length past) past
    → Has (threads c past) x → sits x ≡ true → node_of x.id < length r.seats
    → MovesJob c (length past) past (quiet label ∷ past) x
    → job c (length past) (quiet label ∷ past) x ≡ spent c.costs.switch (job c (length past) past x)
    → IsRecount node_of sits c (length past) (quiet label ∷ past) (spent_on (node_of x.id) r)

-- A wait of a thread closes its node.
abbrev pub WaitClosesSeat : Type 0
WaitClosesSeat =
    (node_of : ThreadId → ℕ) (sits : Thread → Bool) (c : Configuration)
    (e : Entry) (past : List Entry) (r : Roster) (x : Thread)
    → IsRecount node_of sits c (length past) (quiet e.label ∷ past) r
    → AreSeated node_of sits c (length past) (quiet e.label ∷ past)
    → Has (threads c (quiet e.label ∷ past)) x → sits x ≡ true → node_of x.id < length r.seats
    → MovesJob c (length past) (quiet e.label ∷ past) (e ∷ past) x
    → job c (length past) (e ∷ past) x ≡ closed (job c (length past) (quiet e.label ∷ past) x)
    → IsRecount node_of sits c (length past) (e ∷ past) (closed_on (node_of x.id) r)

-- Where all jobs stay, the seats and the queues stay.
abbrev pub JobsKeepSeats : Type 0
JobsKeepSeats =
    (node_of : ThreadId → ℕ) (sits : Thread → Bool) (c : Configuration)
    (now next : ℕ) (before after : List Entry) (r : Roster)
    → KeepsJobs c now next before after → IsRecount node_of sits c now before r
    → IsRecount node_of sits c next after r

-- A tick of the kernel's own work of a level is spent on that part.
abbrev pub KernelTickSpends : Type 0
KernelTickSpends =
    (c : Configuration) (label : Label) (past : List Entry) (k : ℕ) (parts : List Job)
    → AreParts c (length past) past parts → kernel_level label ≡ Some k → k < length c.levels
    → 0 < kernel_rem c (length past) past k
    → AreParts c (length past) (quiet label ∷ past) (slice_set parts k (spent 0 (get_or parts k (new_job 0))))

-- Any other tick leaves the parts.
abbrev pub OthersKeepParts : Type 0
OthersKeepParts =
    (c : Configuration) (label : Label) (past : List Entry) (parts : List Job) → AreParts c (length past) past parts
    → kernel_level label ≡ None → AreParts c (length past) (quiet label ∷ past) parts

-- And so does every event.
abbrev pub EventKeepsParts : Type 0
EventKeepsParts =
    (c : Configuration) (e : Entry) (past : List Entry) (parts : List Job)
    → AreParts c (length past) (quiet e.label ∷ past) parts → AreParts c (length past) (e ∷ past) parts

-- What a node has left is the past's.
abbrev pub TellsLeft : Type 0
TellsLeft =
    (node_of : ThreadId → ℕ) (sits : Thread → Bool) (c : Configuration)
    (now : ℕ) (past : List Entry) (r : Roster) (x : Thread)
    → IsRecount node_of sits c now past r → Has (threads c past) x → sits x ≡ true
    → left_on r (node_of x.id) ≡ thread_rem c now past x

-- And so is the part of the share that its next tick belongs to.
abbrev pub TellsPhase : Type 0
TellsPhase =
    (node_of : ThreadId → ℕ) (sits : Thread → Bool) (c : Configuration)
    (now : ℕ) (past : List Entry) (r : Roster) (x : Thread)
    → IsRecount node_of sits c now past r → Has (threads c past) x → sits x ≡ true
    → told_phase r.switch (seat_at r (node_of x.id)).job ≡ told_phase c.costs.switch (job c now past x)

-- A level's queue has the threads that have something left, in their order.
abbrev pub TellsReady : Type 0
TellsReady =
    (node_of : ThreadId → ℕ) (sits : Thread → Bool) (c : Configuration)
    (now : ℕ) (past : List Entry) (r : Roster) (k index : ℕ)
    → IsRecount node_of sits c now past r → k < length c.levels
    → slice_get (queue_at r.ready.lists k) index
    ≡ option_map (λ x. node_of x.id) (slice_get (filter (is_ready c now past k) (threads c past)) index)

-- The node of a thread that has something left stands in a queue.
abbrev pub QueuesWorkers : Type 0
QueuesWorkers =
    (node_of : ThreadId → ℕ) (sits : Thread → Bool) (c : Configuration)
    (now : ℕ) (past : List Entry) (r : Roster) (x : Thread)
    → IsRecount node_of sits c now past r → Has (threads c past) x → x.level < length c.levels
    → 0 < thread_rem c now past x → IsSome (holder r.ready.lists (node_of x.id))
