-- What the laws of a job say, of every configuration and every past.
use Rattle.std.specs.Prelude.{ℕ, ◌≡◌, ◌<◌, ◌∷◌, true, false, List, length, None}
use Rattle.dk_config.specs.Configuration.{Configuration}
use Rattle.dk_config.specs.Windows.{period, window_start}
use Rattle.dk_trace.specs.declared.Choice.{Choice}
use Rattle.dk_trace.specs.declared.Entry.{Entry}
use Rattle.dk_trace.specs.declared.Label.{Label}
use Rattle.dk_trace.specs.declared.Work.{Work}
use Rattle.dk_trace.specs.Audit.{label_of, without_event}
use Rattle.dk_trace.specs.Entries.{does, is_budget_of, is_wait, stops}
use Rattle.dk_trace.specs.Jobs.{Job, phase}
use Rattle.dk_trace.specs.Threads.{Thread, after_entry, share}
use Rattle.dk_overhead.specs.Recount.{IsRecount, IsStoppedBefore, KeepsShare, LeavesOpen}
use Rattle.dk_trace.specs.JobSteps.{closed, released, spent}

-- A budget tick of the thread, in the phase that its job tells, is a tick of the job.
abbrev pub OwnTickSpends : Type 0
OwnTickSpends =
    (c : Configuration) (past : List Entry) (label : Label) (work : Work) (x : Thread) (j : Job)
    → IsRecount c (length past) past x j
    → KeepsShare c (length past) past (record { label = label; event = None } ∷ past) x x
    → label ≡ label_of (Choice.Budget x.id (phase c.costs.switch j)) work
    → IsRecount c (length past) (record { label = label; event = None } ∷ past) x (spent c.costs.switch j)

-- Any other tick leaves the job.
abbrev pub OthersKeepJob : Type 0
OthersKeepJob =
    (c : Configuration) (past : List Entry) (label : Label) (x : Thread) (j : Job)
    → IsRecount c (length past) past x j
    → KeepsShare c (length past) past (record { label = label; event = None } ∷ past) x x
    → is_budget_of x.id (record { label = label; event = None }) ≡ false
    → IsRecount c (length past) (record { label = label; event = None } ∷ past) x j

-- A wait of the thread closes the job.
abbrev pub WaitClosesJob : Type 0
WaitClosesJob =
    (c : Configuration) (past : List Entry) (e : Entry) (x : Thread) (j : Job)
    → IsRecount c (length past) (without_event e ∷ past) x j
    → KeepsShare c (length past) (without_event e ∷ past) (e ∷ past) x x → does is_wait x.id e ≡ true
    → IsRecount c (length past) (e ∷ past) x (closed j)

-- An event that is no wait of the thread and no stop leaves the job.
abbrev pub EventKeepsJob : Type 0
EventKeepsJob =
    (c : Configuration) (past : List Entry) (e : Entry) (x : Thread) (j : Job)
    → IsRecount c (length past) (without_event e ∷ past) x j
    → KeepsShare c (length past) (without_event e ∷ past) (e ∷ past) x (after_entry e (length past) x)
    → LeavesOpen e x → IsRecount c (length past) (e ∷ past) (after_entry e (length past) x) j

-- A stop of the thread closes the job.
abbrev pub StopClosesJob : Type 0
StopClosesJob =
    (c : Configuration) (past : List Entry) (e : Entry) (x : Thread) (j : Job) → 0 < period c x.level
    → IsRecount c (length past) (without_event e ∷ past) x j
    → KeepsShare c (length past) (without_event e ∷ past) (e ∷ past) x (after_entry e (length past) x)
    → stops x.id e ≡ true → x.stop ≡ None
    → IsRecount c (length past) (e ∷ past) (after_entry e (length past) x) (closed j)

-- A job stays as long as its window goes on.
abbrev pub JobStays : Type 0
JobStays =
    (c : Configuration) (now next : ℕ) (past : List Entry) (x : Thread) (j : Job)
    → window_start c x.level next ≡ window_start c x.level now → IsRecount c now past x j
    → IsRecount c next past x j

-- Where a window begins it is the whole share.
abbrev pub JobBegins : Type 0
JobBegins =
    (c : Configuration) (past : List Entry) (x : Thread) → window_start c x.level (length past) ≡ length past
    → IsStoppedBefore past x → IsRecount c (length past) past x (released (share c past x (length past)))
