-- When the seats, the ready queues and the kernel's own parts are the recount of a past.
use Rattle.std.specs.Prelude.{ℕ, ◌≡◌, ◌<◌, ◌≤◌, Bool, true, false, ◌&&◌, ◌==◌, nat_lt, List, length, map, filter, count_by}
use Rattle.dk_config.specs.Configuration.{Configuration}
use Rattle.dk_config.specs.Sums.{below}
use Rattle.dk_config.specs.Windows.{release}
use Rattle.dk_trace.specs.declared.ThreadId.{ThreadId}
use Rattle.dk_trace.specs.declared.Entry.{Entry}
use Rattle.dk_trace.specs.Members.{Has}
use Rattle.dk_trace.specs.Entries.{is_kernel_at, is_same, window}
use Rattle.dk_trace.specs.Threads.{Thread, threads}
use Rattle.dk_trace.specs.Jobs.{Job, job, thread_rem}
use Rattle.dk_rail.specs.Queues.{queue_at}
use Rattle.dk_ready.specs.declared.seat.Seat.{Seat}
use Rattle.dk_ready.specs.Roster.{Roster, seat_at}

-- where a thread sits: its name, its level, and its job in the present window
abbrev pub seat_of : Configuration → ℕ → List Entry → Thread → Seat
seat_of c now past x = record { thread = x.id; level = x.level; job = job c now past x }

-- the kernel's own part of a level as a job; it pays no switches
abbrev pub kernel_part : Configuration → ℕ → List Entry → ℕ → Job
kernel_part c now past k =
    record {
      share = release c k;
      used = count_by (is_kernel_at k) (window c now past k);
      out_ticks = 0;
      closed = false;
    }

-- a thread of level k that has something left of its share
abbrev pub is_ready : Configuration → ℕ → List Entry → ℕ → Thread → Bool
is_ready c now past k x = (x.level == k) && nat_lt 0 (thread_rem c now past x)

-- the nodes of the threads of level k that have something left, by process and then serial
abbrev pub ready_nodes : (ThreadId → ℕ) → Configuration → ℕ → List Entry → ℕ → List ℕ
ready_nodes node_of c now past k = map (λ x. node_of x.id) (filter (is_ready c now past k) (threads c past))

-- Each thread that passes the test sits on its node, and the queues have the threads that have something left. The past
-- may have the entry of the present tick already.
pub record IsRecount (node_of : ThreadId → ℕ) (sits : Thread → Bool)
    (c : Configuration) (now : ℕ) (past : List Entry) (r : Roster) : Type 0 where
  pub switch : r.switch ≡ c.costs.switch
  pub seats : (x : Thread) → Has (threads c past) x → sits x ≡ true
      → seat_at r (node_of x.id) ≡ seat_of c now past x
  pub ready : (k : ℕ) → k < length c.levels → queue_at r.ready.lists k ≡ ready_nodes node_of c now past k

-- the kernel's own parts are those of the past
abbrev pub AreParts : Configuration → ℕ → List Entry → List Job → Type 0
AreParts c now past parts = parts ≡ map (kernel_part c now past) (below (length c.levels))

-- Names tell the threads apart, nodes those that sit, and whoever has something left sits.
pub record AreSeated (node_of : ThreadId → ℕ) (sits : Thread → Bool)
    (c : Configuration) (now : ℕ) (past : List Entry) : Type 0 where
  pub named : (x y : Thread) → Has (threads c past) x → Has (threads c past) y → x.id ≡ y.id → x ≡ y
  pub apart : (x y : Thread) → Has (threads c past) x → Has (threads c past) y → sits x ≡ true
      → sits y ≡ true → node_of x.id ≡ node_of y.id → x.id ≡ y.id
  pub workers : (x : Thread) → Has (threads c past) x → 0 < thread_rem c now past x → sits x ≡ true

-- From one past to the other the threads are the same, and have the same jobs, each at its tick.
pub record KeepsJobs (c : Configuration) (now next : ℕ) (before after : List Entry) : Type 0 where
  pub rows : threads c after ≡ threads c before
  pub jobs : (x : Thread) → Has (threads c before) x → job c next after x ≡ job c now before x

-- From one past to the other the threads are the same, and all but one have the same jobs. That one has no more left
-- than before.
pub record MovesJob (c : Configuration) (now : ℕ) (before after : List Entry) (x : Thread) : Type 0 where
  pub rows : threads c after ≡ threads c before
  pub others : (y : Thread) → Has (threads c before) y → is_same y.id x.id ≡ false
      → job c now after y ≡ job c now before y
  pub lowers : thread_rem c now after x ≤ thread_rem c now before x
