-- When a job is the recount of a past: the thread's way in, its body and its way out, as far as they have gone.
use Rattle.std.specs.Prelude.{ℕ, ◌≡◌, ◌<◌, false, List, length, Some}
use Rattle.dk_config.specs.Configuration.{Configuration}
use Rattle.dk_config.specs.Windows.{window_start}
use Rattle.dk_trace.specs.declared.Entry.{Entry}
use Rattle.dk_trace.specs.Entries.{does, is_wait, stops}
use Rattle.dk_trace.specs.Threads.{Thread, share}
use Rattle.dk_trace.specs.Jobs.{Job, job}

-- The job is the thread's in the window of its level that tick now lies in. The past may have the entry of that tick already.
abbrev pub IsRecount : Configuration → ℕ → List Entry → Thread → Job → Type 0
IsRecount c now past x j = j ≡ job c now past x

-- from one past to the other the thread, once its row is the second one, keeps its share of the window that now lies in
abbrev pub KeepsShare : Configuration → ℕ → List Entry → List Entry → Thread → Thread → Type 0
KeepsShare c now before after x y = share c after y (window_start c x.level now)
    ≡ share c before x (window_start c x.level now)

-- the entry is no wait of the thread, and doesn't stop it
pub record LeavesOpen (e : Entry) (x : Thread) : Type 0 where
  pub waits : does is_wait x.id e ≡ false
  pub runs : stops x.id e ≡ false

-- the thread's stop isn't yet to come
abbrev pub IsStoppedBefore : List Entry → Thread → Type 0
IsStoppedBefore past x = (t : ℕ) → x.stop ≡ Some t → t < length past
