-- Which event closes whose window, and what demand and blocking lose: nobody's, one thread's, or those of a whole process.
use Rattle.std.specs.Prelude.{ℕ, ◌≡◌, ◌+◌, ◌<◌, ◌⊎◌, Bool, true, false, ◌&&◌, ◌==◌, nat_le, if◌then◌else◌, List, ◌∷◌, length, sum_by, Option, Some, None, is_none}
use Rattle.dk_config.specs.Configuration.{Configuration}
use Rattle.dk_trace.specs.declared.Event.{Event}
use Rattle.dk_trace.specs.declared.Entry.{Entry}
use Rattle.dk_trace.specs.Members.{Has}
use Rattle.dk_trace.specs.Entries.{is_same, main_of, is_of, has_event, is_end, stops, quiet}
use Rattle.dk_trace.specs.Threads.{Thread, threads, family, is_main}
use Rattle.dk_trace.specs.Holds.{thread_blocking, blocking}
use Rattle.dk_trace.specs.Demand.{own_demand, remaining_demand}
use Rattle.dk_bound.specs.Moves.{shares_to_come}
use Rattle.dk_bound.specs.EventMoves.{closes, given_up}

-- an event that may close a window
abbrev pub may_close : Option Event → Bool
may_close (Some Event.Wait) = true
may_close (Some Event.Exit) = true
may_close (Some (Event.Fault kind)) = true
may_close (Some (Event.Delete serial)) = true
may_close None = false
may_close (Some (Event.Create serial level quota)) = false
may_close (Some (Event.Lock m)) = false
may_close (Some (Event.Unlock m)) = false
may_close (Some (Event.Slack amount)) = false
may_close (Some (Event.Put value)) = false
may_close (Some (Event.Refused refusal)) = false

pub record WhoCloses (c : Configuration) (e : Entry) (past : List Entry) : Type 0 where
  -- a wait closes its own thread
  pub wait : (x : Thread) → is_of x.id e ≡ true → e.event ≡ Some Event.Wait → (y : Thread)
      → closes e y ≡ is_same y.id x.id
  -- the end of a child closes that child
  pub child : (x y : Thread) → Has (threads c past) x → Has (threads c past) y → is_main x ≡ false
      → is_of x.id e ≡ true → has_event is_end e ≡ true
      → closes e y ≡ is_same y.id x.id
  -- a delete closes the child that it names
  pub delete : (x y : Thread) → Has (threads c past) x → Has (threads c past) y → is_of (main_of x.id) e ≡ true
      → e.event ≡ Some (Event.Delete x.id.serial) → closes e y ≡ is_same y.id x.id
  -- the end of a main closes whoever of its process has not been stopped
  pub main : (x y : Thread) → is_main x ≡ true → is_of x.id e ≡ true → has_event is_end e ≡ true
      → closes e y ≡ (is_none y.stop && (y.id.process == x.id.process))
  -- and no other event anybody
  pub nobody : may_close e.event ≡ false → (y : Thread) → closes e y ≡ false

abbrev pub changes_holds : Option Event → Bool
changes_holds (Some (Event.Lock m)) = true
changes_holds (Some (Event.Unlock m)) = true
changes_holds _ = false

-- Blocking falls by what those keep waiting whom the event stops.
abbrev pub StopsFreeBlocking : Configuration → Entry → List Entry → Type 0
StopsFreeBlocking c e past =
    (j : ℕ) → changes_holds e.event ≡ false
    → blocking c (e ∷ past) j + sum_by (λ x. if stops x.id e then thread_blocking c (quiet e.label ∷ past) j x else 0)
    (threads c past)
    ≡ blocking c (quiet e.label ∷ past) j

-- An event that closes nobody, as a create, leaves all demand as it is, and blocking where it is no lock and no unlock.
pub record EventKeeps (c : Configuration) (e : Entry) (past : List Entry) : Type 0 where
  pub own : (j : ℕ) → may_close e.event ≡ false
      → own_demand c (length past) (e ∷ past) j ≡ own_demand c (length past) (quiet e.label ∷ past) j
  pub remaining : (j : ℕ) → j < length c.levels → may_close e.event ≡ false
      → remaining_demand c (length past) (e ∷ past) j ≡ remaining_demand c (length past) (quiet e.label ∷ past) j
  pub blocking : (j : ℕ) → may_close e.event ≡ false → changes_holds e.event ≡ false
      → blocking c (e ∷ past) j ≡ blocking c (quiet e.label ∷ past) j

-- the event is a wait of the thread, or it is a child, and the event is its end or a delete of it
abbrev pub IsClosedAlone : Entry → Thread → Type 0
IsClosedAlone e x =
    ((is_of x.id e ≡ true) × (e.event ≡ Some Event.Wait))
    ⊎ ((is_main x ≡ false)
    × (((is_of x.id e ≡ true) × (has_event is_end e ≡ true))
    ⊎ ((is_of (main_of x.id) e ≡ true) × (e.event ≡ Some (Event.Delete x.id.serial)))))

-- Then demand falls by what that thread gives up, at its level and at those that count it, and blocking by its part if it is stopped.
pub record OneIsClosed (c : Configuration) (e : Entry) (past : List Entry) : Type 0 where
  pub only : (x y : Thread) → Has (threads c past) x → Has (threads c past) y → IsClosedAlone e x
      → closes e y ≡ is_same y.id x.id
  pub own : (x : Thread) (j : ℕ) → Has (threads c past) x → IsClosedAlone e x
      → own_demand c (length past) (e ∷ past) j + (if x.level == j then given_up c e past x else 0)
      ≡ own_demand c (length past) (quiet e.label ∷ past) j
  pub remaining : (x : Thread) (j : ℕ) → j < length c.levels → Has (threads c past) x → IsClosedAlone e x
      → remaining_demand c (length past) (e ∷ past) j + (if nat_le x.level j then given_up c e past x else 0)
      ≡ remaining_demand c (length past) (quiet e.label ∷ past) j
  pub blocking : (x : Thread) (j : ℕ) → Has (threads c past) x → IsClosedAlone e x
      → blocking c (e ∷ past) j + (if stops x.id e then thread_blocking c (quiet e.label ∷ past) j x else 0)
      ≡ blocking c (quiet e.label ∷ past) j

-- the event is the end of a main
pub record IsMainsEnd (c : Configuration) (e : Entry) (past : List Entry) (x : Thread) : Type 0 where
  pub among : Has (threads c past) x
  pub main : is_main x ≡ true
  pub own : is_of x.id e ≡ true
  pub end : has_event is_end e ≡ true

-- Then demand falls by what the threads of the process give up and by all their shares to come, and blocking by all that they keep waiting.
pub record ProcessIsClosed (c : Configuration) (e : Entry) (past : List Entry) : Type 0 where
  pub own : (x : Thread) (j : ℕ) → IsMainsEnd c e past x
      → own_demand c (length past) (e ∷ past) j
      + sum_by (λ y. if y.level == j then given_up c e past y else 0) (family c x.id.process past)
      ≡ own_demand c (length past) (quiet e.label ∷ past) j
  pub remaining : (x : Thread) (j : ℕ) → j < length c.levels → IsMainsEnd c e past x
      → remaining_demand c (length past) (e ∷ past) j
      + sum_by (λ y. if nat_le y.level j then given_up c e past y else 0) (family c x.id.process past)
      + shares_to_come c (length past) (quiet e.label ∷ past) j x.id.process
      ≡ remaining_demand c (length past) (quiet e.label ∷ past) j
  pub blocking : (x : Thread) (j : ℕ) → IsMainsEnd c e past x
      → blocking c (e ∷ past) j + sum_by (thread_blocking c (quiet e.label ∷ past) j) (family c x.id.process past)
      ≡ blocking c (quiet e.label ∷ past) j
