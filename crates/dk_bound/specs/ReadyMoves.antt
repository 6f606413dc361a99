-- The ready list of a level: the threads of the level that have something left, by process and then serial.
use Rattle.std.specs.Prelude.{ℕ, ◌≡◌, ◌<◌, Bool, true, false, ◌&&◌, ◌==◌, nat_lt, List, [], ◌∷◌, length, map, filter}
use Rattle.dk_config.specs.Configuration.{Configuration}
use Rattle.dk_trace.specs.declared.ThreadId.{ThreadId}
use Rattle.dk_trace.specs.declared.Entry.{Entry}
use Rattle.dk_trace.specs.Members.{Has}
use Rattle.dk_trace.specs.Entries.{quiet}
use Rattle.dk_trace.specs.Threads.{Thread, threads}
use Rattle.dk_trace.specs.Jobs.{thread_rem}
use Rattle.dk_bound.specs.EventMoves.{closes}
use Rattle.dk_bound.specs.ClockMoves.{begins}

abbrev pub is_ready : Configuration → ℕ → List Entry → ℕ → Thread → Bool
is_ready c now past k x = (x.level == k) && nat_lt 0 (thread_rem c now past x)

-- the ids of the rows that pass the test
abbrev pub ids_of : (Thread → Bool) → List Thread → List ThreadId
ids_of test xs = map (λ x. x.id) (filter test xs)

abbrev pub ready : Configuration → ℕ → List Entry → ℕ → List ThreadId
ready c now past k = ids_of (is_ready c now past k) (threads c past)

-- An event that closes nobody's window changes nothing.
abbrev pub EventKeepsReady : Configuration → Entry → List Entry → Type 0
EventKeepsReady c e past =
    (k : ℕ) → ((x : Thread) → Has (threads c past) x → closes e x ≡ false)
    → ready c (length past) (e ∷ past) k ≡ ready c (length past) (quiet e.label ∷ past) k

-- Within a window the clock changes nothing, and nobody is left in it at a window's end.
pub record ClockMovesReady (c : Configuration) (e : Entry) (past : List Entry) : Type 0 where
  pub keeps : (k : ℕ) → k < length c.levels → begins c k (length (e ∷ past)) ≡ false
      → ready c (length (e ∷ past)) (e ∷ past) k ≡ ready c (length past) (e ∷ past) k
  pub done : (k : ℕ) → k < length c.levels → begins c k (length (e ∷ past)) ≡ true
      → ready c (length past) (e ∷ past) k ≡ []
