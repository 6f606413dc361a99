-- The child that was made last in a run.
use Rattle.std.specs.Prelude.{ℕ, ◌≡◌, ◌+◌, ◌==◌, ◌<◌, ◌≤◌, if◌then◌else◌, List, Option, Some, None}
use Rattle.std.specs.Option.{option_or, option_map_or}
use Rattle.dk_config.specs.Configuration.{Configuration}
use Rattle.dk_trace.specs.declared.ThreadId.{ThreadId}
use Rattle.dk_trace.specs.declared.Event.{Event}
use Rattle.dk_trace.specs.declared.Entry.{Entry}
use Rattle.dk_trace.specs.Entries.{thread_of}
use Rattle.dk_repeat.specs.Repeat.{entry_at}
use Rattle.dk_cycle.specs.declared.made.Made.{Made}
use Rattle.dk_cycle.specs.Repeating.{RepeatsForEver}

-- the child that the event of the thread makes in the tick
abbrev pub made_of : ℕ → ThreadId → Option Event → Option Made
made_of tick x (Some (Event.Create serial level quota)) =
    if x.serial == 0 then Some (record { process = x.process; serial = serial; tick = tick }) else None
made_of tick x _ = None

-- the child that is made in the tick with this entry
abbrev pub made_in : ℕ → Entry → Option Made
made_in tick e = option_map_or (λ x. made_of tick x e.event) (thread_of e.label) None

-- the child that was made last, where this one was before the tick
abbrev pub last_made : Option Made → ℕ → Entry → Option Made
last_made before tick e = option_or (made_in tick e) before

-- no child is made from tick s on and before tick n
abbrev pub MakesNone : Configuration → List (List ℕ) → ℕ → ℕ → Type 0
MakesNone c programs s n = (t : ℕ) (e : Entry) → s ≤ t → t < n → entry_at c programs t ≡ Some e → made_in t e ≡ None

-- this child was made before tick n, and none was behind it
pub record MadeLast (c : Configuration) (programs : List (List ℕ)) (n : ℕ) (m : Made) : Type 0 where
  pub before : m.tick < n
  pub entry : Entry
  pub is : entry_at c programs m.tick ≡ Some entry
  pub makes : made_in m.tick entry ≡ Some m
  pub last : MakesNone c programs (m.tick + 1) n

-- this child was made last before tick n, or none was made
abbrev pub IsLastMade : Configuration → List (List ℕ) → ℕ → Option Made → Type 0
IsLastMade c programs n (Some m) = MadeLast c programs n m
IsLastMade c programs n None = MakesNone c programs 0 n

-- from no tick up to the one in which the child was made the run repeats
abbrev pub RepeatsOnlyBehind : Configuration → List (List ℕ) → Made → Type 0
RepeatsOnlyBehind c programs m = (s k : ℕ) → s ≤ m.tick → 0 < k → RepeatsForEver c programs s k → ⊥
