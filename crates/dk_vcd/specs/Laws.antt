-- What the signal of a mutex tells at each tick, by what has been written of it; and the form of a dump's lines.
use Rattle.std.specs.Prelude.{ℕ, ◌≡◌, ◌==◌, ◌||◌, ◌++◌, ◌⊎◌, Bool, true, false, [], ◌∷◌, List, codes, flat_map, nat_lt, Option, Some, None, if◌then◌else◌}
use Rattle.std.specs.List.{AllByRecursion, list_all}
use Rattle.dk_trace.specs.declared.Event.{Event}
use Rattle.dk_trace.specs.declared.Entry.{Entry}
use Rattle.dk_ledger.specs.declared.line.LedgerLine.{LedgerLine}
use Rattle.dk_ledger.specs.Heading.{Heading, ended}
use Rattle.dk_holds.specs.declared.holding.Holding.{Holding}
use Rattle.dk_vcd.specs.declared.holders.Occasion.{Occasion}
use Rattle.dk_vcd.specs.declared.signals.Signal.{Signal}
use Rattle.dk_vcd.specs.Changes.{time_text}
use Rattle.dk_vcd.specs.Dumps.{opening_text, process_texts}
use Rattle.dk_vcd.specs.Holders.{event_before, holder_before, is_told}
use Rattle.dk_vcd.specs.Signals.{code}

-- the value of mutex m is written at the first tick of a group behind one with this event
abbrev pub is_moved : ℕ → Option Event → Bool
is_moved m None = false
is_moved m (Some e) = is_told (Occasion.Behind e) m

-- the hold that was written last of mutex m up to tick t, at the first ticks of these groups behind b, or this one before
abbrev pub told_at : List Entry → ℕ → ℕ → Option Holding → Option LedgerLine → List LedgerLine → Option Holding
told_at es m t told b [] = told
told_at es m t told b (g ∷ gs) =
    if nat_lt t g.start
    then told
    else told_at es m t (if is_moved m (event_before b) then holder_before es g.start m else told) (Some g) gs

-- ---- the form of a dump's lines

-- no blank, and no end of a line
abbrev pub is_dense : ℕ → Bool
is_dense b = nat_lt 32 b

abbrev pub IsDense : List ℕ → Type 0
IsDense s = list_all is_dense s ≡ true

-- the line of a time
pub record IsTime (line : List ℕ) : Type 0 where
  pub tick : ℕ
  pub is : line ≡ time_text tick

-- the line of a signal's new value, which has no blank
pub record IsValue (line : List ℕ) : Type 0 where
  pub value : List ℕ
  pub signal : Signal
  pub dense : IsDense value
  pub is : line ≡ (codes "s" ++ value ++ codes " " ++ code signal)

-- a binary digit, or that there is none
abbrev pub is_bit : ℕ → Bool
is_bit b = (b == 48) || (b == 49) || (b == 122)

-- the line of a new value of the number, in binary
pub record IsNumber (line : List ℕ) : Type 0 where
  pub bits : List ℕ
  pub binary : list_all is_bit bits ≡ true
  pub is : line ≡ (codes "b" ++ bits ++ codes " R")

-- the text is lines of times, values and numbers
pub record AreChanges (text : List ℕ) : Type 0 where
  pub lines : List (List ℕ)
  pub each : AllByRecursion (λ line. IsTime line ⊎ (IsValue line ⊎ IsNumber line)) lines
  pub is : text ≡ flat_map ended lines

-- the text is a dump: the signals of the ledger's processes, their first values, and then what changes
pub record IsDump (h : Heading) (text : List ℕ) : Type 0 where
  pub first : List ℕ
  pub later : List ℕ
  pub values : AreChanges first
  pub changes : AreChanges later
  pub is : text ≡ (opening_text ++ (process_texts 0 h.processes
      ++ (codes "$enddefinitions $end\n$dumpvars\n" ++ (first ++ (codes "$end\n" ++ later)))))
