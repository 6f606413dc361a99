-- What the tenths say of the counts, and what the extreme one of some holds is.
use Rattle.std.specs.Prelude.{ℕ, ◌≡◌, true, false, All, List, [], ◌∷◌, ◌++◌, sum_by, Some, None}
use Rattle.dk_trace.specs.declared.Entry.{Entry}
use Rattle.dk_ledger.specs.Heading.{Heading}
use Rattle.dk_window_report.specs.Owners.{main_owner, numbers_of}
use Rattle.show_ledger.specs.declared.extremes.Extreme.{Extreme}
use Rattle.show_ledger.specs.declared.measuring.MeasuredHold.{MeasuredHold}
use Rattle.show_ledger.specs.Extremes.{beats, extreme_hold}
use Rattle.show_ledger.specs.Tenths.{tenths_of}

-- all tenths of a main together are its windows
abbrev pub AreAllWindows : Type 0
AreAllWindows = (h : Heading) (past : List Entry) (p : ℕ)
    → sum_by (λ n. n) (tenths_of h past p) ≡ (numbers_of past (main_owner h p)).windows

-- It is one of the holds. It is more extreme than each before it, and none after it is more extreme.
pub record IsExtreme (x : Extreme) (hs : List MeasuredHold) (h : MeasuredHold) : Type 0 where
  pub before : List MeasuredHold
  pub after : List MeasuredHold
  pub parts : hs ≡ before ++ h ∷ after
  pub first : All (λ b. beats x h b ≡ true) before
  pub most : All (λ a. beats x a h ≡ false) after

-- the extreme one is so, and there is none only where there are no holds
pub record IsEachExtreme : Type 0 where
  pub found : (x : Extreme) (hs : List MeasuredHold) (h : MeasuredHold) → extreme_hold x hs ≡ Some h → IsExtreme x hs h
  pub none : (x : Extreme) (hs : List MeasuredHold) → extreme_hold x hs ≡ None → hs ≡ []
