-- A number of a configuration, and what is asked of it.
use Rattle.std.specs.Prelude.{ℕ, ◌≡◌, ◌≤◌, ◌↔◌, Bool, true, false, nat_le, if◌then◌else◌, IsTrue, List, Option, Some, None}
use Rattle.std.specs.List.{list_all}
use Rattle.dk_margins.specs.Margins.{IsGreatest}
use Rattle.dk_config_report.specs.Pages.{IsLeast}
use Rattle.dk_needs_check.specs.declared.row.Answer.{Answer}
use Rattle.dk_needs_check.specs.declared.row.Audit.{Audit}
use Rattle.dk_needs_check.specs.declared.row.Bound.{Bound}
use Rattle.dk_needs_check.specs.declared.row.Measure.{Measure}
use Rattle.dk_needs_check.specs.declared.row.Repeating.{Repeating}
use Rattle.dk_needs_check.specs.declared.row.Row.{Row}
use Rattle.dk_needs_check.specs.declared.row.Verdict.{Verdict}
use Rattle.dk_needs_check.specs.declared.row.Waiting.{Waiting}

-- at most so much is asked; of the other measures at least so much
abbrev pub is_upper : Measure → Bool
is_upper Measure.Done = true
is_upper Measure.Reaction = true
is_upper Measure.Age = true
is_upper Measure.BeginsJitter = true
is_upper Measure.DoneJitter = true
is_upper Measure.ReactionJitter = true
is_upper Measure.SlackBy = true
is_upper Measure.Overruns = true
is_upper Measure.Refused = true
is_upper Measure.Faults = true
is_upper _ = false

abbrev pub keeps : Bool → Option ℕ → ℕ → Bool
keeps upper None asked = false
keeps upper (Some n) asked = if upper then (nat_le n asked) else (nat_le asked n)

abbrev pub is_met : Bound → Bool
is_met b = keeps (is_upper b.measure) b.number b.asked

-- an audit that passed
abbrev pub audit_verdict : Audit → Verdict
audit_verdict (Audit.Passed n) = Verdict.Met
audit_verdict (Audit.Label n) = Verdict.Missed
audit_verdict (Audit.Event n) = Verdict.Missed

-- met where it waits in each window, missed where it doesn't in one
abbrev pub waiting_verdict : Waiting → Verdict
waiting_verdict Waiting.Always = Verdict.Met
waiting_verdict (Waiting.NotFrom n) = Verdict.Missed
waiting_verdict _ = Verdict.Open

-- met where a cycle is told
abbrev pub repeating_verdict : Repeating → Verdict
repeating_verdict (Repeating.Every start every) = Verdict.Met
repeating_verdict _ = Verdict.Open

abbrev pub verdict_of : Answer → Verdict
verdict_of (Answer.Tested b) = if is_met b then Verdict.Met else Verdict.Missed
-- what holds under a condition that isn't known is open
verdict_of (Answer.IfKept b) = if is_met b then Verdict.Open else Verdict.Missed
verdict_of Answer.NoRight = Verdict.Missed
verdict_of (Answer.Audited a) = audit_verdict a
verdict_of (Answer.Waits w) = waiting_verdict w
verdict_of (Answer.Repeats r) = repeating_verdict r
verdict_of (Answer.Open reason) = Verdict.Open

-- a number up to this one has the fact
abbrev pub Within : (ℕ → Type 0) → ℕ → Type 0
Within P asked = (n : ℕ) × (n ≤ asked) × P n

-- a number from this one on has it
abbrev pub Reaches : (ℕ → Type 0) → ℕ → Type 0
Reaches P asked = (n : ℕ) × (asked ≤ n) × P n

-- The least number with the fact is told, and the bound is met exactly where a number up to what is asked has it.
pub record IsAtMost (P : ℕ → Type 0) (measure : Measure) (asked : ℕ) (b : Bound) : Type 0 where
  pub number : ℕ
  pub least : IsLeast P number
  pub told : b ≡ record { measure = measure; number = Some number; asked = asked }
  pub truth : IsTrue (is_met b) ↔ Within P asked

-- the fact holds of the answer and of no less number, and where there is no answer, of none at all
abbrev pub IsLeastIfAny : (ℕ → Type 0) → Option ℕ → Type 0
IsLeastIfAny P None = (n : ℕ) → P n → ⊥
IsLeastIfAny P (Some n) = IsLeast P n

-- The least number with the fact is told, if any has it, and the bound is met exactly where a number up to what is asked has it.
pub record IsAtMostIfAny (P : ℕ → Type 0) (measure : Measure) (asked : ℕ) (b : Bound) : Type 0 where
  pub number : Option ℕ
  pub least : IsLeastIfAny P number
  pub told : b ≡ record { measure = measure; number = number; asked = asked }
  pub truth : IsTrue (is_met b) ↔ Within P asked

-- The greatest number with the fact is told, and the bound is met exactly where a number from what is asked on has it.
pub record IsAtLeast (P : ℕ → Type 0) (measure : Measure) (asked : ℕ) (b : Bound) : Type 0 where
  pub most : Option ℕ
  pub greatest : IsGreatest P most
  pub told : b ≡ record { measure = measure; number = most; asked = asked }
  pub truth : IsTrue (is_met b) ↔ Reaches P asked

abbrev pub is_verdict_met : Verdict → Bool
is_verdict_met Verdict.Met = true
is_verdict_met _ = false

abbrev pub is_met_row : Row → Bool
is_met_row row = is_verdict_met (verdict_of row.answer)

-- all that was asked for is met
abbrev pub are_met : List Row → Bool
are_met rows = list_all is_met_row rows
