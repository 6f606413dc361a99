-- Whether all budgets certify together.
use Rattle.std.specs.Prelude.{ℕ, ◌≡◌, ◌+◌, ◌*◌, ◌%◌, false, List, [], ◌∷◌, length, map, slice_get, slice_index_or, Option, Some, None}
use Rattle.dk_config.specs.Configuration.{Configuration}
use Rattle.dk_config.specs.declared.rows.ProcessRow.{ProcessRow}
use Rattle.dk_config.specs.declared.fault.ConfigFault.{ConfigFault}
use Rattle.dk_config.specs.Checked.{IsAccepted, IsChecked, IsWithinLimits}
use Rattle.dk_config.specs.Rules.{all_tests}
use Rattle.dk_config.specs.Tests.{first_broken}
use Rattle.dk_config.specs.Windows.{budget, may_ask, slots}
use Rattle.dk_certify.specs.declared.certifying.Verdict.{Verdict}
use Rattle.dk_certify.specs.declared.certifying.Verdict.TheVariants as verdict
use Rattle.dk_certify.specs.Verdicts.{verdict_of}
use Rattle.dk_alone.specs.Again.{window_from}
use Rattle.dk_profile.specs.Steps.{steps_of}
use Rattle.dk_replay.specs.Code.{program_of}
use Rattle.dk_replay_run.specs.Jobs.{FitWindows, HaveSomeWork, work_times}
use Rattle.dk_replay_run.specs.Laws.{HasUsed, window_tick}
use Rattle.dk_times.specs.Table.{table_readings}
use Rattle.show_budgets.specs.Least.{IsLeastBudget, ask_of, longer, times_for}
use Rattle.show_budgets.specs.declared.measure.Measure.{Measure}
use Rattle.show_budgets.specs.declared.together.Together.{Together}

-- the budget that a process gets: that of its column, and else the one that it has
abbrev pub ask_budget : ℕ → Option Measure → ℕ
ask_budget now (Some m) = m.budget
ask_budget now None = now

abbrev pub rows_asked : List ProcessRow → List (Option Measure) → List ProcessRow
rows_asked [] asks = []
rows_asked (row ∷ rows) [] = row ∷ rows
rows_asked (row ∷ rows) (ask ∷ asks) = record row { budget = ask_budget row.budget ask } ∷ rows_asked rows asks

-- the configuration with these budgets, and else as it is
abbrev pub with_asked : Configuration → List (Option Measure) → Configuration
with_asked c asks = record c { processes = rows_asked c.processes asks }

abbrev pub by_verdict : Verdict → Together
by_verdict (verdict.Accepted rows) = Together.Certified
by_verdict (verdict.Fails level needs window) = Together.Fails (record { level = level; needs = needs; window = window })

abbrev pub or_broken : Configuration → Option ConfigFault → Together
or_broken c (Some fault) = Together.Broken fault
or_broken c None = by_verdict (verdict_of c)

-- whether it can be run: the first rule that it breaks, or the verdict of the certification test
abbrev pub together : Configuration → Together
together c = or_broken c (first_broken (all_tests c))

-- the configuration is within its limits and well formed, and each level fits its windows, as the laws of runs ask
pub record CanRun (c : Configuration) : Type 0 where
  pub limits : IsWithinLimits c
  pub checked : IsChecked c
  pub accepted : IsAccepted c

abbrev pub IfCertified : Together → Type 0 → Type 0
IfCertified Together.Certified P = P
IfCertified (Together.Fails o) P = Unit {0}
IfCertified (Together.Broken fault) P = Unit {0}

-- the configuration with all budgets that a table asks for
abbrev pub asked : Configuration → ℕ → List ℕ → Configuration
asked c percent table = with_asked c (map (ask_of c percent table) c.processes)

-- With the budgets of all others as they are asked for too, a process has the told one, which is the least with which each of its jobs,
-- longer by the reserve, has room with both switches in one window.
abbrev pub LeastTogether : Type 0
LeastTogether =
    (c : Configuration) (p percent : ℕ) (table : List ℕ) (row : ProcessRow) (m : Measure) → slice_get c.processes p ≡ Some row
    → ask_of c percent table row ≡ Some m
    → (budget (asked c percent table) p ≡ m.budget)
    × IsLeastBudget (asked c percent table) p (map (longer percent) (times_for c table row)) m.budget

-- and each of them as it was measured has room
abbrev pub FitTogether : Type 0
FitTogether =
    (c : Configuration) (p percent : ℕ) (table : List ℕ) (row : ProcessRow) → slice_get c.processes p ≡ Some row
    → FitWindows (asked c percent table) p (times_for c table row)

-- So where the configuration with all these budgets can be run: in each of its runs, whatever programs the others have, a process with
-- the program of its column, which may have neither children nor slack, uses in window k exactly the time of row k (the rows in turn)
-- and both switches, and it waits.
abbrev pub RunTogether : Type 0
RunTogether =
    (c : Configuration) (programs : List (List ℕ)) (p k percent : ℕ) (table : List ℕ) (row : ProcessRow)
    → CanRun (asked c percent table) → slice_get c.processes p ≡ Some row
    → slots (asked c percent table) p ≡ 0 → may_ask (asked c percent table) p ≡ false
    → HaveSomeWork (work_times c.costs.call (times_for c table row))
    → slice_index_or programs p [] ≡ program_of (steps_of (table_readings c.costs.call row.name table))
    → HasUsed p (slice_index_or (times_for c table row) (k % length (times_for c table row)) 0 + 2 * c.costs.switch)
    (window_from (asked c percent table) programs p (window_tick (asked c percent table) p k))
