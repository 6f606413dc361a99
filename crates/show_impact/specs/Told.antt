-- What is told of a process.
use Rattle.std.specs.Prelude.{ℕ, List, [], ◌++◌, Option, Some, None, option_map, slice_get, codes, decimal}
use Rattle.std.specs.Option.{option_map_or}
use Rattle.dk_config.specs.Configuration.{Configuration}
use Rattle.dk_config.specs.Windows.{budget, longest_hold, main_level, memory, period, process_name}
use Rattle.dk_impact.specs.declared.change.Change.{Change}
use Rattle.show_impact.specs.declared.row.Cause.{Cause}
use Rattle.show_impact.specs.declared.row.Impact.{Impact}
use Rattle.show_impact.specs.declared.row.Row.{Row}
use Rattle.show_impact.specs.declared.row.Waiting.{Waiting}
use Rattle.show_impact.specs.declared.waiting.TheConstants.{WAIT_TICKS}
use Rattle.show_impact.specs.declared.told.Fate.{Fate}
use Rattle.show_impact.specs.declared.told.Told.{Told}
use Rattle.show_impact.specs.Impacts.{place_of}

-- the number that changes, of process p, where the change is one of a number
abbrev pub value_of : Change → Configuration → ℕ → Option ℕ
value_of Change.Switch c p = Some c.costs.switch
value_of Change.Call c p = Some c.costs.call
value_of Change.Period c p = Some (period c (main_level c p))
value_of Change.Budget c p = Some (budget c p)
value_of Change.Memory c p = Some (memory c p)
value_of (Change.User m) c p = None
value_of (Change.Hold m) c p = Some (longest_hold c m)
value_of Change.Levels c p = None

-- of a process that may not be there, where something is seen to change
abbrev pub told_value : Option Change → Configuration → Option ℕ → Option ℕ
told_value (Some change) c (Some p) = value_of change c p
told_value _ c p = None

-- what is told of process q of the new configuration, and of a change that it sees
abbrev pub told_of : Configuration → Configuration → Row → ℕ → Option Change → Told
told_of old new row q change =
    let place = place_of old (process_name new q) in
    record {
      fate = Fate.Is row.impact;
      before = told_value change old place;
      now = told_value change new (Some q);
      done_before = option_map (λ p. row.before) place;
      done_now = Some row.after;
    }

-- and of a process that is gone, or of a name that is that of none
abbrev pub told_name : Fate → Told
told_name fate = record { fate = fate; before = None; now = None; done_before = None; done_now = None }

abbrev pub cause_word : Cause → List ℕ
cause_word Cause.Threads = codes "threads"
cause_word Cause.Slack = codes "slack"
cause_word Cause.Clock = codes "clock"

abbrev pub mutex_name : Configuration → ℕ → List ℕ
mutex_name c m = option_map_or (λ row. row.name) (slice_get c.mutexes m) []

-- A mutex is told by its name in the new configuration, and where that hasn't got it in the old. Which one it is goes by its
-- number, by which programs name it.
abbrev pub mutex_told : Configuration → Configuration → ℕ → List ℕ
mutex_told old new m = option_map_or (λ row. row.name) (slice_get new.mutexes m) (mutex_name old m)

abbrev pub change_text : Configuration → Configuration → Change → List ℕ
change_text old new Change.Switch = codes "switch"
change_text old new Change.Call = codes "call"
change_text old new Change.Period = codes "period"
change_text old new Change.Budget = codes "budget"
change_text old new Change.Memory = codes "memory"
change_text old new (Change.User m) = codes "user " ++ mutex_told old new m
change_text old new (Change.Hold m) = codes "hold " ++ mutex_told old new m
change_text old new Change.Levels = codes "level"

-- what becomes of the process, in a word or a few
abbrev pub impact_word : Impact → List ℕ
impact_word Impact.Same = codes "same"
impact_word Impact.PeriodAlone = codes "period alone"
impact_word Impact.Waits = codes "same"
impact_word (Impact.IfItWaits waiting) = codes "same if it waits"
impact_word Impact.Program = codes "changed"
impact_word Impact.Changed = codes "changed"
impact_word (Impact.Open cause) = codes "open"
impact_word Impact.New = codes "new"

abbrev pub fate_word : Fate → List ℕ
fate_word (Fate.Is impact) = impact_word impact
fate_word Fate.Gone = codes "gone"
fate_word Fate.Unknown = codes "unknown"

abbrev pub reason_word : Impact → List ℕ
reason_word Impact.Program = codes "program"
reason_word (Impact.Open cause) = cause_word cause
reason_word _ = []

abbrev pub waiting_text : Waiting → List ℕ
waiting_text Waiting.Always = codes "waits in each window"
waiting_text (Waiting.NotFrom tick) = codes "no wait in the window from " ++ decimal tick
waiting_text Waiting.NotWithin = codes "not within " ++ decimal WAIT_TICKS
waiting_text Waiting.Locks = codes "may want for a lock"

-- what is known of its windows, where that is told
abbrev pub waits_text : Impact → List ℕ
waits_text Impact.Waits = waiting_text Waiting.Always
waits_text (Impact.IfItWaits waiting) = waiting_text waiting
waits_text _ = []

-- and by what, if by anything: a change that it sees, or the reason
abbrev pub key_text : Configuration → Configuration → Impact → Option Change → List ℕ
key_text old new impact (Some change) = change_text old new change
key_text old new impact None = reason_word impact
