-- What is told of a row by what is so for ever.
use Rattle.std.specs.Prelude.{ℕ, Bool, true, false, List, Option, Some, None, slice_get}
use Rattle.std.specs.List.{list_any}
use Rattle.std.specs.Option.{option_map_or}
use Rattle.dk_cycle.specs.declared.Cycle.{Cycle}
use Rattle.dk_cycle.specs.declared.keeping.Keeping.{Keeping}
use Rattle.dk_cycle.specs.declared.keeping.Keeping.TheVariants as kind
use Rattle.dk_cycle.specs.declared.told.RunTold.{RunTold}
use Rattle.dk_cycle.specs.declared.waiting.Waits.{Waits}
use Rattle.dk_cycle.specs.declared.waiting.Waits.TheVariants as waits
use Rattle.dk_needs_check.specs.declared.row.Answer.{Answer}
use Rattle.dk_needs_check.specs.declared.row.Repeating.{Repeating}
use Rattle.dk_needs_check.specs.declared.row.Row.{Row}
use Rattle.dk_needs_check.specs.declared.row.Waiting.{Waiting}
use Rattle.dk_repeat_search.specs.declared.always.Always.{Always}
use Rattle.dk_needs_always.specs.declared.TheConstants.{ALWAYS_TICKS}
use Rattle.dk_needs_always.specs.declared.asking.Asked.{Asked}
use Rattle.dk_needs_always.specs.declared.asking.AskedRow.{AskedRow}

-- of a process that doesn't keep to itself, for this reason
abbrev pub waiting_unless : Keeping → Waiting
waiting_unless kind.Keeps = Waiting.NotWithin ALWAYS_TICKS
waiting_unless kind.ReadsTick = Waiting.ReadsTick
waiting_unless kind.HasThreads = Waiting.HasThreads
waiting_unless kind.HasSlack = Waiting.HasSlack

abbrev pub waiting_of : Waits → Waiting
waiting_of waits.Always = Waiting.Always
waiting_of (waits.NotFrom tick) = Waiting.NotFrom tick
waiting_of waits.NotWithin = Waiting.NotWithin ALWAYS_TICKS
waiting_of (waits.Unknown keeping) = waiting_unless keeping

-- whether the main of the process of this number waits in each of its windows
abbrev pub waits_answer : List Waits → ℕ → Answer → Answer
waits_answer ws p before = option_map_or (λ w. Answer.Waits (waiting_of w)) (slice_get ws p) before

-- the cycle, where one was found
abbrev pub cycle_told : Option Cycle → Repeating
cycle_told None = Repeating.NotWithin ALWAYS_TICKS
cycle_told (Some y) = Repeating.Every y.start y.length

abbrev pub repeating_by : Option ℕ → Option Cycle → Repeating
repeating_by (Some p) cycle = Repeating.ReadsTick p
repeating_by None cycle = cycle_told cycle

-- whether the run repeats; where no cycle was found, who read the tick last, if anybody did
abbrev pub repeating_of : RunTold → Repeating
repeating_of told = repeating_by told.reader told.cycle

abbrev pub answer_for : Always → Asked → Answer → Answer
answer_for a Asked.Nothing before = before
answer_for a (Asked.Waits p) before = waits_answer a.waits.items p before
answer_for a Asked.Repeats before = Answer.Repeats (repeating_of a.run)

abbrev pub decided_row : Always → AskedRow → Row
decided_row a asked = record { need = asked.row.need; answer = answer_for a asked.asked asked.row.answer }

-- a bound that holds where each process keeps to its slack, where each does
abbrev pub kept_answer : Bool → Answer → Answer
kept_answer true (Answer.IfKept b) = Answer.Tested b
kept_answer _ a = a

abbrev pub kept_row : Bool → Row → Row
kept_row kept row = record { need = row.need; answer = kept_answer kept row.answer }

abbrev pub is_if_kept_answer : Answer → Bool
is_if_kept_answer (Answer.IfKept b) = true
is_if_kept_answer _ = false

abbrev pub is_if_kept : Row → Bool
is_if_kept row = is_if_kept_answer row.answer

-- some row is of such a bound
abbrev pub has_if_kept : List Row → Bool
has_if_kept rows = list_any is_if_kept rows
