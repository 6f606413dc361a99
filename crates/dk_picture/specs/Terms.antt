-- What the thread of a row may use: so many ticks of each window of its process's level, in windows of its own level.
use Rattle.std.specs.Prelude.{ℕ, ◌==◌, ◌&&◌, Bool, false, List, Option, Some, None, find, if◌then◌else◌, slice_get}
use Rattle.std.specs.Option.{option_map_or}
use Rattle.dk_trace.specs.declared.ThreadId.{ThreadId}
use Rattle.dk_trace.specs.declared.Event.{Event}
use Rattle.dk_trace.specs.Entries.{thread_of}
use Rattle.dk_ledger.specs.declared.line.LedgerLine.{LedgerLine}
use Rattle.dk_ledger.specs.Heading.{Heading}
use Rattle.dk_picture.specs.declared.rows.Row.{Row}
use Rattle.dk_picture.specs.declared.rows.Row.TheVariants as row
use Rattle.dk_picture.specs.declared.terms.Terms.{Terms}
use Rattle.dk_picture.specs.Rows.{level_of}

abbrev pub budget_of : Heading → ℕ → ℕ
budget_of h p = option_map_or (λ line. line.budget) (slice_get h.processes p) 0

abbrev pub period_of : Heading → ℕ → ℕ
period_of h j = option_map_or (λ line. line.period) (slice_get h.levels j) 0

abbrev pub main_terms : Heading → ℕ → Terms
main_terms h p = record { budget = budget_of h p; period = period_of h (level_of h p); level = level_of h p }

-- ---- a child's are those with which it was made

abbrev pub creates : ℕ → Option Event → Bool
creates serial (Some (Event.Create s level quota)) = s == serial
creates serial _ = false

abbrev pub is_of_process : ℕ → Option ThreadId → Bool
is_of_process p None = false
is_of_process p (Some x) = x.process == p

-- whether it is the line of its process that makes the child
abbrev pub makes : ThreadId → LedgerLine → Bool
makes x g = is_of_process x.process (thread_of g.label) && creates x.serial g.event

-- by its process's period
abbrev pub terms_by : ℕ → Option Event → Option Terms
terms_by period (Some (Event.Create serial level quota)) = Some (record { budget = quota; period = period; level = level })
terms_by period _ = None

abbrev pub child_terms : ℕ → Option LedgerLine → Option Terms
child_terms period None = None
child_terms period (Some g) = terms_by period g.event

abbrev pub thread_terms : Heading → List LedgerLine → ThreadId → Option Terms
thread_terms h ms x = if x.serial == 0 then Some (main_terms h x.process) else child_terms (period_of h (level_of h x.process)) (find (makes x) ms)

abbrev pub terms_of : Heading → List LedgerLine → Row → Option Terms
terms_of h ms (row.Thread x) = thread_terms h ms x
terms_of h ms _ = None
