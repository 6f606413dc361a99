-- What needs ask of all ticks.
use Rattle.std.specs.Prelude.{ℕ, Bool, true, false, List, Option, Some, None, slice_get}
use Rattle.std.specs.List.{list_any}
use Rattle.std.specs.Option.{option_map_or}
use Rattle.dk_config.specs.Configuration.{Configuration}
use Rattle.dk_chain_report.specs.Finding.{process_named}
use Rattle.dk_needs.specs.declared.needs.Need.{Need}
use Rattle.dk_needs.specs.declared.needs.What.{What}
use Rattle.dk_needs_check.specs.declared.row.Answer.{Answer}
use Rattle.dk_needs_check.specs.declared.row.Reason.{Reason}
use Rattle.dk_needs_check.specs.declared.row.Row.{Row}
use Rattle.dk_needs_always.specs.declared.asking.Asked.{Asked}
use Rattle.dk_needs_always.specs.declared.asking.AskedRow.{AskedRow}

abbrev pub asks_for_ever : What → Bool
asks_for_ever (What.Always name) = true
asks_for_ever (What.Slack name each within) = true
asks_for_ever (What.Run overruns refused faults forever) = forever
asks_for_ever _ = false

abbrev pub is_for_ever : Need → Bool
is_for_ever need = asks_for_ever need.what

-- some need asks that a process waits in each of its windows, for slack, or that the run repeats for ever
abbrev pub asks_always : List Need → Bool
asks_always needs = list_any is_for_ever needs

-- of the process of this number, where there is one
abbrev pub asked_of : Option ℕ → Asked
asked_of None = Asked.Nothing
asked_of (Some p) = Asked.Waits p

abbrev pub asked_what : Configuration → What → Asked
asked_what c (What.Always name) = asked_of (process_named c name)
asked_what c (What.Run overruns refused faults forever) = Asked.Repeats
asked_what c _ = Asked.Nothing

-- a row that is decided asks nothing
abbrev pub asked_for : Configuration → What → Answer → Asked
asked_for c what (Answer.Open Reason.NotTested) = asked_what c what
asked_for c what _ = Asked.Nothing

abbrev pub asked_by : Configuration → List Need → Row → Asked
asked_by c needs row = option_map_or (λ need. asked_for c need.what row.answer) (slice_get needs row.need) Asked.Nothing

abbrev pub asked_row : Configuration → List Need → Row → AskedRow
asked_row c needs row = record { row = row; asked = asked_by c needs row }
