-- What a process did in some ticks. Their entries are a list, the newest first.
use Rattle.std.specs.Prelude.{ℕ, ◌+◌, ◌&&◌, ◌==◌, min, if◌then◌else◌, Bool, false, List, count_by}
use Rattle.std.specs.Option.{option_map_or}
use Rattle.dk_trace.specs.declared.Label.{Label}
use Rattle.dk_trace.specs.declared.Entry.{Entry}
use Rattle.dk_trace.specs.Entries.{borrower, has_event, quiet}
use Rattle.dk_report.specs.Counts.{is_fault, is_of_process, is_refused}
use Rattle.dk_window_report.specs.Owners.{Owner}
use Rattle.dk_window_report.specs.Rows.{raised_if, row_of, stepped}
use Rattle.dk_window_report.specs.Passing.{gone_by}
use Rattle.dk_cycle_counts.specs.declared.process.MainShare.{MainShare}
use Rattle.dk_cycle_counts.specs.declared.process.ProcessUse.{ProcessUse}
use Rattle.dk_cycle_counts.specs.Begins.{begins_gone_by, begins_of, begins_with}

-- the main of the process, whose first window begins with the first of the ticks
abbrev pub main_owner : MainShare → Owner
main_owner m = record { id = record { process = m.process; serial = 0 }; period = m.period; since = 0 }

-- a thread of the process had slack
abbrev pub has_slack : ℕ → Entry → Bool
has_slack p e = option_map_or (λ x. x.process == p) (borrower e.label) false

-- a call of a thread of the process was refused
abbrev pub has_refused : ℕ → Entry → Bool
has_refused p e = is_of_process p e && has_event is_refused e

-- a thread of the process faulted
abbrev pub has_fault : ℕ → Entry → Bool
has_fault p e = is_of_process p e && has_event is_fault e

-- what the process did in the ticks with these entries
abbrev pub use_of : MainShare → List Entry → ProcessUse
use_of m es = record {
  main = row_of es (main_owner m);
  begins = begins_of (main_owner m).id m.period es;
  budget = m.budget;
  slack = count_by (has_slack m.process) es;
  refused = count_by (has_refused m.process) es;
  faults = count_by (has_fault m.process) es;
}

-- with the entry of one more tick, behind so many
abbrev pub use_with : ℕ → Entry → ProcessUse → ProcessUse
use_with ticks e u = record {
  main = stepped ticks e u.main;
  begins = begins_with ticks e u.main u.begins;
  budget = u.budget;
  slack = raised_if (has_slack u.main.thread.process e) u.slack;
  refused = raised_if (has_refused u.main.thread.process e) u.refused;
  faults = raised_if (has_fault u.main.thread.process e) u.faults;
}

-- so many more where it holds, up to the last value of 32 bits
abbrev pub added_if : Bool → ℕ → ℕ → ℕ
added_if b n k = if b then min (k + n) 4294967295 else k

-- with so many ticks more, behind so many, that all have the label and no event
abbrev pub use_gone_by : ℕ → Label → ℕ → ProcessUse → ProcessUse
use_gone_by ticks label n u = record {
  main = gone_by (quiet label) ticks n u.main;
  begins = begins_gone_by ticks label n u.main u.begins;
  budget = u.budget;
  slack = added_if (has_slack u.main.thread.process (quiet label)) n u.slack;
  refused = u.refused;
  faults = u.faults;
}
