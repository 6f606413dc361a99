-- The numbers of a report, counted over a list of entries.
use Rattle.std.specs.Prelude.{ℕ, zero, suc, ◌≡◌, ◌+◌, ◌==◌, ◌||◌, Bool, true, false, List, length, map, filter, count_by, min, Option, Some, if◌then◌else◌, slice_set, slice_index_or}
use Rattle.std.specs.Option.{option_map_or}
use Rattle.dk_config.specs.Sums.{below}
use Rattle.dk_trace.specs.declared.Label.{Label}
use Rattle.dk_trace.specs.declared.Source.{Source}
use Rattle.dk_trace.specs.declared.Event.{Event}
use Rattle.dk_trace.specs.declared.Entry.{Entry}
use Rattle.dk_trace.specs.Entries.{thread_of, has_event, is_kernel_at}
use Rattle.dk_report.specs.declared.counting.ProcessTotals.{ProcessTotals}

abbrev pub is_kernel : Label → Bool
is_kernel (Label.Kernel j) = true
is_kernel _ = false

abbrev pub is_in : Label → Bool
is_in (Label.In x) = true
is_in _ = false

abbrev pub is_run : Label → Bool
is_run (Label.Run x) = true
is_run _ = false

abbrev pub is_call : Label → Bool
is_call (Label.Call x) = true
is_call _ = false

abbrev pub is_out : Label → Bool
is_out (Label.Out x) = true
is_out _ = false

abbrev pub is_idle : Label → Bool
is_idle Label.Idle = true
is_idle _ = false

abbrev pub is_timeline : Label → Bool
is_timeline (Label.Slack x Source.Timeline work) = true
is_timeline _ = false

abbrev pub is_reclaimed : Label → Bool
is_reclaimed (Label.Slack x (Source.Reclaimed j) work) = true
is_reclaimed _ = false

abbrev pub is_create : Event → Bool
is_create (Event.Create serial level quota) = true
is_create _ = false

abbrev pub is_refused : Event → Bool
is_refused (Event.Refused refusal) = true
is_refused _ = false

abbrev pub is_fault : Event → Bool
is_fault (Event.Fault kind) = true
is_fault _ = false

-- how many of the entries have a label of a kind
abbrev pub labelled : (Label → Bool) → List Entry → ℕ
labelled test es = count_by (λ e. test e.label) es

-- the numbers of a process, counted over the entries of its threads
abbrev pub tally_of : List Entry → ProcessTotals
tally_of es = record {
  ins = labelled is_in es;
  runs = labelled is_run es;
  calls = labelled is_call es;
  outs = labelled is_out es;
  timeline = labelled is_timeline es;
  reclaimed = labelled is_reclaimed es;
  created = count_by (has_event is_create) es;
  refused = count_by (has_event is_refused) es;
  faults = count_by (has_event is_fault) es;
}

-- whether the entry is of a thread of the process
abbrev pub is_of_process : ℕ → Entry → Bool
is_of_process p e = option_map_or (λ x. x.process == p) (thread_of e.label) false

pub record Numbers : Type 0 where
  pub entries : ℕ
  pub kernel : ℕ
  pub switch : ℕ
  pub body : ℕ
  pub slack : ℕ
  pub idle : ℕ
  pub levels : List ℕ
  pub processes : List ProcessTotals

-- the numbers of so many levels and processes
abbrev pub numbers_of : ℕ → ℕ → List Entry → Numbers
numbers_of levels processes es = record {
  entries = length es;
  kernel = labelled is_kernel es;
  switch = labelled (λ l. is_in l || is_out l) es;
  body = labelled (λ l. is_run l || is_call l) es;
  slack = labelled (λ l. is_timeline l || is_reclaimed l) es;
  idle = labelled is_idle es;
  levels = map (λ j. count_by (is_kernel_at j) es) (below levels);
  processes = map (λ p. tally_of (filter (is_of_process p) es)) (below processes);
}

-- these are the numbers of the list
abbrev pub StandsFor : Numbers → List Entry → Type 0
StandsFor n es = n ≡ numbers_of (length n.levels) (length n.processes) es

-- so many more where the test holds, up to the last value of 32 bits
abbrev pub counted_for : ℕ → Bool → ℕ → ℕ
counted_for k b n = if b then (min (n + k) 4294967295) else n

-- one more where it holds
abbrev pub counted : Bool → ℕ → ℕ
counted b n = counted_for 1 b n

-- with so many more of a label
abbrev pub with_label_for : ℕ → ProcessTotals → Label → ProcessTotals
with_label_for k t l = record t {
  ins = counted_for k (is_in l) t.ins;
  runs = counted_for k (is_run l) t.runs;
  calls = counted_for k (is_call l) t.calls;
  outs = counted_for k (is_out l) t.outs;
  timeline = counted_for k (is_timeline l) t.timeline;
  reclaimed = counted_for k (is_reclaimed l) t.reclaimed;
}

abbrev pub with_label : ProcessTotals → Label → ProcessTotals
with_label t l = with_label_for 1 t l

abbrev pub with_event : ProcessTotals → Option Event → ProcessTotals
with_event t o = record t {
  created = counted (option_map_or is_create o false) t.created;
  refused = counted (option_map_or is_refused o false) t.refused;
  faults = counted (option_map_or is_fault o false) t.faults;
}

abbrev pub with_entry : ProcessTotals → Entry → ProcessTotals
with_entry t e = with_event (with_label t e.label) e.event

-- what is counted by level, with so many more of a label
abbrev pub with_kernel_for : ℕ → List ℕ → Label → List ℕ
with_kernel_for k ns (Label.Kernel j) = slice_set ns j (counted_for k true (slice_index_or ns j 0))
with_kernel_for k ns _ = ns

abbrev pub with_kernel : List ℕ → Label → List ℕ
with_kernel ns l = with_kernel_for 1 ns l

abbrev pub no_totals : ProcessTotals
no_totals =
    record { ins = 0; runs = 0; calls = 0; outs = 0; timeline = 0; reclaimed = 0; created = 0; refused = 0; faults = 0 }

abbrev pub with_thread : List ProcessTotals → Entry → List ProcessTotals
with_thread ts e =
    option_map_or (λ x. slice_set ts x.process (with_entry (slice_index_or ts x.process no_totals) e))
    (thread_of e.label) ts

-- what is counted by process, with so many more of a label
abbrev pub with_thread_label_for : ℕ → List ProcessTotals → Label → List ProcessTotals
with_thread_label_for k ts l =
    option_map_or (λ x. slice_set ts x.process (with_label_for k (slice_index_or ts x.process no_totals) l)) (thread_of l)
    ts

abbrev pub with_thread_label : List ProcessTotals → Label → List ProcessTotals
with_thread_label ts l = with_thread_label_for 1 ts l

-- what is counted by process, with one more event of the label's thread
abbrev pub with_thread_event : List ProcessTotals → Label → Event → List ProcessTotals
with_thread_event ts l event =
    option_map_or (λ x. slice_set ts x.process (with_event (slice_index_or ts x.process no_totals) (Some event)))
    (thread_of l) ts

-- the numbers after one more entry
abbrev pub added : Numbers → Entry → Numbers
added n e = record {
  entries = counted true n.entries;
  kernel = counted (is_kernel e.label) n.kernel;
  switch = counted (is_in e.label || is_out e.label) n.switch;
  body = counted (is_run e.label || is_call e.label) n.body;
  slack = counted (is_timeline e.label || is_reclaimed e.label) n.slack;
  idle = counted (is_idle e.label) n.idle;
  levels = with_kernel n.levels e.label;
  processes = with_thread n.processes e;
}

-- the numbers after so many more of an entry
abbrev pub added_for : ℕ → Numbers → Entry → Numbers
added_for zero n e = n
added_for (suc k) n e = added (added_for k n e) e
