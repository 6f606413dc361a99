-- Whose some ticks were. Their entries are a list, the newest first.
use Rattle.std.specs.Prelude.{ℕ, Bool, true, false, List}
use Rattle.dk_trace.specs.declared.Label.{Label}
use Rattle.dk_trace.specs.declared.Entry.{Entry}
use Rattle.dk_report.specs.Counts.{is_call, is_idle, is_in, is_kernel, is_out, is_run, labelled}
use Rattle.dk_cycle_counts.specs.declared.totals.CycleTotals.{CycleTotals}
use Rattle.dk_cycle_counts.specs.Process.{added_if}

-- a thread had the tick on slack, from either source
abbrev pub is_slack : Label → Bool
is_slack (Label.Slack x source work) = true
is_slack _ = false

-- how many of the entries have a label of each kind
abbrev pub totals_of : List Entry → CycleTotals
totals_of es = record {
  ins = labelled is_in es;
  runs = labelled is_run es;
  calls = labelled is_call es;
  outs = labelled is_out es;
  slack = labelled is_slack es;
  kernel = labelled is_kernel es;
  idle = labelled is_idle es;
}

-- with so many entries more that have the label
abbrev pub totals_with : Label → ℕ → CycleTotals → CycleTotals
totals_with label n t = record {
  ins = added_if (is_in label) n t.ins;
  runs = added_if (is_run label) n t.runs;
  calls = added_if (is_call label) n t.calls;
  outs = added_if (is_out label) n t.outs;
  slack = added_if (is_slack label) n t.slack;
  kernel = added_if (is_kernel label) n t.kernel;
  idle = added_if (is_idle label) n t.idle;
}
