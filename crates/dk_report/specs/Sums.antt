-- The sums of a report, over all levels and processes.
use Rattle.std.specs.Prelude.{ℕ, ◌+◌, List, min, sum, sum_by}
use Rattle.dk_report.specs.declared.counting.ProcessTotals.{ProcessTotals}
use Rattle.dk_report.specs.declared.sums.Sums.{Sums}
use Rattle.dk_report.specs.Counts.{Numbers}

-- up to the last value of 32 bits
abbrev pub capped : ℕ → ℕ
capped n = min n 4294967295

abbrev pub kernel_of : List ℕ → ℕ
kernel_of ticks = capped (sum ticks)

abbrev pub switch_of : List ProcessTotals → ℕ
switch_of ts = capped (sum_by (λ t. t.ins + t.outs) ts)

abbrev pub body_of : List ProcessTotals → ℕ
body_of ts = capped (sum_by (λ t. t.runs + t.calls) ts)

abbrev pub slack_of : List ProcessTotals → ℕ
slack_of ts = capped (sum_by (λ t. t.timeline + t.reclaimed) ts)

-- the numbers with these counts of nobody, by level and by process
abbrev pub numbers_with : ℕ → List ℕ → List ProcessTotals → Numbers
numbers_with idle ticks ts = record {
  entries = capped (kernel_of ticks + (switch_of ts + body_of ts + slack_of ts) + idle);
  kernel = kernel_of ticks;
  switch = switch_of ts;
  body = body_of ts;
  slack = slack_of ts;
  idle = idle;
  levels = ticks;
  processes = ts;
}

abbrev pub sums_of : Numbers → Sums
sums_of n = record {
  entries = n.entries;
  kernel = n.kernel;
  switch = n.switch;
  body = n.body;
  slack = n.slack;
  idle = n.idle;
}
