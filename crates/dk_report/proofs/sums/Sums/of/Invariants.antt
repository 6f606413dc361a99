use Rattle.std.proofs.Common.{◌≡◌, take}
use Rattle.dk_report.specs.Sums.{switch_of, body_of, slack_of}
use Rattle.dk_report.proofs.sums.Sums.of.Given as goal

abbrev pub invariant-loop-process : goal.invariant-loop-process
invariant-loop-process l = record {
  switch : l.switch ≡ switch_of (take l.process l.processes);
  body : l.body ≡ body_of (take l.process l.processes);
  slack : l.slack ≡ slack_of (take l.process l.processes);
}
