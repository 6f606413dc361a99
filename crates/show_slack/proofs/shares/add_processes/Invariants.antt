use Rattle.show_rows.specs.Lines.{AddsLines}
use Rattle.show_slack.specs.Slack.{IsProcessLine}
use Rattle.show_slack.proofs.shares.add_processes.Given as goal

-- the lines so far are added
abbrev pub invariant-loop-process : goal.invariant-loop-process
invariant-loop-process l = AddsLines (IsProcessLine l.form l.certified) l.process l.initial.out.items l.out.items
