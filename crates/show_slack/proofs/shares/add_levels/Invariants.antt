use Rattle.show_rows.specs.Lines.{AddsLines}
use Rattle.show_slack.specs.Slack.{IsLevelLine}
use Rattle.show_slack.proofs.shares.add_levels.Given as goal

-- the lines so far are added
abbrev pub invariant-loop-level : goal.invariant-loop-level
invariant-loop-level l = AddsLines (IsLevelLine l.form l.certified) l.level l.initial.out.items l.out.items
