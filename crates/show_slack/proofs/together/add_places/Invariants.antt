use Rattle.show_rows.specs.Lines.{AddsLines}
use Rattle.show_slack.specs.Allotted.{IsPlaceLine}
use Rattle.show_slack.proofs.together.add_places.Given as goal

-- the lines so far are added
abbrev pub invariant-loop-level : goal.invariant-loop-level
invariant-loop-level l = AddsLines (IsPlaceLine l.form l.certified l.allotments) l.level l.initial.out.items l.out.items
