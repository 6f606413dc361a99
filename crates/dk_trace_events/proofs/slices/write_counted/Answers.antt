use Rattle.std.proofs.Common.{◌∙◌, ◌+◌, ◌++◌, [], ◌∷◌, ap, refl, sym, rules}
use Rattle.std.specs.Prelude.{IsErr}
use Rattle.dk_outside.proofs.WrittenLemmas.{first_fails, second_ends}
use Rattle.dk_trace_events.specs.declared.slack.SlackUsed.{SlackUsed}
use Rattle.dk_trace_events.specs.SlackPoints.{point_where, slack_in, slack_point}
use Rattle.dk_trace_events.specs.Slices.{group_objects, group_text}
use Rattle.dk_trace_events.proofs.slices.write_counted.Goals as goal

pub returns-in_err-write_group : goal.returns-in_err-write_group
returns-in_err-write_group g c = λ before old new.
    let h = c.args.header.now in
    let one = c.args.group in
    let fails : IsErr c.from_residual.result = search rules in
    first_fails (group_text h one) (slack_point before one) (group_objects h before one) refl
    _ _ _ c.from_residual.result fails c.in_err-write_group.ensures

pub returns : goal.returns
returns g c = λ before old new.
    let h = c.args.header.now in
    let one = c.args.group in
    let tick = one.start + one.count in
    second_ends (group_text h one) (point_where tick c.args.old c.args.new) (group_objects h before one)
    (ap (λ (s : SlackUsed). group_text h one ++ point_where tick s (slack_in (before ++ one ∷ []))) (sym old)
    ∙ ap (λ (s : SlackUsed). group_text h one ++ point_where tick c.args.old s) (sym new))
    _ _ _ _ c.write_point.result c.in_ok-write_group.ensures c.write_point.ensures
