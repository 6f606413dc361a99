use Rattle.std.proofs.Common.{◌++◌, ap, sym, rules}
use Rattle.std.specs.Prelude.{IsErr}
use Rattle.dk_outside.proofs.WrittenLemmas.{first_fails, second_ends}
use Rattle.dk_trace_events.specs.Slices.{event_lines, group_text}
use Rattle.dk_trace_events.proofs.slices.write_group.Goals as goal

pub returns-in_err-write_to : goal.returns-in_err-write_to
returns-in_err-write_to g c =
    let behind = event_lines c.args.group c.args.group.event in
    let fails : IsErr c.from_residual.result = search rules in
    first_fails c.slice_of.result behind (group_text c.args.header.now c.args.group)
    (ap (λ t. t ++ behind) (sym c.slice_of.ensures)) _ _ _ c.from_residual.result fails c.in_err-write_to.ensures

pub returns : goal.returns
returns g c =
    let behind = event_lines c.args.group c.args.group.event in
    second_ends c.slice_of.result behind (group_text c.args.header.now c.args.group)
    (ap (λ t. t ++ behind) (sym c.slice_of.ensures)) _ _ _ _ c.write_event.result c.in_ok-write_to.ensures c.write_event.ensures
