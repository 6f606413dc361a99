use Rattle.std.proofs.Common.{◌≡◌, ◌∙◌, ◌++◌, [], ◌∷◌, ap, refl, sym, subst, rules, arith}
use Rattle.std.specs.Prelude.{IsErr}
use Rattle.dk_ledger.specs.Heading.{IsPrintable}
use Rattle.dk_ledger.proofs.NextItem.{if_ok}
use Rattle.dk_groups.specs.Groups.{groups}
use Rattle.dk_groups.proofs.Going.{all_put, comes_none, comes_some, cut_short, cutting_on, on_ok, one_more, printable_on, stopped_behind}
use Rattle.dk_groups.proofs.Texts.{nothing_put}
use Rattle.dk_trace_events.specs.Slices.{group_objects}
use Rattle.dk_trace_events.specs.SlackPoints.{is_reclaimed, is_timeline}
use Rattle.dk_trace_events.specs.Traces.{objects_text}
use Rattle.dk_trace_events.proofs.SlackCounts.{few}
use Rattle.dk_trace_events.proofs.Texts.{all_behind, one_behind}
use Rattle.dk_trace_events.proofs.slices.write_each.Goals as goal

pub with_group-more-requires-clause-some : goal.with_group-more-requires-clause-some
with_group-more-requires-clause-some g c =
    let on = c.loop-next.invariant.going_on in
    (comes_some on.0 on.2 c.loop-next.next c.in-Some.group c.loop-next.reader c.in-Some.is on.3).2.some

pub with_group-more-requires-clause-timeline : goal.with_group-more-requires-clause-timeline
with_group-more-requires-clause-timeline g c =
    let on = c.loop-next.invariant.going_on in
    let comes = comes_some on.0 on.2 c.loop-next.next c.in-Some.group c.loop-next.reader c.in-Some.is on.3 in
    let same = ap (λ s. s.timeline) on.4 in
    let most = few is_timeline on.0 on.2 c.in-Some.group c.loop-next.reader on.1 comes.0 comes.2.some in
    omega (arith, same, most)

pub with_group-more-requires-clause-reclaimed : goal.with_group-more-requires-clause-reclaimed
with_group-more-requires-clause-reclaimed g c =
    let on = c.loop-next.invariant.going_on in
    let comes = comes_some on.0 on.2 c.loop-next.next c.in-Some.group c.loop-next.reader c.in-Some.is on.3 in
    let same = ap (λ s. s.reclaimed) on.4 in
    let most = few is_reclaimed on.0 on.2 c.in-Some.group c.loop-next.reader on.1 comes.0 comes.2.some in
    omega (arith, same, most)

pub write_counted-requires-clause-printable : goal.write_counted-requires-clause-printable
write_counted-requires-clause-printable g c =
    let on = c.loop-next.invariant.going_on in
    subst IsPrintable (sym c.header.ensures) (printable_on c.loop-next.next c.in-Some.group c.loop-next.reader c.in-Some.is (on.0, on.1, on.2, on.3))

pub next-requires : goal.next-requires
next-requires g c =
    let on = c.loop-next.invariant.going_on in
    cutting_on c.loop-next.next c.in-Some.group c.loop-next.reader c.in-Some.is (on.0, on.1, on.2, on.3)

pub returns-in_err-write_counted : goal.returns-in_err-write_counted
returns-in_err-write_counted g c = λ j readable start.
    let inv = c.loop-next.invariant in
    let told = inv.written j readable start in
    let w = told.0 in
    let one = c.in-Some.group in
    let comes = comes_some j w.groups c.loop-next.next one c.loop-next.reader c.in-Some.is w.comes in
    let piece = group_objects c.header.result.now w.groups one in
    let row : piece ≡ group_objects j.heading w.groups one = ap (λ h. group_objects h w.groups one) (c.header.ensures ∙ comes.1) in
    let parts = all_behind (group_objects j.heading) j w.groups one c.loop-next.reader c.args.reader.now.from c.args.reader.now.to readable comes inv.from inv.to in
    cut_short (objects_text j.heading (groups c.args.reader.now.from c.args.reader.now.to j.entries)) (objects_text j.heading w.groups)
    _ _ _ _ c.from_residual.result piece parts.0 c.from_residual.ensures.1 (parts.1 ∙ ap (λ t. objects_text j.heading w.groups ++ (t ++ parts.0)) (sym row))
    w.appended inv.faults inv.capacity (c.in_err-write_counted.ensures w.groups told.1 (c.with_group-more.ensures w.groups told.1))

pub returns-in_err-next : goal.returns-in_err-next
returns-in_err-next g c = λ j readable start.
    let inv = c.loop-next.invariant in
    let told = inv.written j readable start in
    let w = told.0 in
    let one = c.in-Some.group in
    let comes = comes_some j w.groups c.loop-next.next one c.loop-next.reader c.in-Some.is w.comes in
    let piece = group_objects c.header.result.now w.groups one in
    let row : piece ≡ group_objects j.heading w.groups one = ap (λ h. group_objects h w.groups one) (c.header.ensures ∙ comes.1) in
    let parts = all_behind (group_objects j.heading) j w.groups one c.loop-next.reader c.args.reader.now.from c.args.reader.now.to readable comes inv.from inv.to in
    let wrote = c.write_counted.ensures w.groups told.1 (c.with_group-more.ensures w.groups told.1) in
    let fails : IsErr c.from_residual-in_err-next.result = search rules in
    stopped_behind (g.S.Sink.seen c.args.sink.now) _ _ _ c.in_ok-write_counted.field-0 (objects_text j.heading w.groups) piece (group_objects j.heading w.groups one) c.in_ok-write_counted.was row w.appended wrote
    c.from_residual-in_err-next.result (objects_text j.heading (groups c.args.reader.now.from c.args.reader.now.to j.entries)) parts.0 fails c.from_residual-in_err-next.ensures.1 parts.1 inv.faults inv.capacity

pub loop-next-preserved : goal.loop-next-preserved
loop-next-preserved g c =
    let inv = c.loop-next.invariant in
    let one = c.in-Some.group in
    let reader = c.loop-next.reader in
    let on = inv.going_on in
    let next_comes = if_ok c.next.result c.in_ok-next.next _ c.in_ok-next.was c.next.ensures.comes in
    let own = c.write_counted.ensures on.2 on.4 (c.with_group-more.ensures on.2 on.4) in
    record {
      going_on = (
        on.0,
        on.1,
        on.2 ++ one ∷ [],
        next_comes on.0 (on.2 ++ one ∷ []) on.1 (comes_some on.0 on.2 c.loop-next.next one reader c.in-Some.is on.3).0,
        c.with_group-more.ensures on.2 on.4,
      );
      written = λ j readable start.
          let told = inv.written j readable start in
          let w = told.0 in
          let comes = comes_some j w.groups c.loop-next.next one reader c.in-Some.is w.comes in
          let piece = group_objects c.header.result.now w.groups one in
          let row : piece ≡ group_objects j.heading w.groups one = ap (λ h. group_objects h w.groups one) (c.header.ensures ∙ comes.1) in
          let more = c.with_group-more.ensures w.groups told.1 in (
            record {
              groups = w.groups ++ one ∷ [];
              comes = next_comes j (w.groups ++ one ∷ []) readable comes.0;
              appended = one_more (g.S.Sink.seen c.args.sink.now) _ _ _ c.in_ok-write_counted.field-0 (objects_text j.heading w.groups) piece (group_objects j.heading w.groups one) c.in_ok-write_counted.was row w.appended
                  (c.write_counted.ensures w.groups told.1 more) (objects_text j.heading (w.groups ++ one ∷ [])) (one_behind (group_objects j.heading) w.groups one);
            },
            more,
          );
      faults = on_ok c.write_counted.result c.in_ok-write_counted.field-0 _ c.in_ok-write_counted.was own.stays ∙ inv.faults;
      capacity = own.same ∙ inv.capacity;
      from = c.next.ensures.from ∙ inv.from;
      to = c.next.ensures.to ∙ inv.to;
    }

pub loop-next-init : goal.loop-next-init
loop-next-init g c =
    let start = c.requires in
    record {
      going_on = (start.0, start.1, [], start.2, c.none-used.ensures);
      written = λ j readable first. (record { groups = []; comes = first; appended = nothing_put (g.S.Sink.seen c.args.sink.now).written }, c.none-used.ensures);
      faults = refl;
      capacity = refl;
      from = refl;
      to = refl;
    }

pub returns : goal.returns
returns g c = λ j readable start.
    let inv = c.loop-next.invariant in
    let w = (inv.written j readable start).0 in
    let reader = c.loop-next.reader in
    let all = comes_none j w.groups c.loop-next.next reader c.in_default.is w.comes
    ∙ ap (λ n. groups n reader.to j.entries) inv.from ∙ ap (λ n. groups c.args.reader.now.from n j.entries) inv.to in
    all_put (objects_text j.heading (groups c.args.reader.now.from c.args.reader.now.to j.entries)) (objects_text j.heading w.groups)
    (g.S.Sink.seen c.args.sink.now) (g.S.Sink.seen c.loop-next.sink) _ (sym (ap (objects_text j.heading) all)) w.appended inv.faults inv.capacity
