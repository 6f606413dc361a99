use Rattle.std.proofs.Common.{◌∙◌, ◌++◌, [], ◌∷◌, ap, sym, subst, rules}
use Rattle.std.specs.Prelude.{IsErr}
use Rattle.dk_ledger.specs.Heading.{IsPrintable}
use Rattle.dk_ledger.proofs.NextItem.{if_ok}
use Rattle.dk_groups.specs.Groups.{groups}
use Rattle.dk_groups.proofs.Going.{comes_some, cut_short, cutting_on, on_ok, one_more, printable_on, stopped_behind}
use Rattle.dk_groups.proofs.Texts.{more_text, whole_text}
use Rattle.dk_overrun_spans.specs.Overruns.{overruns}
use Rattle.dk_csv.specs.Rows.{group_fields, record_text, rows_text}
use Rattle.dk_csv.proofs.TableLemmas.{row_of_next}
use Rattle.dk_csv.proofs.writing.write_rows.Goals as goal

pub row_of-requires-clause-printable : goal.row_of-requires-clause-printable
row_of-requires-clause-printable g c =
    subst IsPrintable (sym c.header.ensures) (printable_on c.loop-next.next c.in-Some.group c.loop-next.reader c.in-Some.is c.loop-next.invariant.going_on)

pub next-requires : goal.next-requires
next-requires g c = cutting_on c.loop-next.next c.in-Some.group c.loop-next.reader c.in-Some.is c.loop-next.invariant.going_on

pub returns-in_err-write_to : goal.returns-in_err-write_to
returns-in_err-write_to g c = λ j readable start are.
    let inv = c.loop-next.invariant in
    let w = inv.written j readable start are in
    let group = c.in-Some.group in
    let comes = comes_some j w.groups c.loop-next.next group c.loop-next.reader c.in-Some.is w.comes in
    let row = row_of_next j w.groups group c.loop-next.reader readable comes c.header.result.now (overruns j.heading j.entries) c.within-overran.result c.row_of.result c.header.ensures (c.within-overran.ensures (overruns j.heading j.entries) are) c.row_of.ensures.text in
    let parts = whole_text (λ k. record_text (group_fields j.heading (overruns j.heading j.entries) k)) j w.groups group c.loop-next.reader c.args.reader.now.from c.args.reader.now.to readable comes inv.from inv.to in
    cut_short (rows_text j.heading (overruns j.heading j.entries) (groups c.args.reader.now.from c.args.reader.now.to j.entries)) (rows_text j.heading (overruns j.heading j.entries) w.groups)
    _ _ _ _ c.from_residual.result (c.row_of.result ++ 10 ∷ []) parts.0 c.from_residual.ensures.1 (parts.1 ∙ ap (λ t. rows_text j.heading (overruns j.heading j.entries) w.groups ++ (t ++ parts.0)) (sym row))
    w.appended inv.faults inv.capacity c.in_err-write_to.ensures

pub returns-in_err-next : goal.returns-in_err-next
returns-in_err-next g c = λ j readable start are.
    let inv = c.loop-next.invariant in
    let w = inv.written j readable start are in
    let group = c.in-Some.group in
    let comes = comes_some j w.groups c.loop-next.next group c.loop-next.reader c.in-Some.is w.comes in
    let row = row_of_next j w.groups group c.loop-next.reader readable comes c.header.result.now (overruns j.heading j.entries) c.within-overran.result c.row_of.result c.header.ensures (c.within-overran.ensures (overruns j.heading j.entries) are) c.row_of.ensures.text in
    let parts = whole_text (λ k. record_text (group_fields j.heading (overruns j.heading j.entries) k)) j w.groups group c.loop-next.reader c.args.reader.now.from c.args.reader.now.to readable comes inv.from inv.to in
    let fails : IsErr c.from_residual-in_err-next.result = search rules in
    stopped_behind (g.S.Sink.seen c.args.sink.now) _ _ _ c.in_ok-write_to.field-0 (rows_text j.heading (overruns j.heading j.entries) w.groups) _ (record_text (group_fields j.heading (overruns j.heading j.entries) group)) c.in_ok-write_to.was row w.appended c.write_to.ensures
    c.from_residual-in_err-next.result (rows_text j.heading (overruns j.heading j.entries) (groups c.args.reader.now.from c.args.reader.now.to j.entries)) parts.0 fails c.from_residual-in_err-next.ensures.1 parts.1 inv.faults inv.capacity

pub loop-next-preserved : goal.loop-next-preserved
loop-next-preserved g c =
    let inv = c.loop-next.invariant in
    let group = c.in-Some.group in
    let reader = c.loop-next.reader in
    let on = inv.going_on in
    let next_comes = if_ok c.next.result c.in_ok-next.next _ c.in_ok-next.was c.next.ensures.comes in
    record {
      going_on = (on.0, on.1, on.2 ++ group ∷ [], next_comes on.0 (on.2 ++ group ∷ []) on.1 (comes_some on.0 on.2 c.loop-next.next group reader c.in-Some.is on.3).0);
      written = λ j readable start are.
          let w = inv.written j readable start are in
          let comes = comes_some j w.groups c.loop-next.next group reader c.in-Some.is w.comes in
          let row = row_of_next j w.groups group reader readable comes c.header.result.now (overruns j.heading j.entries) c.within-overran.result c.row_of.result c.header.ensures (c.within-overran.ensures (overruns j.heading j.entries) are) c.row_of.ensures.text in
          record {
            groups = w.groups ++ group ∷ [];
            comes = next_comes j (w.groups ++ group ∷ []) readable comes.0;
            appended = one_more (g.S.Sink.seen c.args.sink.now) _ _ _ c.in_ok-write_to.field-0 (rows_text j.heading (overruns j.heading j.entries) w.groups) _ (record_text (group_fields j.heading (overruns j.heading j.entries) group)) c.in_ok-write_to.was row w.appended c.write_to.ensures
                (rows_text j.heading (overruns j.heading j.entries) (w.groups ++ group ∷ [])) (more_text (λ k. record_text (group_fields j.heading (overruns j.heading j.entries) k)) w.groups group);
          };
      faults = on_ok c.write_to.result c.in_ok-write_to.field-0 _ c.in_ok-write_to.was c.write_to.ensures.stays ∙ inv.faults;
      capacity = c.write_to.ensures.same ∙ inv.capacity;
      from = c.next.ensures.from ∙ inv.from;
      to = c.next.ensures.to ∙ inv.to;
    }
