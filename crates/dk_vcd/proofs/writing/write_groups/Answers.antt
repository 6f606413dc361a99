use Rattle.std.proofs.Common.{◌≡◌, ◌∙◌, ◌++◌, [], ◌∷◌, List, take, reverse, ap, sym, refl, subst, rules, append-nil}
use Rattle.std.specs.Prelude.{IsErr, None, flat_map}
use Rattle.dk_trace.specs.declared.Entry.{Entry}
use Rattle.dk_ledger.specs.Cuts.{entries_of}
use Rattle.dk_ledger.specs.Heading.{IsPrintable}
use Rattle.dk_ledger.proofs.NextItem.{if_ok}
use Rattle.dk_groups.specs.Groups.{groups}
use Rattle.dk_groups.proofs.Going.{comes_some, cut_short, cutting_on, on_ok, one_more, printable_on, stopped_behind}
use Rattle.dk_groups.proofs.InTurn.{next_behind}
use Rattle.dk_groups.proofs.Texts.{nothing_put}
use Rattle.dk_holds.specs.Holds.{AreHolders, holding}
use Rattle.dk_overrun_spans.specs.Overruns.{overruns}
use Rattle.dk_vcd.specs.Changes.{change_text, changes_text, overran_at}
use Rattle.dk_vcd.specs.Holders.{holder_before}
use Rattle.dk_vcd.proofs.Passing.{change_there, last_both, more_changes, whole_changes}
use Rattle.dk_vcd.proofs.writing.write_groups.Goals as goal

pub write_group-requires-clause-printable : goal.write_group-requires-clause-printable
write_group-requires-clause-printable g c =
    subst IsPrintable (sym c.header.ensures) (printable_on c.loop-next.next c.in-Some.group c.loop-next.reader c.in-Some.is c.loop-next.invariant.going_on)

pub next-requires : goal.next-requires
next-requires g c = cutting_on c.loop-next.next c.in-Some.group c.loop-next.reader c.in-Some.is c.loop-next.invariant.going_on

pub loop-next-init : goal.loop-next-init
loop-next-init g c = record {
  going_on = c.requires;
  written = λ j readable start held are. record {
    groups = [];
    comes = start;
    last = refl;
    holders = subst (λ (es : List Entry). AreHolders (reverse es) c.args.holders) (sym (append-nil (take c.args.reader.now.from j.entries))) held;
    appended = nothing_put (g.S.Sink.seen c.args.sink.now).written;
    faults = refl;
    same = refl;
  };
  from = refl;
  to = refl;
}

pub returns-in_err-write_group : goal.returns-in_err-write_group
returns-in_err-write_group g c = λ j readable start held are.
    let inv = c.loop-next.invariant in
    let w = inv.written j readable start held are in
    let h = j.heading in
    let one = c.in-Some.group in
    let past = reverse (take c.args.reader.now.from j.entries ++ flat_map entries_of w.groups) in
    let comes = comes_some j w.groups c.loop-next.next one c.loop-next.reader c.in-Some.is w.comes in
    let piece = change_text c.header.result.now (λ m. holding m past) c.within-overran.result c.loop-next.before one in
    let row : piece ≡ change_text h (holder_before j.entries one.start) (overran_at h j.entries one) c.loop-next.before one =
    change_there j w.groups c.loop-next.before one c.loop-next.reader c.header.result.now c.within-overran.result c.args.reader.now.from readable comes c.header.ensures (c.within-overran.ensures (overruns j.heading j.entries) are) inv.from in
    let parts = whole_changes j w.groups c.loop-next.before one c.loop-next.reader c.args.reader.now.from c.args.reader.now.to readable comes w.last inv.from inv.to in
    cut_short (changes_text h j.entries None (groups c.args.reader.now.from c.args.reader.now.to j.entries)) (changes_text h j.entries None w.groups)
    _ _ _ _ c.from_residual.result piece parts.0 c.from_residual.ensures.1 (parts.1 ∙ ap (λ t. changes_text h j.entries None w.groups ++ (t ++ parts.0)) (sym row))
    w.appended w.faults w.same (c.in_err-write_group.ensures past w.holders)

pub returns-in_err-next : goal.returns-in_err-next
returns-in_err-next g c = λ j readable start held are.
    let inv = c.loop-next.invariant in
    let w = inv.written j readable start held are in
    let h = j.heading in
    let one = c.in-Some.group in
    let past = reverse (take c.args.reader.now.from j.entries ++ flat_map entries_of w.groups) in
    let comes = comes_some j w.groups c.loop-next.next one c.loop-next.reader c.in-Some.is w.comes in
    let piece = change_text c.header.result.now (λ m. holding m past) c.within-overran.result c.loop-next.before one in
    let row : piece ≡ change_text h (holder_before j.entries one.start) (overran_at h j.entries one) c.loop-next.before one =
    change_there j w.groups c.loop-next.before one c.loop-next.reader c.header.result.now c.within-overran.result c.args.reader.now.from readable comes c.header.ensures (c.within-overran.ensures (overruns j.heading j.entries) are) inv.from in
    let parts = whole_changes j w.groups c.loop-next.before one c.loop-next.reader c.args.reader.now.from c.args.reader.now.to readable comes w.last inv.from inv.to in
    let fails : IsErr c.from_residual-in_err-next.result = search rules in
    stopped_behind (g.S.Sink.seen c.args.sink.now) _ _ _ c.in_ok-write_group.field-0 (changes_text h j.entries None w.groups) piece (change_text h (holder_before j.entries one.start) (overran_at h j.entries one) c.loop-next.before one)
    c.in_ok-write_group.was row w.appended (c.write_group.ensures past w.holders)
    c.from_residual-in_err-next.result (changes_text h j.entries None (groups c.args.reader.now.from c.args.reader.now.to j.entries)) parts.0 fails c.from_residual-in_err-next.ensures.1 parts.1 w.faults w.same

pub loop-next-preserved : goal.loop-next-preserved
loop-next-preserved g c =
    let inv = c.loop-next.invariant in
    let one = c.in-Some.group in
    let reader = c.loop-next.reader in
    let on = inv.going_on in
    let from = c.args.reader.now.from in
    let next_comes = if_ok c.next.result c.in_ok-next.next _ c.in_ok-next.was c.next.ensures.comes in
    record {
      going_on = (on.0, on.1, on.2 ++ one ∷ [], next_comes on.0 (on.2 ++ one ∷ []) on.1 (comes_some on.0 on.2 c.loop-next.next one reader c.in-Some.is on.3).0);
      written = λ j readable start held are.
          let w = inv.written j readable start held are in
          let h = j.heading in
          let past = reverse (take from j.entries ++ flat_map entries_of w.groups) in
          let comes = comes_some j w.groups c.loop-next.next one reader c.in-Some.is w.comes in
          let piece = change_text c.header.result.now (λ m. holding m past) c.within-overran.result c.loop-next.before one in
          let row : piece ≡ change_text h (holder_before j.entries one.start) (overran_at h j.entries one) c.loop-next.before one =
          change_there j w.groups c.loop-next.before one reader c.header.result.now c.within-overran.result from readable comes c.header.ensures (c.within-overran.ensures (overruns j.heading j.entries) are) inv.from in
          let wrote = c.write_group.ensures past w.holders in
          record {
            groups = w.groups ++ one ∷ [];
            comes = next_comes j (w.groups ++ one ∷ []) readable comes.0;
            last = sym (last_both None w.groups one);
            holders = next_behind (λ es. AreHolders (reverse es) c.loop-next.holders) (λ es. AreHolders (reverse es) c.step.new.self) j w.groups one reader from readable comes inv.from w.holders c.step.ensures;
            appended = one_more (g.S.Sink.seen c.args.sink.now) _ _ _ c.in_ok-write_group.field-0 (changes_text h j.entries None w.groups) piece (change_text h (holder_before j.entries one.start) (overran_at h j.entries one) c.loop-next.before one)
                c.in_ok-write_group.was row w.appended wrote (changes_text h j.entries None (w.groups ++ one ∷ [])) (more_changes h j.entries w.groups c.loop-next.before one w.last);
            faults = on_ok c.write_group.result c.in_ok-write_group.field-0 _ c.in_ok-write_group.was wrote.stays ∙ w.faults;
            same = wrote.same ∙ w.same;
          };
      from = c.next.ensures.from ∙ inv.from;
      to = c.next.ensures.to ∙ inv.to;
    }
