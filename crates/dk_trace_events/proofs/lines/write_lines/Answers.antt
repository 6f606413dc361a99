use Rattle.std.proofs.Common.{List, ◌∙◌, ◌++◌, [], ◌∷◌, reverse, ap, refl, sym, subst, rules, arith}
use Rattle.std.specs.Prelude.{IsErr}
use Rattle.dk_ledger.specs.Heading.{Heading}
use Rattle.dk_ledger.specs.LineText.{IsNamed}
use Rattle.dk_ledger.proofs.NextItem.{if_ok}
use Rattle.dk_groups.specs.Groups.{groups}
use Rattle.dk_groups.proofs.Going.{all_put, comes_none, comes_some, cut_short, on_ok, one_more, stopped_behind}
use Rattle.dk_groups.proofs.InTurn.{next_behind}
use Rattle.dk_groups.proofs.Texts.{nothing_put}
use Rattle.dk_ledger.specs.declared.line.LedgerLine.{LedgerLine}
use Rattle.dk_holds.specs.Holds.{AreHolders}
use Rattle.dk_trace_events.specs.Behind.{AreKnown, line_text, lines_text, past_of}
use Rattle.dk_trace_events.proofs.Texts.{all_behind, one_behind}
use Rattle.dk_trace_events.proofs.Behind.{known_behind, named_label}
use Rattle.dk_trace_events.proofs.lines.write_lines.Goals as goal

pub write_line-requires-clause-known : goal.write_line-requires-clause-known
write_line-requires-clause-known g c =
    let on = c.loop-next.invariant.going_on in
    subst (λ (h : Heading). AreKnown h c.loop-next.holders) on.2 (known_behind on.0 on.3 c.loop-next.next c.loop-next.reader c.loop-next.holders on.1 on.4 on.5)

pub write_line-requires-clause-named : goal.write_line-requires-clause-named
write_line-requires-clause-named g c =
    let on = c.loop-next.invariant.going_on in
    let one = (comes_some on.0 on.3 c.loop-next.next c.in-Some.line c.loop-next.reader c.in-Some.is on.4).2 in
    subst (λ (h : Heading). IsNamed h c.in-Some.line.label) on.2 (named_label on.0.heading c.in-Some.line.label one.label)

pub write_line-requires-clause-short : goal.write_line-requires-clause-short
write_line-requires-clause-short g c =
    let on = c.loop-next.invariant.going_on in
    let short = (comes_some on.0 on.3 c.loop-next.next c.in-Some.line c.loop-next.reader c.in-Some.is on.4).2.short in
    omega (arith, short)

pub step-requires-clause-some : goal.step-requires-clause-some
step-requires-clause-some g c =
    let on = c.loop-next.invariant.going_on in
    (comes_some on.0 on.3 c.loop-next.next c.in-Some.line c.loop-next.reader c.in-Some.is on.4).2.some

pub step-requires-clause-short : goal.step-requires-clause-short
step-requires-clause-short g c =
    let on = c.loop-next.invariant.going_on in
    let short = (comes_some on.0 on.3 c.loop-next.next c.in-Some.line c.loop-next.reader c.in-Some.is on.4).2.short in
    omega (arith, short)

pub next-requires : goal.next-requires
next-requires g c =
    let on = c.loop-next.invariant.going_on in
    (on.0, on.1, on.3 ++ c.in-Some.line ∷ [], (comes_some on.0 on.3 c.loop-next.next c.in-Some.line c.loop-next.reader c.in-Some.is on.4).0)

pub returns-in_err-write_line-clause-text : goal.returns-in_err-write_line-clause-text
returns-in_err-write_line-clause-text g c = λ j readable start.
    let inv = c.loop-next.invariant in
    let told = inv.written j readable start in
    let w = told.0 in
    let h = c.args.header.now in
    let one = c.in-Some.line in
    let comes = comes_some j w.groups c.loop-next.next one c.loop-next.reader c.in-Some.is w.comes in
    let piece = line_text h c.args.from w.groups one in
    let parts = all_behind (line_text h c.args.from) j w.groups one c.loop-next.reader c.args.reader.now.from c.args.reader.now.to readable comes inv.from inv.to in
    cut_short (lines_text h c.args.from (groups c.args.reader.now.from c.args.reader.now.to j.entries)) (lines_text h c.args.from w.groups)
    _ _ _ _ c.from_residual.result piece parts.0 c.from_residual.ensures.1 parts.1
    w.appended inv.faults inv.capacity (c.in_err-write_line.ensures w.groups told.1)

pub returns-in_err-next-clause-text : goal.returns-in_err-next-clause-text
returns-in_err-next-clause-text g c = λ j readable start.
    let inv = c.loop-next.invariant in
    let told = inv.written j readable start in
    let w = told.0 in
    let h = c.args.header.now in
    let one = c.in-Some.line in
    let comes = comes_some j w.groups c.loop-next.next one c.loop-next.reader c.in-Some.is w.comes in
    let piece = line_text h c.args.from w.groups one in
    let parts = all_behind (line_text h c.args.from) j w.groups one c.loop-next.reader c.args.reader.now.from c.args.reader.now.to readable comes inv.from inv.to in
    let fails : IsErr c.from_residual-in_err-next.result = search rules in
    stopped_behind (g.S.Sink.seen c.args.sink.now) _ _ _ c.in_ok-write_line.field-0 (lines_text h c.args.from w.groups) piece piece c.in_ok-write_line.was refl w.appended (c.write_line.ensures w.groups told.1)
    c.from_residual-in_err-next.result (lines_text h c.args.from (groups c.args.reader.now.from c.args.reader.now.to j.entries)) parts.0 fails c.from_residual-in_err-next.ensures.1 parts.1 inv.faults inv.capacity

pub loop-next-preserved : goal.loop-next-preserved
loop-next-preserved g c =
    let inv = c.loop-next.invariant in
    let h = c.args.header.now in
    let one = c.in-Some.line in
    let reader = c.loop-next.reader in
    let on = inv.going_on in
    let zero = inv.from ∙ c.requires.zero in
    let on_comes = comes_some on.0 on.3 c.loop-next.next one reader c.in-Some.is on.4 in
    let own = c.write_line.ensures on.3 on.5 in
    let next_comes = if_ok c.next.result c.in_ok-next.next _ c.in_ok-next.was c.next.ensures.comes in
    record {
      going_on = (
        on.0,
        on.1,
        on.2,
        on.3 ++ one ∷ [],
        next_comes on.0 (on.3 ++ one ∷ []) on.1 on_comes.0,
        next_behind (λ es. AreHolders (reverse es) c.loop-next.holders) (λ es. AreHolders (reverse es) c.step.new.self) on.0 on.3 one reader 0 on.1 on_comes zero on.5 c.step.ensures,
      );
      written = λ j readable start.
          let told = inv.written j readable start in
          let w = told.0 in
          let comes = comes_some j w.groups c.loop-next.next one reader c.in-Some.is w.comes in
          let piece = line_text h c.args.from w.groups one in (
            record {
              groups = w.groups ++ one ∷ [];
              comes = next_comes j (w.groups ++ one ∷ []) readable comes.0;
              appended = one_more (g.S.Sink.seen c.args.sink.now) _ _ _ c.in_ok-write_line.field-0 (lines_text h c.args.from w.groups) piece piece c.in_ok-write_line.was refl w.appended
                  (c.write_line.ensures w.groups told.1) (lines_text h c.args.from (w.groups ++ one ∷ [])) (one_behind (line_text h c.args.from) w.groups one);
            },
            next_behind (λ es. AreHolders (reverse es) c.loop-next.holders) (λ es. AreHolders (reverse es) c.step.new.self) j w.groups one reader 0 readable comes zero told.1 c.step.ensures,
          );
      faults = on_ok c.write_line.result c.in_ok-write_line.field-0 _ c.in_ok-write_line.was own.stays ∙ inv.faults;
      capacity = own.same ∙ inv.capacity;
      from = c.next.ensures.from ∙ inv.from;
      to = c.next.ensures.to ∙ inv.to;
    }

pub loop-next-init : goal.loop-next-init
loop-next-init g c =
    let start = c.requires.start in
    record {
      going_on = (start.0, start.1, start.2, [], start.3, c.new-holders.ensures);
      written = λ j readable first. (record { groups = []; comes = first; appended = nothing_put (g.S.Sink.seen c.args.sink.now).written }, c.new-holders.ensures);
      faults = refl;
      capacity = refl;
      from = refl;
      to = refl;
    }

pub returns-clause-text : goal.returns-clause-text
returns-clause-text g c = λ j readable start.
    let inv = c.loop-next.invariant in
    let w = (inv.written j readable start).0 in
    let h = c.args.header.now in
    let reader = c.loop-next.reader in
    let all = comes_none j w.groups c.loop-next.next reader c.in_default.is w.comes
    ∙ ap (λ n. groups n reader.to j.entries) inv.from ∙ ap (λ n. groups c.args.reader.now.from n j.entries) inv.to in
    all_put (lines_text h c.args.from (groups c.args.reader.now.from c.args.reader.now.to j.entries)) (lines_text h c.args.from w.groups)
    (g.S.Sink.seen c.args.sink.now) (g.S.Sink.seen c.loop-next.sink) _ (sym (ap (lines_text h c.args.from) all)) w.appended inv.faults inv.capacity

pub returns-clause-holders : goal.returns-clause-holders
returns-clause-holders g c = λ j readable start.
    let inv = c.loop-next.invariant in
    let told = inv.written j readable start in
    let reader = c.loop-next.reader in
    let all = comes_none j told.0.groups c.loop-next.next reader c.in_default.is told.0.comes
    ∙ ap (λ n. groups n reader.to j.entries) inv.from ∙ ap (λ n. groups c.args.reader.now.from n j.entries) inv.to in
    subst (λ (ls : List LedgerLine). AreHolders (past_of ls) c.loop-next.holders) all told.1
