use Rattle.std.proofs.Common.{◌≡◌, ◌∙◌, ap, sym, subst}
use Rattle.std.specs.Prelude.{Some, ◌++◌, option_to_list}
use Rattle.dk_ledger.proofs.NextItem.{if_ok}
use Rattle.dk_ledger.proofs.Readings.{some_is}
use Rattle.dk_ledger.specs.Heading.{Heading}
use Rattle.dk_groups.specs.Groups.{groups, part_of_line}
use Rattle.dk_groups.specs.Cutting.{Cutting, HasGiven, IsGroupIn}
use Rattle.dk_groups.proofs.NextLine.{part_fits}
use Rattle.dk_groups.proofs.group_reader.GroupReader.next.Goals as goal

pub returns-in-Some-part_of-clause-heading : goal.returns-in-Some-part_of-clause-heading
returns-in-Some-part_of-clause-heading c = λ j gs readable before.
    let passed = some_is c.in_ok-line.field-0 c.in-Some.line _ c.in-Some.is (if_ok c.next_line.result c.in_ok-line.field-0 _ c.in_ok-line.was c.next_line.ensures.passed) in
    (passed j gs readable (c.loop-line.invariant.given j gs readable before)).heading

pub returns-clause-end : goal.returns-clause-end
returns-clause-end c = λ none j gs readable before.
    let invariant = c.loop-line.invariant in
    if_ok c.next_line.result c.in_ok-line.field-0 _ c.in_ok-line.was c.next_line.ensures.end c.in_default.is j gs readable (invariant.given j gs readable before)
    ∙ ap (λ n. groups n c.loop-line.self.to j.entries) invariant.from ∙ ap (λ n. groups c.args.self.now.from n j.entries) invariant.to

pub returns-in-Some-part_of-clause-comes : goal.returns-in-Some-part_of-clause-comes
returns-in-Some-part_of-clause-comes c = λ j gs readable before.
    let passed = some_is c.in_ok-line.field-0 c.in-Some.line _ c.in-Some.is (if_ok c.next_line.result c.in_ok-line.field-0 _ c.in_ok-line.was c.next_line.ensures.passed) in
    let fits = some_is c.in_ok-line.field-0 c.in-Some.line _ c.in-Some.is (if_ok c.next_line.result c.in_ok-line.field-0 _ c.in_ok-line.was c.next_line.ensures.fits) in
    let p = passed j gs readable (c.loop-line.invariant.given j gs readable before) in
    let line = c.in-Some.line in
    let old = c.loop-line.self in
    let new = c.next_line.new.self in
    let from = ap (λ (k : Cutting). k.from) c.self.view_is in
    let to = ap (λ (k : Cutting). k.to) c.self.view_is in
    let part : part_of_line new.from new.to line ≡ Some c.in-Some-part_of.group =
    ap (λ n. part_of_line n new.to line) (sym from) ∙ ap (λ n. part_of_line c.self.inside.from n line) (sym to) ∙ sym c.part_of.ensures ∙ c.in-Some-part_of.is in
    let own = ap (λ n. part_of_line n old.to line) (sym c.next_line.ensures.from) ∙ ap (λ n. part_of_line new.from n line) (sym c.next_line.ensures.to) ∙ part in (
      subst (λ o. HasGiven j (gs ++ option_to_list o) new) own p.given,
      p.heading,
      subst (λ (h : Heading). IsGroupIn h new.from new.to c.in-Some-part_of.group) p.heading
          (part_fits new.reading.kept.heading new.from new.to line c.in-Some-part_of.group fits.short fits.label fits.event part),
    )

pub returns-clause-comes : goal.returns-clause-comes
returns-clause-comes c = λ j gs readable before.
    let invariant = c.loop-line.invariant in
    if_ok c.next_line.result c.in_ok-line.field-0 _ c.in_ok-line.was c.next_line.ensures.end c.in_default.is j gs readable (invariant.given j gs readable before)
    ∙ ap (λ n. groups n c.loop-line.self.to j.entries) (sym c.next_line.ensures.from) ∙ ap (λ n. groups c.next_line.new.self.from n j.entries) (sym c.next_line.ensures.to)
