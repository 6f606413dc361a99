use Rattle.dk_picture.proofs.Names.{List, ◌≡◌, ◌∙◌, ◌++◌, [], ◌∷◌, length, ap, subst, sym, arith, length-append, LedgerLine, if_ok, some_is, groups, HasGiven}
use Rattle.dk_picture.proofs.Groups.{too_many}
use Rattle.dk_picture.proofs.reading.read_groups.Goals as goal

pub loop-groups-preserved : goal.loop-groups-preserved
loop-groups-preserved c =
    let inv = c.loop-groups.invariant in
    let on = inv.cutting in
    let group = c.in-Some.group in
    let given = some_is c.in_ok-group.field-0 group _ c.in-Some.is (if_ok c.next.result c.in_ok-group.field-0 _ c.in_ok-group.was c.next.ensures.given) in
    record {
      cutting = (on.0, on.1, on.2 ++ group ∷ [], given on.0 on.2 on.1 on.3);
      given = λ j readable start.
          subst (λ (gs : List LedgerLine). HasGiven j gs c.next.new.self) (sym c.in_ok-push_group.ensures) (given j c.loop-groups.groups.items readable (inv.given j readable start));
      few = let count = ap length c.in_ok-push_group.ensures ∙ length-append c.loop-groups.groups.items (group ∷ []) in omega (arith, count);
      from = c.next.ensures.from ∙ inv.from;
      to = c.next.ensures.to ∙ inv.to;
    }

pub returns-clause-groups : goal.returns-clause-groups
returns-clause-groups c = λ j readable start.
    let inv = c.loop-groups.invariant in
    if_ok c.next.result c.in_ok-group.field-0 _ c.in_ok-group.was c.next.ensures.end c.in_default.is j c.loop-groups.groups.items readable (inv.given j readable start)
    ∙ ap (λ n. groups n c.loop-groups.reader.to j.entries) inv.from ∙ ap (λ n. groups c.args.reader.now.from n j.entries) inv.to

pub returns-then-len-eq-MAX_GROUPS-clause-too_many : goal.returns-then-len-eq-MAX_GROUPS-clause-too_many
returns-then-len-eq-MAX_GROUPS-clause-too_many c = λ t is j readable start.
    let inv = c.loop-groups.invariant in
    let group = c.in-Some.group in
    let items = c.loop-groups.groups.items in
    let given = some_is c.in_ok-group.field-0 group _ c.in-Some.is (if_ok c.next.result c.in_ok-group.field-0 _ c.in_ok-group.was c.next.ensures.given) in
    let full : length items ≡ 4000 = omega arith in
    let same : t ≡ group.start = cc in
    too_many j items group c.next.new.self c.args.reader.now.from c.args.reader.now.to t readable (given j items readable (inv.given j readable start))
    (c.next.ensures.from ∙ inv.from) (c.next.ensures.to ∙ inv.to) full same
