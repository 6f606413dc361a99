use Rattle.dk_picture.proofs.Names.{◌∙◌, ◌++◌, [], ◌∷◌, ap, if_ok, some_is, groups, makings}
use Rattle.dk_picture.proofs.Groups.{one_making}
use Rattle.dk_picture.proofs.makings.all_makings.Goals as goal

pub loop-makings-preserved : goal.loop-makings-preserved
loop-makings-preserved c =
    let inv = c.loop-makings.invariant in
    let on = inv.cutting in
    let group = c.in-Some.group in
    let given = some_is c.in_ok-group.field-0 group _ c.in-Some.is (if_ok c.next.result c.in_ok-group.field-0 _ c.in_ok-group.was c.next.ensures.given) in
    record {
      cutting = (on.0, on.1, on.2 ++ group ∷ [], given on.0 on.2 on.1 on.3);
      given = λ j readable start.
          let had = inv.given j readable start in
          (had.0 ++ group ∷ [], given j had.0 readable had.1, one_making had.0 group _ _ had.2 c.in_ok-push_making.ensures);
      from = c.next.ensures.from ∙ inv.from;
      to = c.next.ensures.to ∙ inv.to;
    }

pub returns : goal.returns
returns c = λ j readable start.
    let inv = c.loop-makings.invariant in
    let had = inv.given j readable start in
    had.2 ∙ ap makings (if_ok c.next.result c.in_ok-group.field-0 _ c.in_ok-group.was c.next.ensures.end c.in_default.is j had.0 readable had.1
    ∙ ap (λ n. groups n c.loop-makings.reader.to j.entries) inv.from ∙ ap (λ n. groups c.args.reader.now.from n j.entries) inv.to)
