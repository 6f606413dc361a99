use Rattle.std.proofs.Common.{[], sym, refl, append-nil, arith}
use Rattle.show_layout.proofs.timings.add_level.Goals as goal

-- nothing is added
pub returns-then-not-may_have_children : goal.returns-then-not-may_have_children
returns-then-not-may_have_children c =
    let is = c.may_have_children.ensures in
    let no = c.if-not-may_have_children.true in
    record {
      line = [];
      is = record { told = λ yes. absurd (grind arith); untold = λ untold. refl };
      added = sym (append-nil c.args.out.now.items);
    }
