use Rattle.dk_mutex.proofs.Names.{◌≡◌, ◌∙◌, ap, sym, subst, refl, List, None, IfSome, list_any, AreOuter, IsFirst, AreMarked, Lockable, is_by_process, LeftsDiffer, given_to}
use Rattle.std.specs.Prelude.{false}
use Rattle.dk_mutex.proofs.Lefts.{LeftsDiffer-unlocked}
use Rattle.dk_mutex.proofs.Marking.{marked-unlocked}
use Rattle.dk_mutex.proofs.mutexes.Mutexes.free.Goals as goal

pub again-self-inside-requires : goal.again-self-inside-requires
again-self-inside-requires c =
    let rows = c.self.inside.rows in
    record {
      first =
          subst (λ (next : List Lockable). IfSome c.leave-outer.result (λ outer. IsFirst outer.level outer.holder next)) (sym c.free.ensures)
          (c.leave-outer.ensures.first rows c.self.invariant.3);
      newest =
          c.newest.ensures c.free.new.self
          (subst (AreOuter c.leave-outer.new.outers.items) (sym c.free.ensures) (c.leave-outer.ensures.outers rows c.self.invariant.3));
    }

pub may_be_of-marked-requires : goal.may_be_of-marked-requires
may_be_of-marked-requires c = c.again-self-inside.ensures.front.held

pub invariant_of-self : goal.invariant_of-self
invariant_of-self c =
    let rows = c.self.inside.rows in
    let given = c.again-self-inside.ensures.rows ∙ c.free.ensures in (
      subst LeftsDiffer (sym given) (LeftsDiffer-unlocked c.args.mutex rows c.self.invariant.0),
      c.again-self-inside.ensures.front,
      subst (AreMarked c.mark.new.marks) (sym given)
          (marked-unlocked c.args.process c.args.mutex c.may_be_of-marked.result rows (given_to None c.args.mutex rows) c.self.inside.marks c.mark.new.marks c.mark.ensures refl
          (λ off. subst (λ (rs : List Lockable). list_any (is_by_process c.args.process) rs ≡ false) given (c.may_be_of-marked.ensures off))
          c.self.invariant.2),
      subst (AreOuter c.leave-outer.new.outers.items) (sym given) (c.leave-outer.ensures.outers rows c.self.invariant.3),
    )

pub returns : goal.returns
returns c = c.again-self-inside.ensures.rows ∙ c.free.ensures ∙ ap (given_to None c.args.mutex) c.self.view_is
