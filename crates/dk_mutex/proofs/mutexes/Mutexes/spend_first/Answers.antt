use Rattle.dk_mutex.proofs.Names.{◌≡◌, ◌∙◌, List, ap, map, sym, subst, Lockable, AreOuter, IsFrontOf, spent, LeftsDiffer, effective_level, holds_within, AreMarked}
use Rattle.std.specs.Prelude.{false}
use Rattle.dk_mutex.proofs.Lefts.{LeftsDiffer-spent}
use Rattle.dk_mutex.proofs.Marking.{marked-spent}
use Rattle.dk_mutex.proofs.Outers.{outer-spent}
use Rattle.dk_mutex.proofs.Unheld.{runs-there}
use Rattle.dk_mutex.proofs.mutexes.Mutexes.spend_first.Goals as goal

pub invariant_of-self : goal.invariant_of-self
invariant_of-self c =
    let rows = c.self.inside.rows in
    let far : holds_within c.args.id 0 rows ≡ false =
    subst (λ (rows : List Lockable). holds_within c.args.id 0 rows ≡ false) (sym c.self.view_is) c.requires in
    let is = sym c.spend-then-is_of.ensures in (
      subst LeftsDiffer is (LeftsDiffer-spent c.args.id rows far c.self.invariant.0),
      subst (IsFrontOf c.spend.new.self) is (c.spend.ensures rows c.self.invariant.1),
      subst (AreMarked c.self.inside.marks) is (marked-spent c.args.id c.self.inside.marks rows c.self.invariant.2),
      subst (AreOuter c.self.inside.outers.items) is (outer-spent c.args.id c.self.inside.outers.items rows c.self.invariant.3),
    )

pub returns-then-is_of : goal.returns-then-is_of
returns-then-is_of c =
    let rows = c.self.inside.rows in
    let front = c.self.inside.front in (
      (λ own. sym (runs-there rows front.level c.args.id own rows (λ r h. h) (sym c.self.invariant.1.holder ∙ c.is_of.ensures.own c.if-is_of.true))
          ∙ ap (λ (rows : List Lockable). effective_level c.args.id own rows) c.self.view_is),
      c.spend-then-is_of.ensures ∙ ap (map (spent c.args.id)) c.self.view_is,
    )
