use Rattle.dk_mutex.proofs.Names.{◌≡◌, ◌∙◌, ap, refl, sym, subst, Some, IsFrontOf, IsLockable, LeftsDiffer, given_to}
use Rattle.dk_mutex.proofs.Marking.{marked-locked}
use Rattle.dk_mutex.proofs.Lefts.{LeftsDiffer-locked}
use Rattle.dk_mutex.proofs.Outers.{back-given, innermost-given}
use Rattle.dk_mutex.proofs.mutexes.Mutexes.take.Goals.{in-Some, in-None}
use Rattle.dk_mutex.proofs.mutexes.Mutexes.take.Goals as goal

pub invariant_of-self : goal.invariant_of-self
invariant_of-self c =
    let rows = c.self.inside.rows in
    let after = c.match-locked.self-inside in
    let can : IsLockable c.args.holder c.args.mutex rows = subst (IsLockable c.args.holder c.args.mutex) (sym c.self.view_is) c.requires in
    let parts : (after.rows ≡ given_to (Some c.args.holder) c.args.mutex rows) × IsFrontOf c.match-locked.self after.rows
    × (after.marks ≡ c.mark.new.marks) × (after.outers ≡ c.enter.new.outers) = elim c.match-locked.branch [
      | in-Some w ↦ (
        rw w.self-inside-is c.take.ensures,
        rw (w.self-inside-is, w.self-is)
            (subst (IsFrontOf w.in-Some.front) (sym c.take.ensures)
            (c.locked.ensures rows c.args.mutex w.in-Some.front c.self.invariant.1 can (sym c.ceiling-ceiling.ensures) w.in-Some.is)),
        rw w.self-inside-is refl,
        rw w.self-inside-is refl,
      )
      | in-None w ↦ (
        rw w.self-inside-is (w.front-self-inside.ensures.rows ∙ c.take.ensures),
        rw (w.self-inside-is, w.self-is) w.front-self-inside.ensures.front,
        rw w.self-inside-is refl,
        rw w.self-inside-is refl,
      )
    ] in (
      subst LeftsDiffer (sym parts.0) (LeftsDiffer-locked c.args.holder c.args.mutex rows can.least c.self.invariant.0),
      parts.1,
      rw (parts.2, parts.0) (marked-locked c.args.holder c.args.mutex rows c.self.inside.marks _ c.mark.ensures c.self.invariant.2),
      rw (parts.3, parts.0)
          (c.enter.ensures rows (given_to (Some c.args.holder) c.args.mutex rows) c.self.invariant.3 c.self.invariant.1 (back-given c.args.holder c.args.mutex rows can.free)
          (innermost-given c.args.holder c.args.mutex rows can)),
    )

pub returns : goal.returns
returns c = elim c.match-locked.branch [
  | in-Some w ↦ rw w.self-inside-is (c.take.ensures ∙ ap (given_to (Some c.args.holder) c.args.mutex) c.self.view_is)
  | in-None w ↦ rw w.self-inside-is (w.front-self-inside.ensures.rows ∙ c.take.ensures ∙ ap (given_to (Some c.args.holder) c.args.mutex) c.self.view_is)
]
