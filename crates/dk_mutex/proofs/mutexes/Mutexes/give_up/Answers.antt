use Rattle.dk_mutex.proofs.Names.{◌∙◌, ap, map, sym, subst, freed, LeftsDiffer, AreMarked}
use Rattle.dk_mutex.proofs.Lefts.{LeftsDiffer-freed}
use Rattle.dk_mutex.proofs.Marking.{marked-freed}
use Rattle.dk_mutex.proofs.Outers.{freed-none, no-outer}
use Rattle.dk_mutex.proofs.mutexes.Mutexes.give_up.Goals as goal

pub invariant_of-self : goal.invariant_of-self
invariant_of-self c =
    let rows = c.self.inside.rows in
    let is = sym (c.front-self-inside.ensures.rows ∙ c.free_all.ensures) in (
      subst LeftsDiffer is (LeftsDiffer-freed c.args.id rows c.self.invariant.0),
      c.front-self-inside.ensures.front,
      subst (AreMarked c.self.inside.marks) is (marked-freed c.args.id c.self.inside.marks rows c.self.invariant.2),
      no-outer _ c.clear.ensures _,
    )

pub returns : goal.returns
returns c = c.front-self-inside.ensures.rows ∙ c.free_all.ensures ∙ ap (map (freed c.args.id)) c.self.view_is

pub returns-then-not-may_hold : goal.returns-then-not-may_hold
returns-then-not-may_hold c = sym (freed-none c.args.id c.args.self.now (c.may_hold.ensures c.if-not-may_hold.true))
