use Rattle.dk_rail.proofs.Names.{◌∙◌, sym, length-map, without}
use Rattle.dk_rail.proofs.Quiet.{first-unlinked, quiet-unlinked}
use Rattle.dk_rail.proofs.level_queues.LevelQueues.unlink.Goals as goal

pub invariant_of-self : goal.invariant_of-self
invariant_of-self g c =
    let f = c.self.inside in
    let node = c.args.node in
    rw c.unlink.ensures.lists (
      length-map f.rail.lists (without node) ∙ c.self.invariant.0,
      c.self.invariant.1,
      quiet-unlinked f.quiet node f.rail.lists c.self.invariant.2,
      tt,
    )

pub invariant_of-self-else-eq : goal.invariant_of-self-else-eq
invariant_of-self-else-eq g c =
    let f = c.self.inside in
    let node = c.args.node in
    rw c.unlink.ensures.lists (
      length-map f.rail.lists (without node) ∙ c.self.invariant.0,
      c.self.invariant.1,
      quiet-unlinked f.quiet node f.rail.lists c.self.invariant.2,
      first-unlinked f.rail.lists f.quiet node f.first (sym c.eq.ensures ∙ c.if-eq.false) c.self.invariant.3,
    )
