use Rattle.dk_rail.proofs.Names.{ℕ, ◌<◌, List, length, slice_get, Some, sym, ap, ◌∙◌, arith, Queues, queue_at}
use Rattle.dk_rail.proofs.Linked.{length-lists_of, queue-at_lists, front_none, front_some}
use Rattle.dk_rail.proofs.rail.Rail.front.Goals as goal

pub read-first-requires : goal.read-first-requires
read-first-requires g c =
    let f = c.self.inside in
    omega (arith, c.requires, ap (λ (v : Queues). length v.lists) c.self.view_is, length-lists_of f.block f.nodes f.queues, c.self.invariant.linked.covers)

pub returns-then-first-self-clause-first : goal.returns-then-first-self-clause-first
returns-then-first-self-clause-first g c =
    let f = c.self.inside in
    let inside : c.args.queue < f.queues = omega (arith, c.requires, ap (λ (v : Queues). length v.lists) c.self.view_is, length-lists_of f.block f.nodes f.queues) in
    sym (ap (λ (v : Queues). slice_get (queue_at v.lists c.args.queue) 0) (sym c.self.view_is)
    ∙ ap (λ (xs : List ℕ). slice_get xs 0) (queue-at_lists f.block f.nodes f.queues c.args.queue inside)
    ∙ front_some f.block f.nodes c.args.queue (omega (arith, c.read-first.ensures)) ∙ ap (λ (a : ℕ). Some a) (sym c.read-first.ensures))

pub returns-else-first-self-clause-first : goal.returns-else-first-self-clause-first
returns-else-first-self-clause-first g c =
    let f = c.self.inside in
    let inside : c.args.queue < f.queues = omega (arith, c.requires, ap (λ (v : Queues). length v.lists) c.self.view_is, length-lists_of f.block f.nodes f.queues) in
    sym (ap (λ (v : Queues). slice_get (queue_at v.lists c.args.queue) 0) (sym c.self.view_is)
    ∙ ap (λ (xs : List ℕ). slice_get xs 0) (queue-at_lists f.block f.nodes f.queues c.args.queue inside)
    ∙ front_none f.block f.nodes c.args.queue (omega (arith, c.read-first.ensures)))
