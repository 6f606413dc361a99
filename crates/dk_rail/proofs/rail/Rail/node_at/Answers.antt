use Rattle.dk_rail.proofs.Names.{◌≡◌, ℕ, suc, ◌+◌, ◌<◌, ◌≤◌, List, Option, Some, drop, slice_get, sym, ap, ◌∙◌, arith, get_or_past, Queues, queue_at, next, lists_of, list_at, IsPath}
use Rattle.std.proofs.Common.{[], None, subst}
use Rattle.dk_rail.proofs.Linked.{length-lists_of, queue-at_lists}
use Rattle.dk_rail.proofs.Walking.{walk-on, walk-ends}
use Rattle.dk_rail.proofs.rail.Rail.node_at.Goals as goal

-- the list in the cells is the queue
found : (b : List ℕ) (n q k i : ℕ) (v : Queues) (o : Option ℕ) → record { nodes = n; lists = lists_of b n q } ≡ v → k < q → slice_get (list_at b n k) i ≡ o → o ≡ slice_get (queue_at v.lists k) i
found b n q k i v o is known at =
    sym (sym (ap (λ (w : Queues). slice_get (queue_at w.lists k) i) is) ∙ ap (λ (xs : List ℕ). slice_get xs i) (queue-at_lists b n q k known) ∙ at)

pub returns-then-queue-self-clause-found : goal.returns-then-queue-self-clause-found
returns-then-queue-self-clause-found g c =
    let f = c.self.inside in
    let past : queue_at (lists_of f.block f.nodes f.queues) c.args.queue ≡ [] =
    get_or_past (lists_of f.block f.nodes f.queues) c.args.queue [] (omega (arith, length-lists_of f.block f.nodes f.queues, c.if-queue-self.true)) in
    sym (sym (ap (λ (w : Queues). slice_get (queue_at w.lists c.args.queue) c.args.index) c.self.view_is) ∙ ap (λ (xs : List ℕ). slice_get xs c.args.index) past)

pub loop-passed-init : goal.loop-passed-init
loop-passed-init g c =
    let known = c.if-queue-self.false in
    record {
      inside = omega (arith, known);
      ahead = c.self.invariant.linked.rings c.args.queue (omega (arith, known));
      steps = omega (arith, c.tick.ensures);
    }

pub read-end-requires : goal.read-end-requires
read-end-requires g c =
    let inside = c.loop-passed.invariant.inside in
    let covers = c.self.invariant.linked.covers in
    omega (arith, inside, covers)

pub returns-then-end-self-clause-found : goal.returns-then-end-self-clause-found
returns-then-end-self-clause-found g c =
    let f = c.self.inside in
    let known : c.args.queue < f.queues = omega (arith, c.if-queue-self.false) in
    let behind : f.nodes ≤ next f.block c.loop-passed.end = omega (arith, c.read-end.ensures, c.if-end-self.true) in
    let early : c.loop-passed._passed ≤ c.args.index = omega (arith, c.loop-passed-test.true) in
    found f.block f.nodes f.queues c.args.queue c.args.index _ None c.self.view_is known
    (walk-ends f.block f.nodes (f.nodes + f.queues) c.args.queue c.loop-passed.end (f.nodes + c.args.queue) c.loop-passed._passed c.args.index (list_at f.block f.nodes c.args.queue) c.loop-passed.invariant.ahead behind early)

pub loop-passed-preserved : goal.loop-passed-preserved
loop-passed-preserved g c =
    let f = c.self.inside in
    let low : next f.block c.loop-passed.end < f.nodes = omega (arith, c.read-end.ensures, c.if-end-self.false) in
    let on = walk-on f.block f.nodes (f.nodes + f.queues) c.args.queue c.loop-passed.end (f.nodes + c.args.queue) c.loop-passed._passed (list_at f.block f.nodes c.args.queue) c.loop-passed.invariant.ahead (omega arith) low in
    let one : suc c.loop-passed._passed ≡ c.loop-passed._passed + 1 = omega arith in
    record {
      inside = omega (arith, c.if-end-self.false);
      ahead =
          subst (λ (i : ℕ). IsPath f.block f.nodes (f.nodes + f.queues) c.args.queue c.read-end.result (drop i (list_at f.block f.nodes c.args.queue)) (f.nodes + c.args.queue)) one
          (subst (λ (a : ℕ). IsPath f.block f.nodes (f.nodes + f.queues) c.args.queue a (drop (suc c.loop-passed._passed) (list_at f.block f.nodes c.args.queue)) (f.nodes + c.args.queue)) (sym c.read-end.ensures) on.0);
      steps = omega (arith, c.tick-in-loop-passed.ensures, c.loop-passed.invariant.steps);
    }

pub read-node-requires : goal.read-node-requires
read-node-requires g c =
    let inside = c.loop-passed.invariant.inside in
    let covers = c.self.invariant.linked.covers in
    omega (arith, inside, covers)

pub returns-then-node-self-clause-found : goal.returns-then-node-self-clause-found
returns-then-node-self-clause-found g c =
    let f = c.self.inside in
    let known : c.args.queue < f.queues = omega (arith, c.if-queue-self.false) in
    let low : next f.block c.loop-passed.end < f.nodes = omega (arith, c.read-node.ensures, c.if-node-self.true) in
    let all : c.loop-passed._passed ≡ c.args.index = omega (arith, c.loop-passed-test.false) in
    let on = walk-on f.block f.nodes (f.nodes + f.queues) c.args.queue c.loop-passed.end (f.nodes + c.args.queue) c.loop-passed._passed (list_at f.block f.nodes c.args.queue) c.loop-passed.invariant.ahead (omega arith) low in
    found f.block f.nodes f.queues c.args.queue c.args.index _ (Some c.read-node.result) c.self.view_is known
    (ap (λ (i : ℕ). slice_get (list_at f.block f.nodes c.args.queue) i) (sym all) ∙ on.1 ∙ ap (λ (a : ℕ). Some a) (sym c.read-node.ensures))

pub returns-else-node-self-clause-found : goal.returns-else-node-self-clause-found
returns-else-node-self-clause-found g c =
    let f = c.self.inside in
    let known : c.args.queue < f.queues = omega (arith, c.if-queue-self.false) in
    let behind : f.nodes ≤ next f.block c.loop-passed.end = omega (arith, c.read-node.ensures, c.if-node-self.false) in
    let all : c.loop-passed._passed ≤ c.args.index = omega (arith, c.loop-passed-test.false) in
    found f.block f.nodes f.queues c.args.queue c.args.index _ None c.self.view_is known
    (walk-ends f.block f.nodes (f.nodes + f.queues) c.args.queue c.loop-passed.end (f.nodes + c.args.queue) c.loop-passed._passed c.args.index (list_at f.block f.nodes c.args.queue) c.loop-passed.invariant.ahead behind all)
