use Rattle.dk_rail.proofs.Names.{◌≡◌, ℕ, List, ◌+◌, ◌<◌, length, IsNone, is_some, ap, refl, ◌∙◌, arith, Queues, holder, pushed, IsSound, owner, IsPushed, lists_of, list_at}
use Rattle.dk_rail.proofs.Linked.{length-lists_of, last_in, last_other, free_owner, lists_pushed}
use Rattle.dk_rail.proofs.rail.Rail.push_back.Goals as goal

-- what the caller promised, of the cells
record Asked (b : List ℕ) (n q k x : ℕ) : Type 0 where
  inside : k < q
  low : x < n
  free : owner b (n + q) x ≡ 0

asked : (b : List ℕ) (n q k x : ℕ) (v : Queues) → IsSound b n q → record { nodes = n; lists = lists_of b n q } ≡ v → k < length v.lists → x < v.nodes → IsNone (holder v.lists x) → Asked b n q k x
asked b n q k x v sound is queue node free =
    let low : x < n = omega (arith, ap (λ (w : Queues). w.nodes) is) in record {
      inside = omega (arith, ap (λ (w : Queues). length w.lists) is, length-lists_of b n q);
      low = low;
      free = free_owner b n q x sound.linked low (ap (λ (w : Queues). is_some (holder w.lists x)) is ∙ free);
    }

after : (b d : List ℕ) (n q k x : ℕ) (v : Queues) → IsSound b n q → record { nodes = n; lists = lists_of b n q } ≡ v → Asked b n q k x → IsPushed b d (n + q) (n + k) x k → IsSound d n q × (lists_of d n q ≡ pushed v.lists k x)
after b d n q k x v sound is a p =
    let both = lists_pushed b d n q k x sound.linked a.inside a.low a.free p in
    (record { nodes = sound.nodes; queues = sound.queues; linked = both.0 }, both.1 ∙ ap (λ (w : Queues). pushed w.lists k x) is)

pub put_before-requires-clause-end : goal.put_before-requires-clause-end
put_before-requires-clause-end g c =
    let a = asked _ _ _ _ _ _ c.self.invariant c.self.view_is c.requires.queue c.requires.node c.requires.free in
    omega (arith, a.inside)

pub put_before-requires-clause-last : goal.put_before-requires-clause-last
put_before-requires-clause-last g c =
    let f = c.self.inside in
    let a = asked _ _ _ _ _ _ c.self.invariant c.self.view_is c.requires.queue c.requires.node c.requires.free in
    last_in f.block f.nodes f.queues (list_at f.block f.nodes) c.self.invariant.linked c.args.queue a.inside

pub put_before-requires-clause-other : goal.put_before-requires-clause-other
put_before-requires-clause-other g c =
    let f = c.self.inside in
    let a = asked _ _ _ _ _ _ c.self.invariant c.self.view_is c.requires.queue c.requires.node c.requires.free in
    last_other f.block f.nodes f.queues (list_at f.block f.nodes) c.self.invariant.linked c.args.node c.args.queue a.inside a.low a.free

pub invariant_of-self : goal.invariant_of-self
invariant_of-self g c =
    let a = asked _ _ _ _ _ _ c.self.invariant c.self.view_is c.requires.queue c.requires.node c.requires.free in
    (after _ _ _ _ _ _ _ c.self.invariant c.self.view_is a (c.put_before.ensures c.args.queue refl)).0

pub returns-clause-lists : goal.returns-clause-lists
returns-clause-lists g c =
    let a = asked _ _ _ _ _ _ c.self.invariant c.self.view_is c.requires.queue c.requires.node c.requires.free in
    (after _ _ _ _ _ _ _ c.self.invariant c.self.view_is a (c.put_before.ensures c.args.queue refl)).1
