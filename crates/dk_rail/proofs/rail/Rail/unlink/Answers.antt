use Rattle.dk_rail.proofs.Names.{◌≡◌, ℕ, List, true, ◌+◌, ◌<◌, IsSome, is_some, ap, ◌∙◌, inl, inr, arith, Queues, holds, holder, unlinked, IsSound, IsUnlinked, lists_of, list_at}
use Rattle.dk_rail.proofs.Rings.{IsBetween}
use Rattle.dk_rail.proofs.Linked.{held_in, held_between, lists_unlinked}
use Rattle.dk_rail.proofs.rail.Rail.unlink.Goals as goal

-- the queue that the node is in, and its neighbours there
record Held (b : List ℕ) (n q x : ℕ) : Type 0 where
  at : ℕ
  inside : at < q
  in_it : holds x (list_at b n at) ≡ true
  mid : IsBetween b n (n + q) at (n + at) x (n + at)

held : (b : List ℕ) (n q x : ℕ) (v : Queues) → IsSound b n q → record { nodes = n; lists = lists_of b n q } ≡ v → IsSome (holder v.lists x) → Held b n q x
held b n q x v sound is some =
    let there = held_in b n q x sound.linked (ap (λ (w : Queues). is_some (holder w.lists x)) is ∙ some) in
    record { at = there.0; inside = there.1; in_it = there.2; mid = held_between b n q (list_at b n) sound.linked x there.0 there.1 there.2 }

after : (b d : List ℕ) (n q x : ℕ) (v : Queues) → IsSound b n q → record { nodes = n; lists = lists_of b n q } ≡ v → Held b n q x → IsUnlinked b d (n + q) x → IsSound d n q × (lists_of d n q ≡ unlinked v.lists x)
after b d n q x v sound is h u =
    let both = lists_unlinked b d n q h.at x sound.linked h.inside h.in_it u in
    (record { nodes = sound.nodes; queues = sound.queues; linked = both.0 }, both.1 ∙ ap (λ (w : Queues). unlinked w.lists x) is)

pub take_out-requires-clause-node : goal.take_out-requires-clause-node
take_out-requires-clause-node g c = let h = held _ _ _ _ _ c.self.invariant c.self.view_is c.requires in omega (arith, h.mid.low)

pub take_out-requires-clause-cells : goal.take_out-requires-clause-cells
take_out-requires-clause-cells g c =
    let h = held _ _ _ _ _ c.self.invariant c.self.view_is c.requires in omega (arith, h.mid.low, c.self.invariant.linked.covers)

pub take_out-requires-clause-before : goal.take_out-requires-clause-before
take_out-requires-clause-before g c =
    let h = held _ _ _ _ _ c.self.invariant c.self.view_is c.requires in
    elim h.mid.before_of [ inl e ↦ omega (arith, e, h.inside) | inr o ↦ omega (arith, o.0) ]

pub take_out-requires-clause-after : goal.take_out-requires-clause-after
take_out-requires-clause-after g c =
    let h = held _ _ _ _ _ c.self.invariant c.self.view_is c.requires in
    elim h.mid.after_of [ inl e ↦ omega (arith, e, h.inside) | inr o ↦ omega (arith, o.0) ]

pub invariant_of-self : goal.invariant_of-self
invariant_of-self g c =
    let h = held _ _ _ _ _ c.self.invariant c.self.view_is c.requires in
    (after _ _ _ _ _ _ c.self.invariant c.self.view_is h c.take_out.ensures).0

pub returns-clause-lists : goal.returns-clause-lists
returns-clause-lists g c =
    let h = held _ _ _ _ _ c.self.invariant c.self.view_is c.requires in
    (after _ _ _ _ _ _ c.self.invariant c.self.view_is h c.take_out.ensures).1
