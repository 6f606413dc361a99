use Rattle.dk_dispatch.proofs.Names.{ℕ, ◌≡◌, ◌+◌, ◌∙◌, ◌^◌, ◌∷◌, [], drop, get_or, length, ap, sym, subst, arith, List, drop-some, drop-none, drop-next, ThreadRow, children_at, AreKnown, is_between, shares_in, shares-append, IsAdded}
use Rattle.dk_dispatch.proofs.opening.add_children.Goals as goal
use Rattle.dk_dispatch.proofs.opening.add_children.Goals.{in-Some, in_default}

pub add_share-requires-clause-known : goal.add_share-requires-clause-known
add_share-requires-clause-known c =
    let rows = children_at c.args.threads.now c.args.process in
    let here = drop-some rows c.loop-index.index c.in-Some.row (sym c.child.ensures ∙ c.in-Some.is) in
    (subst (AreKnown c.args.loans.now c.args.windows.now) here c.loop-index.invariant.known).0

pub add_share-requires-clause-room : goal.add_share-requires-clause-room
add_share-requires-clause-room c = λ k.
    let few = c.loop-index.invariant.few k in
    let room = c.requires.room k in
    let test = c.loop-index-test.true in
    omega (arith, few, room, test)

pub loop-index-preserved : goal.loop-index-preserved
loop-index-preserved c =
    let rows = children_at c.args.threads.now c.args.process in
    let b = c.args.loans.now in
    let w = c.args.windows.now in
    let was = c.loop-index.invariant in
    let next : List ThreadRow = drop (c.loop-index.index + 1) rows in
    elim c.match-child.branch [
      | in-Some v ↦
          let here : drop c.loop-index.index rows ≡ v.in-Some.row ∷ next = drop-some rows c.loop-index.index v.in-Some.row (sym c.child.ensures ∙ v.in-Some.is) in
          let added = subst (λ sums. IsAdded b w c.args.last (v.in-Some.row ∷ []) (2 ^ 32) c.loop-index.sums sums) (sym v.sums-is) v.add_share.ensures in
          record {
            known = (subst (AreKnown b w) here was.known).1;
            size = added.size ∙ was.size;
            sums = λ k within.
                let more = ap (shares_in b w (is_between k k)) here ∙ shares-append b w (is_between k k) (v.in-Some.row ∷ []) next in
                let one = added.sums k within in
                let before = was.sums k within in
                omega (arith, more, one, before);
            few = λ k.
                let one = added.few k in
                let before = was.few k in
                omega (arith, one, before);
          }
      | in_default v ↦
          let none = sym c.child.ensures ∙ v.in_default.is in
          let same : drop c.loop-index.index rows ≡ next = drop-none rows c.loop-index.index none ∙ sym (drop-next rows c.loop-index.index none) in
          let is = v.sums-is in
          record {
            known = subst (AreKnown b w) same was.known;
            size = ap length is ∙ was.size;
            sums = λ k within.
                let more = ap (shares_in b w (is_between k k)) same in
                let at = ap (λ (sums : List ℕ). get_or sums k 0) is in
                let before = was.sums k within in
                omega (arith, more, at, before);
            few = λ k.
                let at = ap (λ (sums : List ℕ). get_or sums k 0) is in
                let before = was.few k in
                omega (arith, at, before);
          }
    ]
