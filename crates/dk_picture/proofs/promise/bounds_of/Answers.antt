use Rattle.dk_picture.proofs.Names.{ℕ, List, ◌∙◌, ◌+◌, ◌<◌, ◌∷◌, [], ap, arith, length, length-append, subst, sym, Bound, HasBound}
use Rattle.dk_picture.proofs.Promised.{one_more}
use Rattle.dk_picture.proofs.promise.bounds_of.Goals as goal

pub loop-process-preserved : goal.loop-process-preserved
loop-process-preserved c =
    let inv = c.loop-process.invariant in
    let bounds = c.loop-process.bounds.items in
    let bound = c.bound_of.result in
    let added = c.in_ok-push_bound.ensures in
    record {
      count = let long = ap length added ∙ length-append bounds (bound ∷ []) in let count = inv.count in omega (arith, long, count);
      so_far = subst (λ (bs : List Bound). (p : ℕ) → p < c.loop-process.process + 1 → HasBound c.args.config.now bs p) (sym added)
          (one_more c.args.config.now bounds bound c.loop-process.process inv.count inv.so_far c.bound_of.ensures);
    }
