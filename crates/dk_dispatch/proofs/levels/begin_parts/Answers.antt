use Rattle.dk_dispatch.proofs.Names.{ℕ, ◌≡◌, ◌<◌, ◌+◌, ◌-◌, ◌∙◌, ◌∷◌, true, false, List, length, get_or, ap, sym, arith, cond-true, cond-false, slice_set, numbers, numbers-next, slice_set-length, Job, begins_at, new_job, parts_begun}
use Rattle.dk_dispatch.proofs.levels.begin_parts.Goals as goal
use Rattle.dk_dispatch.proofs.levels.begin_parts.Goals.{then-begins, else-begins}

pub loop-level-preserved : goal.loop-level-preserved
loop-level-preserved c =
    let R = c.args.releases.now.items in
    let w = c.args.windows.now in
    let k = c.loop-level.level in
    let parts : List Job = c.loop-level.kernel in
    let was = c.loop-level.invariant in
    let many = c.len-level-end.ensures.value in
    let less : k < length R = omega (arith, many, c.loop-level-test.true) in
    let next : List ℕ = numbers (k + 1) (length R - (k + 1)) in
    let here : numbers k (length R - k) ≡ k ∷ next = numbers-next k (length R) less in
    let part : Job = new_job (get_or R k 0) in
    let first = ap (λ ks. parts_begun R w ks parts) here in
    elim c.if-begins.branch [
      | then-begins v ↦
          let on : begins_at w k ≡ true = sym c.begins.ensures ∙ v.if-begins.true in
          let kernel : c.if-begins.kernel ≡ slice_set parts k part =
          v.kernel-is ∙ v.begin.ensures ∙ ap (λ (rs : List ℕ). slice_set parts k (new_job (get_or rs k 0))) v.deref.ensures.0 in
          record {
            many = ap length kernel ∙ slice_set-length parts k part ∙ was.many;
            parts = ap (parts_begun R w next) (kernel ∙ sym (cond-true (begins_at w k) (slice_set parts k part) parts on)) ∙ sym first ∙ was.parts;
          }
      | else-begins v ↦
          let off : begins_at w k ≡ false = sym c.begins.ensures ∙ v.if-begins.false in
          let kernel : c.if-begins.kernel ≡ parts = v.kernel-is in
          record {
            many = ap length kernel ∙ was.many;
            parts = ap (parts_begun R w next) (kernel ∙ sym (cond-false (begins_at w k) (slice_set parts k part) parts off)) ∙ sym first ∙ was.parts;
          }
    ]
