use Rattle.dk_dispatch.proofs.Names.{ℕ, ◌≡◌, ◌+◌, ◌-◌, ◌∙◌, ◌∷◌, true, false, List, length, ap, sym, cond-true, cond-false, slice_set, numbers, numbers-next, slice_set-length, begins_at, Slack, counts_begun}
use Rattle.dk_dispatch.proofs.levels.begin_counts.Goals as goal
use Rattle.dk_dispatch.proofs.levels.begin_counts.Goals.{then-begins, else-begins}

pub loop-level-preserved : goal.loop-level-preserved
loop-level-preserved c =
    let w = c.args.windows.now in
    let k = c.loop-level.level in
    let counts : List ℕ = c.loop-level.slack.unclaimed in
    let was = c.loop-level.invariant in
    let next : List ℕ = numbers (k + 1) (c.args.levels - (k + 1)) in
    let here : numbers k (c.args.levels - k) ≡ k ∷ next = numbers-next k c.args.levels c.loop-level-test.true in
    let first = ap (λ ks. record c.loop-level.slack { unclaimed = counts_begun w ks counts }) here in
    elim c.if-begins.branch [
      | then-begins v ↦
          let on : begins_at w k ≡ true = sym c.begins.ensures ∙ v.if-begins.true in
          let slack = v.slack-is ∙ v.window.ensures in
          record {
            many = ap (λ (s : Slack). length s.unclaimed) slack ∙ slice_set-length counts k 0 ∙ was.many;
            slack = ap (λ (s : Slack). record s { unclaimed = counts_begun w next s.unclaimed }) slack
                ∙ ap (λ ns. record c.loop-level.slack { unclaimed = counts_begun w next ns }) (sym (cond-true (begins_at w k) (slice_set counts k 0) counts on))
                ∙ sym first ∙ was.slack;
          }
      | else-begins v ↦
          let off : begins_at w k ≡ false = sym c.begins.ensures ∙ v.if-begins.false in
          record {
            many = ap (λ (s : Slack). length s.unclaimed) v.slack-is ∙ was.many;
            slack = ap (λ (s : Slack). record s { unclaimed = counts_begun w next s.unclaimed }) v.slack-is
                ∙ ap (λ ns. record c.loop-level.slack { unclaimed = counts_begun w next ns }) (sym (cond-false (begins_at w k) (slice_set counts k 0) counts off))
                ∙ sym first ∙ was.slack;
          }
    ]
