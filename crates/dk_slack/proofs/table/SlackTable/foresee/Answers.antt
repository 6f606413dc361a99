use Rattle.dk_slack.proofs.Names.{ℕ, List, subst, unclaimed_by, Lasts}
use Rattle.dk_slack.proofs.table.SlackTable.foresee.Goals as goal

pub invariant_of-self : goal.invariant_of-self
invariant_of-self c =
    let t = c.self.inside in
    let lasting = c.foreseen-self-inside.result in (
      c.self.invariant.0,
      c.self.invariant.1,
      subst (λ (ns : List ℕ). Lasts lasting (unclaimed_by t.nobodys t.counters.items t.marks.items) ns) c.deref-then-self-eq0-2.ensures.0
          (subst (λ (ns : List ℕ). Lasts lasting (unclaimed_by t.nobodys t.counters.items ns) c.deref-then-self-eq0-2.result.now) c.deref-then-self-eq0.ensures.0
          (subst (λ (ns : List ℕ). Lasts lasting (unclaimed_by t.nobodys ns c.deref-then-self-eq0.result.now) c.deref-then-self-eq0-2.result.now) c.deref.ensures.0 c.foreseen-self-inside.ensures)),
    )
