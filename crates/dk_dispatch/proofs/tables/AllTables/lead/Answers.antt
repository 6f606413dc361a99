use Rattle.dk_dispatch.proofs.Names.{◌∙◌, ◌≡◌, None, arith, refl, subst, RunsFirst, IsComputing, kernel_left, HasFamilies, IsSound, Tables}
use Rattle.dk_dispatch.proofs.Leading.{leads, slot-rest}
use Rattle.dk_dispatch.proofs.tables.AllTables.lead.Goals as goal

pub returns : goal.returns
returns c =
    let d = c.args.self.now in
    let first = c.in_ok-first.first in
    let level = c.in_ok-level.level in
    record {
      leads =
          leads d first level _ (subst (λ (t : Tables). IsComputing t.jobs first) c.self.view_is c.in_ok-first.ensures)
          (subst (λ (t : Tables). RunsFirst first.thread first.level level t.mutexes) c.self.view_is c.in_ok-level.ensures)
          (λ k low. subst (λ (t : Tables). kernel_left t k ≡ 0) c.self.view_is (c.quiet.ensures.quiet k (omega (arith, low, c.if-quiet-level.false))))
          (c.lends_nothing.ensures c.if-not-lends_nothing.false)
          (subst IsSound c.self.view_is c.self.invariant) (subst HasFamilies c.self.view_is c.rows_are_in_order.ensures) c.choice_is_the_pasts.ensures
          c.workers_are_the_pasts.ensures.front c.callers_have_rows.ensures.slots c.holds_are_the_pasts.ensures.left refl
          (λ s fits is. c.slot_of.ensures ∙ slot-rest first.thread.process first.node s fits is)
          c.innermost_left.ensures;
    }
