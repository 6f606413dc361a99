use Rattle.dk_slack.proofs.Names.{◌≡◌, ◌<◌, ◌∙◌, ℕ, false, length, map, ap, arith, sym, None, nat_lt, le-ltb, length-map, Slack, row_of, wish_at, counted_for, source, first_node}
use Rattle.dk_slack.proofs.Fronts.{front, nobody}
use Rattle.dk_slack.proofs.Tables.{amount-read, entering-read}
use Rattle.dk_slack.proofs.table.SlackTable.first_ahead.Goals as goal

positive : (n : ℕ) → (n ≡ 0 → ⊥) → 0 < n
positive n some = omega (arith, some)

pub returns : goal.returns
returns c =
    let t = c.self.inside in
    let first = c.in_ok-first.first in
    let waits = c.in_ok-first.ensures in
    let r = c.row_of-row.result in
    let read = c.row_of-row.ensures ∙ ap (λ rows. row_of rows first.node) c.deref.ensures.value in
    let amount = amount-read _ _ _ _ _ _ c.self.invariant.0 c.self.view_is first.node r read in
    let some : 0 < r.amount = positive r.amount c.if-row-eq0.false in
    let over : nat_lt 0 r.entering ≡ false = le-ltb 0 r.entering c.if-row-gt0.false in
    let least = c.min.ensures in
    record {
      known = omega (arith, ap (λ (v : Slack). length v.wishes) c.self.view_is, length-map t.rail.lists (map (wish_at t.rows.items)), waits.known);
      before = λ k less. ap (λ (v : Slack). first_node k v.wishes) (sym c.self.view_is) ∙ nobody t.rows.items t.rail.lists k (waits.before k less);
      first = ap (λ (v : Slack). first_node first.level v.wishes) (sym c.self.view_is) ∙ sym (front t.rows.items t.rail.lists first.level) ∙ waits.front;
      entered = sym (entering-read _ _ _ _ _ _ c.self.invariant.0 c.self.view_is first.node r read some) ∙ over;
      more = omega (arith, amount, some, least);
      lasts = λ k below. ap (λ (v : Slack). source (counted_for k None v.unclaimed) v.spares) (sym c.self.view_is) ∙ c.self.invariant.2 k (omega (arith, below, least));
    }
