use Rattle.dk_slack.proofs.Names.{◌≡◌, ◌<◌, ◌-◌, ◌∙◌, ℕ, List, length, ap, arith, Wanted, row_of}
use Rattle.dk_slack.proofs.Tables.{amount-read, low, sound-lowered, table-lowered}
use Rattle.dk_slack.proofs.table.SlackTable.spend_for.Goals as goal

-- the row that is written
less : (rows : List Wanted) (x n : ℕ) (r : Wanted) (s : ℕ) → r ≡ row_of rows x → s ≡ r.entering - n
    → ◌≡◌ {A = Wanted} (record { amount = r.amount - n; entering = s }) (record { amount = (row_of rows x).amount - n; entering = (row_of rows x).entering - n })
less rows x n r s read left = rw left (ap (λ (v : Wanted). record { amount = v.amount - n; entering = v.entering - n }) read)

pub overflow_sub-row : goal.overflow_sub-row
overflow_sub-row c =
    omega (
      arith,
      c.requires,
      amount-read _ _ _ _ _ _ c.self.invariant.0 c.self.view_is c.args.node c.row_of-row.result
          (c.row_of-row.ensures ∙ ap (λ rows. row_of rows c.args.node) c.deref.ensures.value),
    )

pub index_mut-requires : goal.index_mut-requires
index_mut-requires c =
    let inside : c.args.node < length c.self.inside.rows.items = low _ _ _ _ _ _ c.self.invariant.0 c.self.view_is c.args.node (omega (arith, c.requires)) in
    omega (arith, inside, c.self.inside.rows.ok)

pub invariant_of-self : goal.invariant_of-self
invariant_of-self c = (
  sound-lowered _ _ _ _ _ _ c.self.invariant.0 c.self.view_is c.args.node c.args.ticks _ c.requires
      (omega (
        arith,
        c.requires,
        amount-read _ _ _ _ _ _ c.self.invariant.0 c.self.view_is c.args.node c.row_of-row.result
            (c.row_of-row.ensures ∙ ap (λ rows. row_of rows c.args.node) c.deref.ensures.value),
      )),
  c.self.invariant.1,
  c.self.invariant.2,
)

pub returns : goal.returns
returns c =
    table-lowered _ _ _ _ _ _ c.self.invariant.0 c.self.view_is c.args.node c.args.ticks _ c.requires
    (less c.self.inside.rows.items c.args.node c.args.ticks c.row_of-row.result _ (c.row_of-row.ensures ∙ ap (λ rows. row_of rows c.args.node) c.deref.ensures.value) c.saturating_sub.ensures)
