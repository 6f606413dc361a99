use Rattle.dk_mutex.proofs.Names.{◌≡◌, ◌<◌, ◌∙◌, ap, sym, subst, length, map, List, Some, length-map, Holder, Lockable, lowered_by, taken, given_to}
use Rattle.dk_mutex.proofs.Giving.{give-row}
use Rattle.dk_mutex.proofs.Least.{no_row}
use Rattle.dk_mutex.proofs.Owed.{given-taken, lowered-back, lowered-none, paid}
use Rattle.dk_mutex.proofs.rows.Rows.take.Goals.{then-is_same+then-self-holder, else-is_same}
use Rattle.dk_mutex.proofs.rows.Rows.take.Goals as goal

pub returns : goal.returns
returns c =
    let before = c.self.inside in
    let inside = c.if-is_same.self-inside in
    let rows = inside.rows.items in
    let n = inside.owed in
    let x = inside.debtor in
    let stored : Holder = record { thread = c.args.holder.thread; level = c.args.holder.level; left = c.if-is_same.left } in
    let parts : (lowered_by n x (Some stored) ≡ Some c.args.holder) × (map (taken n x) rows ≡ c.args.self.now) = elim c.if-is_same.branch [
      | then-is_same+then-self-holder w ↦ (
        rw (w.left-is, w.self-inside-is) (lowered-back before.owed before.debtor c.args.holder (sym c.is_same.ensures ∙ w.if-is_same.true)),
        rw w.self-inside-is c.self.view_is,
      )
      | else-is_same w ↦ (
        rw (w.left-is, w.self-inside-is, w.pay.ensures.owed) (lowered-none before.debtor (Some c.args.holder)),
        rw w.self-inside-is
            (paid before.owed w.pay.new.owed before.debtor before.rows.items w.pay.new.rows w.pay.ensures.owed
            (w.pay.ensures.rows ∙ ap (map (taken before.owed before.debtor)) w.as_mut_slice.ensures.value)
            ∙ c.self.view_is),
      )
    ] in
    let below : c.args.mutex < length rows =
    subst (λ k. c.args.mutex < k) (ap (λ (rs : List Lockable). length rs) (sym parts.1) ∙ length-map rows (taken n x)) c.requires in
    rw c.deref_mut.ensures.value
    (ap (map (taken n x)) (give-row (Some stored) c.args.mutex rows no_row below))
    ∙ given-taken n x (Some stored) c.args.mutex rows
    ∙ ap (λ o. given_to o c.args.mutex (map (taken n x) rows)) parts.0
    ∙ ap (given_to (Some c.args.holder) c.args.mutex) parts.1
