use Rattle.dk_mutex.proofs.Names.{◌<◌, ◌∙◌, ap, sym, subst, length, map, List, None, length-map, Lockable, taken, given_to}
use Rattle.dk_mutex.proofs.Giving.{give-row}
use Rattle.dk_mutex.proofs.Least.{no_row}
use Rattle.dk_mutex.proofs.Owed.{given-taken}
use Rattle.dk_mutex.proofs.rows.Rows.free.Goals as goal

pub returns : goal.returns
returns c =
    let rows = c.self.inside.rows.items in
    let n = c.self.inside.owed in
    let x = c.self.inside.debtor in
    let below : c.args.mutex < length rows =
    subst (λ k. c.args.mutex < k) (ap (λ (rs : List Lockable). length rs) (sym c.self.view_is) ∙ length-map rows (taken n x)) c.requires in
    rw c.deref_mut.ensures.value
    (ap (map (taken n x)) (give-row None c.args.mutex rows no_row below))
    ∙ given-taken n x None c.args.mutex rows
    ∙ ap (given_to None c.args.mutex) c.self.view_is
