use Rattle.dk_mutex.proofs.Names.{◌∙◌, ap, length, map, subst, sym, List, refill, Lockable, taken, IsFrontOf}
use Rattle.dk_mutex.proofs.Owed.{paid, taken-none}
use Rattle.dk_mutex.proofs.rows.Rows.front.Goals as goal

pub returns-clause-rows : goal.returns-clause-rows
returns-clause-rows c =
    let n = c.self.inside.owed in
    let x = c.self.inside.debtor in
    paid n c.pay.new.owed x c.self.inside.rows.items c.pay.new.rows c.pay.ensures.owed
    (c.pay.ensures.rows ∙ ap (map (taken n x)) c.as_mut_slice.ensures.value)
    ∙ c.self.view_is

pub returns-clause-front : goal.returns-clause-front
returns-clause-front c =
    let x = c.self.inside.debtor in
    let rows = c.self.inside.rows.items in
    let settled : List Lockable = refill (length rows) rows c.pay.new.rows in
    subst (IsFrontOf c.of.result)
    (c.as_slice.ensures.value ∙ sym (ap (λ k. map (taken k x) settled) c.pay.ensures.owed ∙ taken-none x settled))
    c.of.ensures
