use Rattle.dk_mutex.proofs.Names.{◌∙◌, ap, length, map, List, refill, Lockable, length-map, freed, taken}
use Rattle.dk_mutex.proofs.Giving.{rows-whole}
use Rattle.dk_mutex.proofs.Owed.{taken-none}
use Rattle.dk_mutex.proofs.rows.Rows.free_all.Goals as goal

pub returns : goal.returns
returns c =
    let rows = c.self.inside.rows.items in
    let n = c.self.inside.owed in
    let x = c.self.inside.debtor in
    let settled : List Lockable = refill (length rows) rows c.pay.new.rows in
    let paid = c.pay.ensures.rows ∙ ap (map (taken n x)) c.as_mut_slice.ensures.value in
    let made = c.free_all.ensures ∙ ap (map (freed c.args.id)) c.as_mut_slice-2.ensures.value in
    ap (λ k. map (taken k x) (refill (length settled) settled c.free_all.new.rows)) c.pay.ensures.owed
    ∙ taken-none x (refill (length settled) settled c.free_all.new.rows)
    ∙ rows-whole _ settled _ made (length-map settled (freed c.args.id))
    ∙ ap (map (freed c.args.id)) (rows-whole _ rows _ paid (length-map rows (taken n x)) ∙ c.self.view_is)
