use Rattle.dk_mutex.proofs.Names.{◌∙◌, add-one, ap, sym, map, same-id, spent, taken}
use Rattle.dk_mutex.proofs.Owed.{taken-more}
use Rattle.dk_mutex.proofs.rows.Rows.spend.Goals as goal

pub returns-then-self-lt4294967295 : goal.returns-then-self-lt4294967295
returns-then-self-lt4294967295 c =
    let rows = c.self.inside.rows.items in
    let n = c.self.inside.owed in
    let x = c.self.inside.debtor in
    rw add-one (taken-more n x rows)
    ∙ ap (λ y. map (spent y) (map (taken n x) rows)) (sym (same-id c.args.id x (sym c.is_same.ensures ∙ c.if-is_same.true)))
    ∙ ap (map (spent c.args.id)) c.self.view_is
