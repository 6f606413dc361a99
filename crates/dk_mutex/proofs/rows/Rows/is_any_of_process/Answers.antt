use Rattle.dk_mutex.proofs.Names.{◌∙◌, ap, sym, list_any, is_by_process}
use Rattle.dk_mutex.proofs.Owed.{taken-process}
use Rattle.dk_mutex.proofs.rows.Rows.is_any_of_process.Goals as goal

pub returns : goal.returns
returns c =
    c.is_any_of_process.ensures
    ∙ ap (list_any (is_by_process c.args.process)) c.as_slice.ensures.value
    ∙ sym (taken-process c.self.inside.owed c.self.inside.debtor c.args.process c.self.inside.rows.items)
    ∙ ap (list_any (is_by_process c.args.process)) c.self.view_is
