use Rattle.dk_recount.proofs.Names.{◌∙◌, ◌∷◌, None, ap, sym, option_map_or, Thread, delete_refusal, quiet, delete_refusal_in}
use Rattle.dk_recount.proofs.Stop.Delete.{refused-alike}
use Rattle.dk_recount.proofs.stop_laws.deletes_are_refused_by_the_rows.Goals as goal

pub returns : goal.returns
returns c = λ x k label past d serial calling.
    let charged = calling.charged in
    let caller = c.callers_law.ensures.stand k past charged.ruled.checked charged.ruled.accepted charged.ruled.audited label x charged.chose calling.caller calling.call in
    ap (λ i. delete_refusal_in d.threads i serial) (sym caller.id)
    ∙ refused-alike k label past d charged c.rows_law.ensures.families c.rows_law.ensures.named caller.row serial caller.among
    ∙ sym (ap (λ o. option_map_or (λ (y : Thread). delete_refusal k (quiet label ∷ past) y serial) o None) caller.found)
