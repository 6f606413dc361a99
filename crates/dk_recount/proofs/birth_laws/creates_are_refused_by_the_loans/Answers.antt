use Rattle.dk_recount.proofs.Names.{◌∙◌, ◌∷◌, inl, inr, eqb, ap, length, Some, refl, if◌then◌else◌, cases_Bool, Refusal, quiet, Book, lend_refusal}
use Rattle.dk_recount.proofs.Create.Call.{create-refused}
use Rattle.dk_recount.proofs.birth_laws.creates_are_refused_by_the_loans.Goals as goal

pub returns : goal.returns
returns c = create-refused c.callers_law.ensures.stand
    (λ k label past d x level quota entry instructions calling among.
    let charged = calling.charged in
    let ruled = charged.ruled in
    let known = ((c.rows_law.ensures.named k past ruled.checked ruled.accepted ruled.audited).place x among).0 in
    elim (cases_Bool (eqb x.id.serial 0)) [
      | inl main ↦
          ap (λ b. if b then lend_refusal d.loans x.id.process level quota entry instructions else Some Refusal.NotMain) main
          ∙ ap (λ (b : Book). lend_refusal b x.id.process level quota entry instructions) charged.recount.loans
          ∙ c.refusals_are_the_pasts.ensures k (length past) (quiet label ∷ past) x level quota entry instructions known main
      | inr child ↦ rw child refl
    ])
