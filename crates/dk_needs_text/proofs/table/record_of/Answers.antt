use Rattle.std.proofs.Common.{◌≡◌, ◌∙◌, [], ◌∷◌, string_bytes}
use Rattle.std.proofs.lemmas.Result.{IfOk-weaker}
use Rattle.dk_needs_text.specs.Csv.{joined_record, record_text}
use Rattle.dk_needs_text.proofs.Plain.{record_of_plain}
use Rattle.dk_needs_text.proofs.table.record_of.Goals as goal

pub returns : goal.returns
returns c =
    let a = c.args in
    let r = c.requires in
    let rest = a.subject.now ∷ a.measure.now ∷ a.number.now ∷ a.asked.now ∷ a.reason.now ∷ [] in
    IfOk-weaker c.joined_record.result (λ s. string_bytes s ≡ joined_record a.verdict.now (a.id.now ∷ rest)) (λ s. string_bytes s ≡ record_text (a.verdict.now ∷ a.id.now ∷ rest))
    (λ s is. is ∙ record_of_plain a.verdict.now a.id.now rest r.verdict (r.id, (r.subject, (r.measure, (r.number, (r.asked, (r.reason, tt))))))) c.joined_record.ensures
