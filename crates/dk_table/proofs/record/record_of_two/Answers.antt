use Rattle.std.proofs.Common.{◌≡◌, ◌∙◌, ◌++◌, [], ◌∷◌, ap, map, sym, flat_map, string_bytes}
use Rattle.std.proofs.lemmas.List.{append-nil}
use Rattle.std.proofs.lemmas.Result.{IfOk-weaker}
use Rattle.dk_table.specs.Records.{behind_comma, number_field, record_text}
use Rattle.dk_table.proofs.Plain.{record_of_words, small_are_plain}
use Rattle.dk_table.proofs.record.record_of_two.Goals as goal

pub returns : goal.returns
returns c =
    let a = c.args in
    let r = c.requires in
    let numbers = flat_map (λ n. behind_comma (number_field n)) a.numbers.now in
    let words = [] in
    IfOk-weaker c.ended.result (λ s. string_bytes s ≡ (string_bytes c.in_ok-words.words ++ numbers) ++ 10 ∷ [])
    (λ s. string_bytes s ≡ record_text (a.first.now ∷ a.second.now ∷ map number_field a.numbers.now))
    (λ s is. is ∙ record_of_words a.first.now a.second.now words a.numbers.now (string_bytes c.in_ok-words.words) r.first
    (r.second, small_are_plain a.numbers.now r.numbers) (c.in_ok-words.ensures.ok ∙ ap (λ t. a.first.now ++ (44 ∷ t)) (sym (append-nil a.second.now)))) c.ended.ensures
