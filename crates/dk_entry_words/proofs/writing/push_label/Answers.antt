use Rattle.std.proofs.Common.{◌≡◌, ◌∙◌, ◌++◌, ◌∷◌, [], List, ℕ, sym, ap, append_assoc}
use Rattle.dk_ledger.specs.LineText.{thread_text}
use Rattle.dk_entry_words.specs.Works.{work_words}
use Rattle.dk_entry_words.specs.Parted.{byte_of, parted}
use Rattle.dk_entry_words.proofs.ReadBack.{label_whole, thread_behind}
use Rattle.dk_entry_words.proofs.writing.push_label.Goals as goal

in_turn : (old work thread : List ℕ) (sep : ℕ) → (((old ++ sep ∷ []) ++ work) ++ sep ∷ []) ++ thread ≡ old ++ sep ∷ (work ++ sep ∷ thread)
in_turn old work thread sep = simp append_assoc

pub returns-in-Some-clause-bytes : goal.returns-in-Some-clause-bytes
returns-in-Some-clause-bytes c =
    let h = c.args.header.now in
    let old = c.args.text.now.bytes in
    let sep = byte_of c.args.separator in
    let work = parted sep (work_words c.args.label) in
    let thread = thread_text h c.in-Some.thread in
    let first = c.push_str.ensures.bytes ∙ ap (λ t. old ++ t) c.as_str.ensures in
    let second = c.push_work.ensures.bytes ∙ ap (λ t. t ++ work) first in
    let third = c.push_str-in-Some.ensures.bytes ∙ ap (λ t. c.push_work.new.text.bytes ++ t) c.as_str-in-Some.ensures ∙ ap (λ t. t ++ sep ∷ []) second in
    c.push_thread.ensures.bytes ∙ ap (λ t. t ++ thread) third ∙ in_turn old work thread sep
    ∙ ap (λ t. old ++ t) (sym (label_whole sep h c.args.label ∙ ap (λ o. sep ∷ (work ++ thread_behind sep h o)) (sym c.thread.ensures ∙ c.in-Some.is)))
