use Rattle.std.proofs.Common.{◌≡◌, ◌∙◌, ◌++◌, ◌∷◌, [], List, ℕ, sym, ap, append_assoc, append-nil}
use Rattle.std.specs.Prelude.{codes, decimal}
use Rattle.dk_trace.specs.declared.Source.{Source}
use Rattle.dk_ledger.specs.LineText.{work_text}
use Rattle.dk_ledger.specs.Words.{source_words}
use Rattle.dk_entry_words.specs.Parted.{behind, byte_of}
use Rattle.dk_entry_words.proofs.writing.push_slack.Goals as goal

in_turn : (old word level work : List ℕ) (sep : ℕ) → ((old ++ behind sep (word ∷ [])) ++ behind sep (level ∷ [])) ++ behind sep (work ∷ []) ≡ old ++ behind sep (word ∷ level ∷ work ∷ [])
in_turn old word level work sep = simp (append_assoc, append-nil)

pub returns-in-Reclaimed-clause-bytes : goal.returns-in-Reclaimed-clause-bytes
returns-in-Reclaimed-clause-bytes c =
    let old = c.args.text.now.bytes in
    let sep = byte_of c.args.separator in
    let level = decimal c.in-Reclaimed.level in
    let work = work_text c.args.work in
    let second = c.push_number.ensures.bytes ∙ ap (λ t. t ++ behind sep (level ∷ [])) c.push_word-in-Reclaimed.ensures.bytes in
    c.push_word-in-Reclaimed-2.ensures.bytes ∙ ap (λ t. t ++ behind sep (c.work_word-in-Reclaimed.result.now ∷ [])) second
    ∙ ap (λ w. ((old ++ behind sep (codes "reclaimed" ∷ [])) ++ behind sep (level ∷ [])) ++ behind sep (w ∷ [])) c.work_word-in-Reclaimed.ensures.text
    ∙ in_turn old (codes "reclaimed") level work sep
    ∙ ap (λ (s : Source). old ++ behind sep (source_words s (work ∷ []))) (sym c.in-Reclaimed.is)
