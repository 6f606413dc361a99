use Rattle.std.proofs.Common.{◌≡◌, ◌∙◌, ◌++◌, ◌∷◌, [], List, ℕ, sym, ap, append_assoc, append-nil}
use Rattle.std.specs.Prelude.{decimal}
use Rattle.dk_ledger.specs.Words.{event_words, label_words, line_words}
use Rattle.dk_entry_words.specs.Parted.{behind, byte_of, parted}
use Rattle.dk_entry_words.proofs.ReadBack.{label_behind, line_blanks}
use Rattle.dk_entry_words.proofs.writing.line_words.Goals as goal

in_turn : (start count label event : List ℕ) (sep : ℕ) → ((start ++ behind sep (count ∷ [])) ++ label) ++ event ≡ start ++ sep ∷ (count ++ (label ++ event))
in_turn start count label event sep = simp (append_assoc, append-nil)

pub returns-clause-words : goal.returns-clause-words
returns-clause-words c =
    let h = c.args.header.now in
    let line = c.args.line in
    let sep = byte_of c.args.separator in
    let start = decimal line.start in
    let count = decimal line.count in
    let label = behind sep (label_words h line.label []) in
    let event = behind sep (event_words line.event) in
    let first = c.push_digits.ensures.bytes ∙ ap (λ t. t ++ start) c.new-text.ensures in
    let second = c.push_number.ensures.bytes ∙ ap (λ t. t ++ behind sep (count ∷ [])) first in
    let third = c.push_label.ensures.bytes ∙ ap (λ t. t ++ label) second in
    c.push_event_part.ensures.bytes ∙ ap (λ t. t ++ event) third ∙ in_turn start count label event sep
    ∙ ap (λ t. start ++ sep ∷ (count ++ t)) (sym (label_behind sep h line.label (event_words line.event)))

pub returns-clause-as_in_ledger : goal.returns-clause-as_in_ledger
returns-clause-as_in_ledger c = λ is.
    returns-clause-words c ∙ ap (λ s. parted (byte_of s) (line_words c.args.header.now c.args.line)) is ∙ line_blanks c.args.header.now c.args.line
