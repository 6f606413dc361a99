use Rattle.dk_ledger.proofs.Names.{◌≡◌, ◌∙◌, sym, ap, get_or, [], Some, decimal, Entry, label_words, event_words}
use Rattle.dk_ledger.proofs.NextItem.{nothing}
use Rattle.dk_ledger.proofs.WordLists.{word_at, behind_numbers}
use Rattle.dk_ledger.proofs.words.line_of.Goals as goal

pub returns-in_err-entry-clause-found : goal.returns-in_err-entry-clause-found
returns-in_err-entry-clause-found c = λ line label event start count e.
    let words = behind_numbers c.args.words.now (decimal line.start) (decimal line.count) (label_words c.args.header.now line.label (event_words line.event)) e in
    absurd (nothing (sym c.in_err-entry.was ∙ c.entry_of.ensures.found (record { label = line.label; event = line.event }) (record { label = label; event = event }) words))

pub returns-clause-found : goal.returns-clause-found
returns-clause-found c = λ line label event start count e.
    let entry : Entry = record { label = line.label; event = line.event } in
    let words = behind_numbers c.args.words.now (decimal line.start) (decimal line.count) (label_words c.args.header.now line.label (event_words line.event)) e in
    let found : Some c.in_ok-entry.entry ≡ Some entry = sym c.in_ok-entry.was ∙ c.entry_of.ensures.found entry (record { label = label; event = event }) words in
    let same : c.in_ok-entry.entry ≡ entry = cc in
    let first = c.number.ensures line.start start (word_at c.args.words.now 0 _ ∙ ap (λ ws. get_or ws 0 []) e) in
    let second = c.number-2.ensures line.count count (word_at c.args.words.now 1 _ ∙ ap (λ ws. get_or ws 1 []) e) in
    ap (λ n. Some (record { start = n; count = c.number-2.result; label = c.in_ok-entry.entry.label; event = c.in_ok-entry.entry.event })) first
    ∙ ap (λ n. Some (record { start = line.start; count = n; label = c.in_ok-entry.entry.label; event = c.in_ok-entry.entry.event })) second
    ∙ ap (λ (z : Entry). Some (record { start = line.start; count = line.count; label = z.label; event = z.event })) same
