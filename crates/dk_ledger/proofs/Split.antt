-- The lines of a ledger, cut at their blanks.
use Rattle.dk_ledger.proofs.Names.{◌≡◌, ◌∙◌, sym, ap, refl, ◌<◌, ◌≤◌, ℕ, zero, suc, Bool, true, false, List, [], ◌∷◌, ◌++◌, length, get_or, arith, append_assoc, append-nil, take, ◌==◌, Option, codes, decimal, All, list_all, slice_split, slice_split_at, slice_split_none, nat_tests, take_all, ThreadId, Source, Work, Label, Event, Refusal, number, TableRow, ProcessLine, LedgerLine, Heading, level_body, process_body, thread_text, work_text, slack_text, label_text, event_part, line_body, behind, parted, end_body, level_words, process_words, end_words, source_words, label_words, event_words, line_words, words_of, AreSpelled, IsSpelled, is_spelled, is_name}
use Rattle.dk_ledger.proofs.NameLemmas.{both_left, both_right}
use Rattle.dk_ledger.proofs.Spelled.{end_spelled, level_spelled, line_spelled, process_line_spelled}

abbrev is_blank : ℕ → Bool
is_blank b = b == 32

no_blank : (w : List ℕ) → IsSpelled w → (i d : ℕ) → i < length w → is_blank (get_or w i d) ≡ false
no_blank [] h i d l = absurd (omega arith)
no_blank (b ∷ bs) h zero d l = let first = both_left (is_spelled b) (list_all is_spelled bs) h in grind (arith, nat_tests)
no_blank (b ∷ bs) h (suc i) d l = no_blank bs (both_right (is_spelled b) (list_all is_spelled bs) h) i d (omega arith)

no_blanks : (w : List ℕ) → IsSpelled w → All (λ b. is_blank b ≡ false) w
no_blanks w h = λ i d l. no_blank w h i d l

-- words that blanks part are cut again
cut_parted : (w : List ℕ) (ws : List (List ℕ)) → AreSpelled (w ∷ ws) → slice_split (λ b. b == 32) (parted 32 (w ∷ ws)) ≡ w ∷ ws
cut_parted w [] all = ap (slice_split is_blank) (append-nil w) ∙ slice_split_none is_blank w (no_blanks w all.0)
cut_parted w (v ∷ ws) all = slice_split_at is_blank w 32 (parted 32 (v ∷ ws)) (no_blanks w all.0) refl ∙ ap (λ rest. w ∷ rest) (cut_parted v ws all.1)

cut_words : (ws : List (List ℕ)) → 0 < length ws → AreSpelled ws → slice_split (λ b. b == 32) (parted 32 ws) ≡ ws
cut_words ws some all = grind (arith, nat_tests, cut_parted)

pub level_parted : (j : ℕ) (row : TableRow) → level_body j row ≡ parted 32 (level_words j row)
level_parted j row = simp (append_assoc, append-nil)

pub process_parted : (p : ProcessLine) → process_body p ≡ parted 32 (process_words p)
process_parted p = simp (append_assoc, append-nil)

pub end_parted : (n : ℕ) → end_body n ≡ parted 32 (end_words n)
end_parted n = simp append-nil

words_behind : (a w t b : List ℕ) → a ++ (w ++ 32 ∷ (t ++ b)) ≡ (((a ++ w) ++ 32 ∷ []) ++ t) ++ b
words_behind a w t b = simp append_assoc

word_behind : (a w b : List ℕ) → a ++ (w ++ 32 ∷ b) ≡ ((a ++ w) ++ 32 ∷ []) ++ b
word_behind a w b = simp append_assoc

slack_behind : (h : Heading) (x : ThreadId) (source : Source) (work : Work) (more : List (List ℕ))
    → parted 32 (codes "slack" ∷ source_words source (work_text work ∷ thread_text h x ∷ more)) ≡ slack_text h x source work ++ behind 32 more
slack_behind h x Source.Timeline work more = words_behind (codes "slack timeline ") (work_text work) (thread_text h x) (behind 32 more)
slack_behind h x (Source.Reclaimed j) work more =
    word_behind (codes "slack reclaimed ") (decimal j) (work_text work ++ 32 ∷ (thread_text h x ++ behind 32 more))
    ∙ words_behind ((codes "slack reclaimed " ++ decimal j) ++ 32 ∷ []) (work_text work) (thread_text h x) (behind 32 more)

label_behind : (h : Heading) (label : Label) (more : List (List ℕ)) → behind 32 (label_words h label more) ≡ 32 ∷ (label_text h label ++ behind 32 more)
label_behind h label more = grind (arith, nat_tests, slack_behind)

event_behind : (event : Option Event) → event_part event ≡ behind 32 (event_words event)
event_behind event = grind (arith, nat_tests)

pub line_parted : (h : Heading) (l : LedgerLine) → line_body h l ≡ parted 32 (line_words h l)
line_parted h l =
    let label : 32 ∷ (label_text h l.label ++ event_part l.event) ≡ behind 32 (label_words h l.label (event_words l.event)) =
    ap (λ t. 32 ∷ (label_text h l.label ++ t)) (event_behind l.event) ∙ sym (label_behind h l.label (event_words l.event)) in
    let regrouped : line_body h l ≡ decimal l.start ++ 32 ∷ (decimal l.count ++ 32 ∷ (label_text h l.label ++ event_part l.event)) = simp append_assoc in
    regrouped ∙ ap (λ t. decimal l.start ++ 32 ∷ (decimal l.count ++ t)) label

pub cut_level : (j : ℕ) (row : TableRow) → words_of (level_body j row) ≡ level_words j row
cut_level j row = ap words_of (level_parted j row) ∙ ap (take 12) (cut_words (level_words j row) (omega arith) (level_spelled j row))

pub cut_process : (p : ProcessLine) → is_name p.name ≡ true → words_of (process_body p) ≡ process_words p
cut_process p is = ap words_of (process_parted p) ∙ ap (take 12) (cut_words (process_words p) (omega arith) (process_line_spelled p is))

pub cut_end : (n : ℕ) → words_of (end_body n) ≡ end_words n
cut_end n = ap words_of (end_parted n) ∙ ap (take 12) (cut_words (end_words n) (omega arith) (end_spelled n))

pub refusal_small : (refusal : Refusal) → number refusal ≤ 15
refusal_small refusal = grind (arith, nat_tests)

few_words : (h : Heading) (l : LedgerLine) → length (line_words h l) ≤ 12
few_words h l = grind (arith, nat_tests)

pub cut_line : (h : Heading) → list_all (λ p. is_name p.name) h.processes ≡ true → (l : LedgerLine) → words_of (line_body h l) ≡ line_words h l
cut_line h names l =
    ap words_of (line_parted h l) ∙ ap (take 12) (cut_words (line_words h l) (omega arith) (line_spelled h names l))
    ∙ take_all 12 (line_words h l) (few_words h l)
