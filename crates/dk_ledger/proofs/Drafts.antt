-- A line whose tick is counted up where it stands.
use Rattle.dk_ledger.proofs.Names.{ℕ, ◌≡◌, ◌∙◌, List, ◌++◌, ◌∷◌, [], length, take, drop, ap, sym, codes, decimal, take-append_seam, drop-append_seam, Heading, LedgerLine, label_text, event_part, ledger_line}
use Rattle.dk_ledger.proofs.NumberText.{in_front}

-- what comes after the tick, with the line feed
abbrev rest : Heading → LedgerLine → List ℕ
rest h l = codes " " ++ (decimal l.count ++ (codes " " ++ (label_text h l.label ++ (event_part l.event ++ 10 ∷ []))))

begins : (h : Heading) (l : LedgerLine) → ledger_line h l ≡ decimal l.start ++ rest h l
begins h l = in_front (decimal l.start) (codes " ") (decimal l.count) (codes " ") (label_text h l.label) (event_part l.event) (10 ∷ [])

-- a text begins with a front of so many bytes
pub begins_with : (front behind text : List ℕ) (digits : ℕ) → digits ≡ length front → text ≡ front ++ behind → take digits text ≡ front
begins_with front behind text digits all is = ap (take digits) is ∙ ap (λ n. take n (front ++ behind)) all ∙ take-append_seam front behind

-- with another tick in front, the text of a line is that of the line from that tick on
pub counted_up : (h : Heading) (l : LedgerLine) (tick digits : ℕ) (old new : List ℕ) → digits ≡ length (decimal l.start) → old ≡ ledger_line h l
    → new ≡ decimal tick ++ drop digits old → new ≡ ledger_line h (record l { start = tick })
counted_up h l tick digits old new all line is =
    is
    ∙ ap (λ t. decimal tick ++ drop digits t) (line ∙ begins h l)
    ∙ ap (λ n. decimal tick ++ drop n (decimal l.start ++ rest h l)) all
    ∙ ap (λ t. decimal tick ++ t) (drop-append_seam (decimal l.start) (rest h l))
    ∙ sym (begins h (record l { start = tick }))
