-- The lines of a ledger are printed bytes, without line feeds.
use Rattle.dk_ledger.proofs.Names.{◌≡◌, ◌∙◌, ◌<◌, ap, refl, arith, ℕ, zero, suc, Bool, true, false, List, [], ◌∷◌, length, get_or, ◌&&◌, ◌==◌, nat_lt, All, list_all, IsUtf8, IsUtf8-from_ascii, nat_tests, is_name, TableRow, ProcessLine, LedgerLine, Heading, level_body, process_body, line_body, parted, Kept, Item, IsKept, Fits, item_body, end_body, AreSpelled, end_words, is_spelled, level_words, line_words, process_words}
use Rattle.dk_ledger.proofs.NameLemmas.{both_left, both_right}
use Rattle.dk_ledger.proofs.Spelled.{end_spelled, level_spelled, line_spelled, parted_all, process_line_spelled}
use Rattle.dk_ledger.proofs.Split.{level_parted, process_parted, end_parted, line_parted}
use Rattle.dk_ledger.proofs.NextItem.{part_printable}

-- a printed byte
abbrev pub is_plain : ℕ → Bool
is_plain b = nat_lt 31 b && nat_lt b 127

spelled_plain : (b : ℕ) → is_spelled b ≡ true → is_plain b ≡ true
spelled_plain b h = grind (arith, nat_tests)

words_plain : (ws : List (List ℕ)) → AreSpelled ws → list_all is_plain (parted 32 ws) ≡ true
words_plain ws all = parted_all is_plain spelled_plain 32 refl ws all

pub level_plain : (j : ℕ) (row : TableRow) → list_all is_plain (level_body j row) ≡ true
level_plain j row = ap (list_all is_plain) (level_parted j row) ∙ words_plain (level_words j row) (level_spelled j row)

pub process_plain : (q : ProcessLine) → is_name q.name ≡ true → list_all is_plain (process_body q) ≡ true
process_plain q is = ap (list_all is_plain) (process_parted q) ∙ words_plain (process_words q) (process_line_spelled q is)

pub line_plain : (h : Heading) → list_all (λ p. is_name p.name) h.processes ≡ true → (l : LedgerLine) → list_all is_plain (line_body h l) ≡ true
line_plain h names l = ap (list_all is_plain) (line_parted h l) ∙ words_plain (line_words h l) (line_spelled h names l)

pub end_plain : (n : ℕ) → list_all is_plain (end_body n) ≡ true
end_plain n = ap (list_all is_plain) (end_parted n) ∙ words_plain (end_words n) (end_spelled n)

pub item_plain : (p : Kept) (i : Item) → IsKept p → Fits p i → list_all is_plain (item_body p i) ≡ true
item_plain p i part fits = grind (arith, nat_tests, level_plain, process_plain, line_plain, part_printable, end_plain)

plain_at : (bs : List ℕ) → list_all is_plain bs ≡ true → (i : ℕ) → get_or bs i 0 < 128
plain_at [] h i = omega arith
plain_at (b ∷ bs) h zero = let first = both_left (is_plain b) (list_all is_plain bs) h in grind (arith, nat_tests)
plain_at (b ∷ bs) h (suc i) = plain_at bs (both_right (is_plain b) (list_all is_plain bs) h) i

pub plain_text : (bs : List ℕ) → list_all is_plain bs ≡ true → IsUtf8 bs
plain_text bs h = IsUtf8-from_ascii bs (plain_at bs h)

plain_no_feed : (bs : List ℕ) → list_all is_plain bs ≡ true → (i d : ℕ) → i < length bs → (get_or bs i d == 10) ≡ false
plain_no_feed [] h i d l = absurd (omega arith)
plain_no_feed (b ∷ bs) h zero d l = let first = both_left (is_plain b) (list_all is_plain bs) h in grind (arith, nat_tests)
plain_no_feed (b ∷ bs) h (suc i) d l = plain_no_feed bs (both_right (is_plain b) (list_all is_plain bs) h) i d (omega arith)

-- no byte is a line feed
pub no_feeds : (bs : List ℕ) → list_all is_plain bs ≡ true → All (λ b. (b == 10) ≡ false) bs
no_feeds bs h = λ i d l. plain_no_feed bs h i d l
