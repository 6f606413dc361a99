-- What the words of a line tell of the item that may come next.
use Rattle.dk_ledger.proofs.Names.{◌≡◌, ◌∙◌, ◌<◌, ◌≤◌, ◌+◌, ap, refl, subst, arith, ℕ, zero, suc, Bool, true, false, List, [], ◌∷◌, length, Some, None, Result, Ok, Err, IfOk, ◌||◌, slice_get, not, cond, ltb-true, ltb-false, or_parts, Bor, list_any, list_all, position, prefix_len, AllByRecursion, option_map_or, bytes_eq, is_name, TableRow, ProcessLine, LedgerLine, IsPrintable, level_body, process_body, line_body, IsProcessLine, Kept, IsKept, LevelFits, ProcessFits, TicksFit, end_body, texts, words_of, level_words, process_words, line_words, end_words, nat_tests}
use Rattle.dk_ledger.proofs.NameLemmas.{both}
use Rattle.dk_ledger.proofs.Split.{cut_level, cut_process, cut_line, cut_end}

pub nothing : {A : Type 0} {x : A} → None ≡ Some x → ⊥
nothing e = cc

pub if_ok : {A E : Type 0} (r : Result A E) (x : A) (P : A → Type 0) → r ≡ Ok x → IfOk r P → P x
if_ok (Ok y) x P e h = let same : y ≡ x = cc in subst P same h
if_ok (Err y) x P e h = absurd (cc)

pub one_side : {b : Bool} → b ≡ true → b ≡ false → ⊥
one_side e f = cc

pub names_fit : (levels : ℕ) (ps : List ProcessLine) → AllByRecursion (IsProcessLine levels) ps → list_all (λ p. is_name p.name) ps ≡ true
names_fit levels [] h = refl
names_fit levels (p ∷ ps) h = both (is_name p.name) (list_all (λ q. is_name q.name) ps) h.0.name (names_fit levels ps h.1)

pub part_printable : (p : Kept) → IsKept p → IsPrintable p.heading
part_printable p part = record { levels = part.few_levels; processes = part.few_processes; names = names_fit (length p.heading.levels) p.heading.processes part.processes }

module _ (p : Kept) (line : List ℕ) (words : List (Bor (List ℕ))) (split : texts words ≡ words_of line) where
  pub level_found : (row : TableRow) → LevelFits p row → line ≡ level_body (length p.heading.levels) row → texts words ≡ level_words (length p.heading.levels) row
  level_found row fits is = split ∙ ap words_of is ∙ cut_level (length p.heading.levels) row

  pub process_found : (q : ProcessLine) → IsKept p → ProcessFits p q → line ≡ process_body q → texts words ≡ process_words q
  process_found q part fits is = split ∙ ap words_of is ∙ cut_process q fits.readable.name

  pub ticks_found : (l : LedgerLine) → IsKept p → TicksFit p l → line ≡ line_body p.heading l → texts words ≡ line_words p.heading l
  ticks_found l part fits is = grind (arith, nat_tests, cut_line, part_printable)

  pub end_found : IsKept p → line ≡ end_body p.ticks → texts words ≡ end_words p.ticks
  end_found part is = split ∙ ap words_of is ∙ cut_end p.ticks

-- whether a header has a process of the name
pub unnamed : (ps : List ProcessLine) (name : List ℕ) → list_any (λ line. bytes_eq line.name name) ps ≡ false
    → (q : ℕ) → q < length ps → bytes_eq (option_map_or (λ line. line.name) (slice_get ps q) []) name ≡ false
unnamed [] name none q l = absurd (omega arith)
unnamed (p ∷ ps) name none zero l = (or_parts (bytes_eq p.name name) (list_any (λ line. bytes_eq line.name name) ps) none).0
unnamed (p ∷ ps) name none (suc q) l = unnamed ps name (or_parts (bytes_eq p.name name) (list_any (λ line. bytes_eq line.name name) ps) none).1 q (omega arith)

pub no_name : (ps : List ProcessLine) (name : List ℕ) → ((q : ℕ) → q < length ps → bytes_eq (option_map_or (λ line. line.name) (slice_get ps q) []) name ≡ false)
    → list_any (λ line. bytes_eq line.name name) ps ≡ false
no_name [] name other = refl
no_name (p ∷ ps) name other =
    ap (λ b. b || list_any (λ line. bytes_eq line.name name) ps) (other 0 (omega arith)) ∙ no_name ps name (λ q l. other (suc q) (omega arith))

-- the test has failed at the first, and at as many behind it
pub goes_past : (x : Bool) (n m : ℕ) → suc n ≤ cond (not x) (1 + m) 0 → (x ≡ false) × (n ≤ m)
goes_past x n m l = grind (arith, nat_tests)

all_fail : {A : Type 0} (t : A → Bool) (xs : List A) → length xs ≤ prefix_len (λ x. not (t x)) xs → list_any t xs ≡ false
all_fail t [] long = refl
all_fail t (x ∷ xs) long = grind (arith, nat_tests, all_fail t xs)

past_all : {A : Type 0} (t : A → Bool) (xs : List A) → list_any t xs ≡ false → prefix_len (λ x. not (t x)) xs ≡ length xs
past_all t [] none = refl
past_all t (x ∷ xs) none = grind (arith, nat_tests, past_all t xs)

-- no place is found exactly where no element passes
pub none_passes : {A : Type 0} (t : A → Bool) (xs : List A) → position t xs ≡ None → list_any t xs ≡ false
none_passes t xs none = grind (arith, nat_tests, all_fail, nothing, ltb-false)

pub no_place : {A : Type 0} (t : A → Bool) (xs : List A) → list_any t xs ≡ false → position t xs ≡ None
no_place t xs none = grind (arith, nat_tests, past_all, ltb-true)
