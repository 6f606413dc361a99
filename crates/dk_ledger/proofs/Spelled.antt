-- The words of a line are of lower letters, digits, underscores and dots.
use Rattle.dk_ledger.proofs.Names.{ℕ, zero, suc, ◌≡◌, ◌∙◌, ◌+◌, ◌<◌, ◌++◌, [], ◌∷◌, List, ap, refl, arith, digit_glyph, digits_onto, if◌then◌else◌, decimal, slice_get, Option, list_all, option_map_or, lt-ltb, nat_tests, is_name, is_word, FaultKind, ThreadId, Work, Label, Event, Arguments, word_of, TableRow, ProcessLine, LedgerLine, Heading, name_of, argument_words, fault_text, thread_text, work_text, behind, parted, AreSpelled, IsSpelled, end_words, event_words, is_spelled, label_words, level_words, line_words, process_words}
use Rattle.std.specs.Fmt.{digits}
use Rattle.std.specs.Prelude.{Bool, true, false}
use Rattle.dk_ledger.proofs.NameLemmas.{both_left, both_right}
use Rattle.dk_ledger.proofs.WordBytes.{all_more}

pub all_append : (f : ℕ → Bool) (xs ys : List ℕ) → list_all f xs ≡ true → list_all f ys ≡ true → list_all f (xs ++ ys) ≡ true
all_append f [] ys h k = k
all_append f (x ∷ xs) ys h k = grind (arith, nat_tests, all_append f xs)

-- what holds of the bytes of words, and of the byte between them, holds of all
module _ (p : ℕ → Bool) (spelled : (b : ℕ) → is_spelled b ≡ true → p b ≡ true) where
  pub word_all : (w : List ℕ) → IsSpelled w → list_all p w ≡ true
  word_all w is = all_more is_spelled p spelled w is

  pub behind_all : (sep : ℕ) → p sep ≡ true → (ws : List (List ℕ)) → AreSpelled ws → list_all p (behind sep ws) ≡ true
  behind_all sep own [] all = refl
  behind_all sep own (w ∷ ws) all = grind (arith, nat_tests, all_append, word_all, behind_all sep own ws)

  pub parted_all : (sep : ℕ) → p sep ≡ true → (ws : List (List ℕ)) → AreSpelled ws → list_all p (parted sep ws) ≡ true
  parted_all sep own ws all = grind (arith, nat_tests, all_append, word_all, behind_all)

word_spelled : (b : ℕ) → is_word b ≡ true → is_spelled b ≡ true
word_spelled b h = grind (arith, nat_tests)

own_name_spelled : (name : List ℕ) → is_name name ≡ true → IsSpelled name
own_name_spelled name is = all_more is_word is_spelled word_spelled name (both_right _ (list_all is_word name) is)

-- ---- the digits of any number

digit_spelled : (d : ℕ) → d < 10 → is_spelled (48 + d) ≡ true
digit_spelled d small = grind (arith, nat_tests)

glyph_spelled : (d : ℕ) → d < 10 → is_spelled (digit_glyph false d) ≡ true
glyph_spelled d small = ap (λ b. is_spelled (if b then 48 + d else 87 + d)) (lt-ltb d 10 small) ∙ digit_spelled d small

either : (b : Bool) (s t : List ℕ) → IsSpelled s → IsSpelled t → IsSpelled (if b then s else t)
either b s t ps pt = grind (arith, nat_tests)

onto_spelled : (k n : ℕ) (acc : List ℕ) → IsSpelled acc → IsSpelled (digits_onto k 10 false n acc)
onto_spelled zero n acc h = h
onto_spelled (suc k) n acc h = grind (arith, nat_tests, onto_spelled k)

pub number_spelled : (n : ℕ) → IsSpelled (decimal n)
unfolding digits
number_spelled n = onto_spelled 64 n [] refl

-- ---- the words of a header's lines, and of the last

pub level_spelled : (j : ℕ) (row : TableRow) → AreSpelled (level_words j row)
level_spelled j row = grind (arith, nat_tests, number_spelled)

pub process_line_spelled : (p : ProcessLine) → is_name p.name ≡ true → AreSpelled (process_words p)
process_line_spelled p is = (refl, (own_name_spelled p.name is, (refl, (number_spelled p.level, (refl, (number_spelled p.budget, tt))))))

pub end_spelled : (n : ℕ) → AreSpelled (end_words n)
end_spelled n = (refl, (number_spelled n, tt))

-- ---- the words of a line of entries

pub fault_spelled : (kind : FaultKind) → IsSpelled (fault_text kind)
fault_spelled kind = grind (arith, nat_tests)

pub work_spelled : (work : Work) → IsSpelled (work_text work)
work_spelled work = grind (arith, nat_tests)

arguments_spelled : (arguments : Arguments) → AreSpelled (argument_words arguments)
arguments_spelled arguments = grind (arith, nat_tests, fault_spelled, number_spelled)

pub word_of_spelled : (e : Event) → IsSpelled (word_of e)
word_of_spelled e = grind (arith, nat_tests)

pub event_spelled : (event : Option Event) → AreSpelled (event_words event)
event_spelled event = grind (arith, nat_tests, word_of_spelled, arguments_spelled)

name_spelled : (ps : List ProcessLine) (p : ℕ) → list_all (λ line. is_name line.name) ps ≡ true → IsSpelled (option_map_or (λ line. line.name) (slice_get ps p) [])
name_spelled [] p names = refl
name_spelled (q ∷ ps) zero names = own_name_spelled q.name (both_left (is_name q.name) (list_all (λ line. is_name line.name) ps) names)
name_spelled (q ∷ ps) (suc p) names = name_spelled ps p (both_right (is_name q.name) (list_all (λ line. is_name line.name) ps) names)

module _ (h : Heading) (names : list_all (λ p. is_name p.name) h.processes ≡ true) where
  pub process_spelled : (p : ℕ) → IsSpelled (name_of h p)
  process_spelled p = name_spelled h.processes p names

  pub thread_spelled : (x : ThreadId) → IsSpelled (thread_text h x)
  thread_spelled x = grind (arith, nat_tests, all_append, process_spelled, number_spelled)

  label_spelled : (label : Label) (more : List (List ℕ)) → AreSpelled more → AreSpelled (label_words h label more)
  label_spelled label more all = grind (arith, nat_tests, number_spelled, thread_spelled, work_spelled)

  pub line_spelled : (l : LedgerLine) → AreSpelled (line_words h l)
  line_spelled l = (number_spelled l.start, (number_spelled l.count, label_spelled l.label (event_words l.event) (event_spelled l.event)))
