-- There is exactly one cut of a list of entries into lines.
use Rattle.dk_ledger.proofs.Names.{◌≡◌, ◌∙◌, sym, ap, refl, ◌<◌, ◌+◌, ◌-◌, ℕ, zero, suc, Bool, true, false, List, [], ◌∷◌, ◌++◌, arith, Option, None, if◌then◌else◌, flat_map, replicate, Label, Event, Entry, LedgerLine, same_label, joins, single, put_before, lines_from, lines_of, entries_of, AreFilled, AreInTurn, AreApart, IsCutFrom, IsCut, nat_tests}

pub same_label-self : (l : Label) → same_label l l ≡ true
same_label-self l = grind (arith, nat_tests)

-- lines that a line with this label and event can't be joined to
abbrev IsApart : Label → Option Event → List LedgerLine → Type 0
IsApart label event [] = Unit {0}
IsApart label event (m ∷ ls) = joins label event m.label ≡ false

module _ (label : Label) (event : Option Event) (es : List Entry) (ls : List LedgerLine) (apart : IsApart label event ls) where
  abbrev whole_line : ℕ → ℕ → LedgerLine
  whole_line start count = record { start = start; count = count; label = label; event = event }

  lines_of_one : (n start : ℕ) → lines_from (start + suc n) es ≡ ls
      → lines_from start ((replicate n (record { label = label; event = None }) ++ record { label = label; event = event } ∷ []) ++ es) ≡ whole_line start (suc n) ∷ ls
  lines_of_one zero start rest = grind (arith, nat_tests)
  lines_of_one (suc n) start rest = grind (arith, nat_tests, lines_of_one n)

is_apart : (l : LedgerLine) (ls : List LedgerLine) → AreApart (l ∷ ls) → IsApart l.label l.event ls
is_apart l ls h = grind (arith, nat_tests)

apart_after : (l : LedgerLine) (ls : List LedgerLine) → AreApart (l ∷ ls) → AreApart ls
apart_after l ls h = grind (arith, nat_tests)

line_again : (start : ℕ) (ls : List LedgerLine) → AreFilled ls → AreInTurn start ls → AreApart ls → lines_from start (flat_map entries_of ls) ≡ ls
line_again start [] filled in_turn apart = refl
line_again start (l ∷ ls) filled in_turn apart =
    let later = line_again (start + l.count) ls filled.1 in_turn.1 (apart_after l ls apart) in
    let count : suc (l.count - 1) ≡ l.count = let some = filled.0 in omega (arith, some) in
    lines_of_one l.label l.event (flat_map entries_of ls) ls (is_apart l ls apart) (l.count - 1) start (ap (λ n. lines_from (start + n) (flat_map entries_of ls)) count ∙ later)
    ∙ ap (λ n. record { start = start; count = n; label = l.label; event = l.event } ∷ ls) count
    ∙ ap (λ s. record { start = s; count = l.count; label = l.label; event = l.event } ∷ ls) (sym in_turn.0)

pub only_cut : (es : List Entry) (ls : List LedgerLine) → IsCut es ls → ls ≡ lines_of es
only_cut es ls cut = sym (line_again 0 ls cut.filled cut.in_turn cut.apart) ∙ ap lines_of cut.whole

first_entry : (e : Entry) (l : LedgerLine) → joins e.label e.event l.label ≡ true → record { label = l.label; event = None } ≡ e
first_entry e l h = grind (arith, nat_tests)

more_entries : {A : Type 0} (x : A) (n : ℕ) (rest : List A) → 0 < n → replicate (suc n - 1) x ++ rest ≡ x ∷ (replicate (n - 1) x ++ rest)
more_entries x is rest h = grind (arith, nat_tests)

apart_joined : (start count : ℕ) (l : LedgerLine) (ls : List LedgerLine) → AreApart (l ∷ ls) → AreApart ((record l { start = start; count = count }) ∷ ls)
apart_joined start count l ls h = grind (arith, nat_tests)

module _ (start : ℕ) (e : Entry) (es : List Entry) where
  cut_joined : (l : LedgerLine) (ls : List LedgerLine) → IsCutFrom (suc start) es (l ∷ ls) → joins e.label e.event l.label ≡ true
      → IsCutFrom start (e ∷ es) ((record l { start = start; count = suc l.count }) ∷ ls)
  cut_joined l ls cut h = grind (arith, nat_tests, more_entries, first_entry, apart_joined)

  cut_single : (l : LedgerLine) (ls : List LedgerLine) → IsCutFrom (suc start) es (l ∷ ls) → joins e.label e.event l.label ≡ false
      → IsCutFrom start (e ∷ es) (single start e ∷ l ∷ ls)
  cut_single l ls cut h = grind (arith, nat_tests)

  cut_either : (l : LedgerLine) (ls : List LedgerLine) → IsCutFrom (suc start) es (l ∷ ls) → (b : Bool) → joins e.label e.event l.label ≡ b
      → IsCutFrom start (e ∷ es) (if b then ((record l { start = start; count = suc l.count }) ∷ ls) else (single start e ∷ l ∷ ls))
  cut_either l ls cut b h = grind (arith, nat_tests, cut_joined, cut_single)

  cut_put : (ls : List LedgerLine) → IsCutFrom (suc start) es ls → IsCutFrom start (e ∷ es) (put_before start e ls)
  cut_put [] cut = record { whole = ap (λ xs. e ∷ xs) cut.whole; filled = (omega arith, tt); in_turn = (refl, tt); apart = tt }
  cut_put (l ∷ ls) cut = cut_either l ls cut (joins e.label e.event l.label) refl

lines_cut : (start : ℕ) (es : List Entry) → IsCutFrom start es (lines_from start es)
lines_cut start [] = record { whole = refl; filled = tt; in_turn = tt; apart = tt }
lines_cut start (e ∷ es) = cut_put start e es (lines_from (suc start) es) (lines_cut (suc start) es)

pub is_cut : (es : List Entry) → IsCut es (lines_of es)
is_cut es = lines_cut 0 es
