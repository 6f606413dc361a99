-- How the lines of a list of entries, and their text, change with one more entry.
use Rattle.dk_ledger.proofs.Names.{◌≡◌, ◌∙◌, sym, ap, refl, subst, ◌<◌, ◌+◌, ℕ, suc, zero-add, Bool, true, false, List, [], ◌∷◌, ◌++◌, length, length-append, append_assoc, append-nil, arith, Option, Some, if◌then◌else◌, Label, Event, Entry, LedgerLine, Heading, same_label, has_none, joins, single, put_before, lines_from, lines_of, ledger_line, lines_text, Progress, IsAfter, last_of, all_but_last, closed_text, last_after, closing_text, last_text, entries_text, end_line, nat_tests}
use Rattle.dk_ledger.proofs.NameLemmas.{both_right}

pub same_label-true : (a b : Label) → same_label a b ≡ true → a ≡ b
same_label-true a b h = grind (arith, nat_tests)

pub joins-label : (a : Label) (o : Option Event) (b : Label) → joins a o b ≡ true → a ≡ b
joins-label a o b h = same_label-true a b (both_right (has_none o) (same_label a b) h)

-- the line with one more entry at its end
abbrev grown : LedgerLine → Entry → LedgerLine
grown l e = record l { count = suc l.count; event = e.event }

-- the line with one more entry before it
abbrev joined : ℕ → LedgerLine → LedgerLine
joined start l = record l { start = start; count = suc l.count }

-- the lines with one more entry at the end
abbrev extend : List LedgerLine → ℕ → Entry → List LedgerLine
extend [] n e = single n e ∷ []
extend (l ∷ []) n e = if joins l.label l.event e.label then (grown l e ∷ []) else (l ∷ single n e ∷ [])
extend (l ∷ m ∷ ls) n e = l ∷ extend (m ∷ ls) n e

module _ (start : ℕ) (x : Entry) (n : ℕ) (e : Entry) where
  before_none : (b : Bool) → joins x.label x.event e.label ≡ b
      → (if b then (joined start (single n e) ∷ []) else (single start x ∷ single n e ∷ [])) ≡ (if b then (grown (single start x) e ∷ []) else (single start x ∷ single n e ∷ []))
  before_none b h = grind (arith, nat_tests, joins-label)

  before_one : (l : LedgerLine) (first last : Bool) → joins x.label x.event l.label ≡ first → joins l.label l.event e.label ≡ last
      → put_before start x (if last then (grown l e ∷ []) else (l ∷ single n e ∷ [])) ≡ extend (if first then (joined start l ∷ []) else (single start x ∷ l ∷ [])) n e
  before_one l first last h k = grind (arith, nat_tests)

  before_more : (l m : LedgerLine) (ls : List LedgerLine) (b : Bool)
      → (if b then (joined start l ∷ extend (m ∷ ls) n e) else (single start x ∷ l ∷ extend (m ∷ ls) n e))
      ≡ extend (if b then (joined start l ∷ m ∷ ls) else (single start x ∷ l ∷ m ∷ ls)) n e
  before_more l m ls b = grind (arith, nat_tests)

  put_before-extend : (ls : List LedgerLine) → put_before start x (extend ls n e) ≡ extend (put_before start x ls) n e
  put_before-extend ls = grind (arith, nat_tests, before_none, before_one, before_more)

lines_from-append : (start : ℕ) (es : List Entry) (e : Entry) → lines_from start (es ++ e ∷ []) ≡ extend (lines_from start es) (start + length es) e
lines_from-append start [] e = grind (arith, nat_tests, put_before-extend)
lines_from-append start (x ∷ es) e = grind (arith, nat_tests, put_before-extend, lines_from-append (suc start) es)

lines_of-append : (es : List Entry) (e : Entry) → lines_of (es ++ e ∷ []) ≡ extend (lines_of es) (length es) e
lines_of-append es e = lines_from-append 0 es e ∙ ap (λ k. extend (lines_of es) k e) (zero-add (length es))

some_line : (ls : List LedgerLine) (n : ℕ) (e : Entry) → 0 < length (extend ls n e)
some_line [] n e = omega arith
some_line (l ∷ []) n e = go (joins l.label l.event e.label)
  where
    go : (b : Bool) → 0 < length (if b then (grown l e ∷ []) else (l ∷ single n e ∷ []))
    go true = omega arith
    go false = omega arith
some_line (l ∷ m ∷ ls) n e = omega arith

last_of-cons : (l : LedgerLine) (ls : List LedgerLine) → 0 < length ls → last_of (l ∷ ls) ≡ last_of ls
last_of-cons l ls h = grind (arith, nat_tests)

all_but_last-cons : (l : LedgerLine) (ls : List LedgerLine) → 0 < length ls → all_but_last (l ∷ ls) ≡ l ∷ all_but_last ls
all_but_last-cons l ls h = grind (arith, nat_tests)

last_of_one : (b : Bool) (l g s : LedgerLine) → last_of (if b then (g ∷ []) else (l ∷ s ∷ [])) ≡ Some (if b then g else s)
last_of_one b l g s = grind (arith, nat_tests)

last_of-extend : (ls : List LedgerLine) (n : ℕ) (e : Entry) → last_of (extend ls n e) ≡ Some (last_after (last_of ls) n e)
last_of-extend [] n e = refl
last_of-extend (l ∷ []) n e = last_of_one (joins l.label l.event e.label) l (grown l e) (single n e)
last_of-extend (l ∷ m ∷ ls) n e = last_of-cons l (extend (m ∷ ls) n e) (some_line (m ∷ ls) n e) ∙ last_of-extend (m ∷ ls) n e

module _ (h : Heading) where
  closed_one : (b : Bool) (l g s : LedgerLine) → lines_text h (all_but_last (if b then (g ∷ []) else (l ∷ s ∷ []))) ≡ (if b then [] else (ledger_line h l))
  closed_one true l g s = refl
  closed_one false l g s = append-nil (ledger_line h l)

  closed-extend : (ls : List LedgerLine) (n : ℕ) (e : Entry) → lines_text h (all_but_last (extend ls n e)) ≡ lines_text h (all_but_last ls) ++ closing_text h (last_of ls) e
  closed-extend [] n e = refl
  closed-extend (l ∷ []) n e = closed_one (joins l.label l.event e.label) l (grown l e) (single n e)
  closed-extend (l ∷ m ∷ ls) n e =
      ap (lines_text h) (all_but_last-cons l (extend (m ∷ ls) n e) (some_line (m ∷ ls) n e))
      ∙ ap (λ t. ledger_line h l ++ t) (closed-extend (m ∷ ls) n e)
      ∙ sym (append_assoc (ledger_line h l) (lines_text h (all_but_last (m ∷ ls))) (closing_text h (last_of (m ∷ ls)) e))

  closed_and_last : (ls : List LedgerLine) → lines_text h ls ≡ lines_text h (all_but_last ls) ++ last_text h (last_of ls)
  closed_and_last [] = refl
  closed_and_last (l ∷ []) = append-nil (ledger_line h l)
  closed_and_last (l ∷ m ∷ ls) =
      ap (λ t. ledger_line h l ++ t) (closed_and_last (m ∷ ls))
      ∙ sym (append_assoc (ledger_line h l) (lines_text h (all_but_last (m ∷ ls))) (last_text h (last_of (m ∷ ls))))

module _ (es : List Entry) (w : Progress) (after : IsAfter es w) where
  pub is_after_one_more : (e : Entry) → IsAfter (es ++ e ∷ []) (record { entries = w.entries + 1; last = Some (last_after w.last w.entries e) })
  is_after_one_more e = record {
    entries = ap (λ n. n + 1) after.entries ∙ sym (length-append es (e ∷ []));
    last = ap (λ o. Some (last_after o w.entries e)) after.last ∙ ap (λ n. Some (last_after (last_of (lines_of es)) n e)) after.entries
        ∙ sym (last_of-extend (lines_of es) (length es) e) ∙ sym (ap last_of (lines_of-append es e));
  }

  pub closed_text-append : (h : Heading) (e : Entry) → closed_text h (es ++ e ∷ []) ≡ closed_text h es ++ closing_text h w.last e
  closed_text-append h e = grind (arith, nat_tests, lines_of-append, closed-extend)

  pub whole_text : (h : Heading) → closed_text h es ++ (last_text h w.last ++ end_line w.entries) ≡ entries_text h es
  whole_text h =
      sym (append_assoc (closed_text h es) (last_text h w.last) (end_line w.entries))
      ∙ ap (λ o. closed_text h es ++ last_text h o ++ end_line w.entries) after.last
      ∙ ap (λ t. t ++ end_line w.entries) (sym (closed_and_last h (lines_of es)))
      ∙ ap (λ n. lines_text h (lines_of es) ++ end_line n) after.entries

-- the next state of a writer is after one more entry
pub is_after_next : (es : List Entry) (w : Progress) (e : Entry) (next : Progress) → IsAfter es w → next ≡ record { entries = w.entries + 1; last = Some (last_after w.last w.entries e) }
    → IsAfter (es ++ e ∷ []) next
is_after_next es w e next after is = subst (IsAfter (es ++ e ∷ [])) (sym is) (is_after_one_more es w after e)
