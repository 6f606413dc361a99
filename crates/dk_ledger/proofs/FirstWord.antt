-- The first word of a line tells what kind of item it is.
use Rattle.dk_ledger.proofs.Names.{◌≡◌, ◌∙◌, ◌≤◌, sym, refl, arith, ℕ, Bool, false, List, [], ◌∷◌, length, append-nil, codes, decimal, Result, Ok, Err, IfOk, Bor, is_ascii_digit, eqb-false, TableRow, ProcessLine, LedgerLine, level_body, process_body, line_body, Kept, Item, IsKept, TakesNone, LevelFits, ProcessFits, TicksFit, EndFits, end_body, texts, words_of, first_word}
use Rattle.dk_ledger.proofs.Heads.{heads, begins_with_digit}
use Rattle.dk_ledger.proofs.NextItem.{level_found, process_found, ticks_found, end_found}

first_is : (words : List (Bor (List ℕ))) (w : List ℕ) (ws : List (List ℕ)) → texts words ≡ w ∷ ws → first_word words ≡ w
first_is [] w ws e = absurd (cc)
first_is (x ∷ xs) w ws e = let same : x.now ≡ w = cc in same

number_is_no_word : (n b : ℕ) (text : List ℕ) → n ≤ 10000000 → is_ascii_digit b ≡ false → decimal n ≡ b ∷ text → ⊥
number_is_no_word n b text small other e = begins_with_digit n b text (omega arith) other [] (append-nil (decimal n) ∙ e)

pub ok_weaker : {E : Type 0} (r : Result Bool E) (P : Bool → Type 0) (Q : Bool → Type 0) → IfOk r P → ((b : Bool) → P b → Q b) → IfOk r Q
ok_weaker (Ok b) P Q h more = more b h
ok_weaker (Err e) P Q h more = tt

level_process : codes "level" ≡ codes "process" → ⊥
level_process e = eqb-false 108 112 refl (heads e)

level_end : codes "level" ≡ codes "end" → ⊥
level_end e = eqb-false 108 101 refl (heads e)

process_end : codes "process" ≡ codes "end" → ⊥
process_end e = eqb-false 112 101 refl (heads e)

module _ (p : Kept) (line : List ℕ) (words : List (Bor (List ℕ))) (split : texts words ≡ words_of line) (part : IsKept p) where
  abbrev NoLevel : Type 0
  NoLevel = (row : TableRow) → LevelFits p row → line ≡ level_body (length p.heading.levels) row → ⊥

  abbrev NoProcess : Type 0
  NoProcess = (q : ProcessLine) → ProcessFits p q → line ≡ process_body q → ⊥

  abbrev NoTicks : Type 0
  NoTicks = (l : LedgerLine) → TicksFit p l → line ≡ line_body p.heading l → ⊥

  abbrev NoEnd : Type 0
  NoEnd = EndFits p → line ≡ end_body p.ticks → ⊥

  none_of : NoLevel → NoProcess → NoTicks → NoEnd → TakesNone p line
  none_of level process ticks end (Item.Level row) fits is = level row fits is
  none_of level process ticks end (Item.Process q) fits is = process q fits is
  none_of level process ticks end (Item.Ticks l) fits is = ticks l fits is
  none_of level process ticks end Item.End fits is = end fits is

  starts_level : (row : TableRow) → LevelFits p row → line ≡ level_body (length p.heading.levels) row → first_word words ≡ codes "level"
  starts_level row fits is = first_is words _ _ (level_found p line words split row fits is)

  starts_process : (q : ProcessLine) → ProcessFits p q → line ≡ process_body q → first_word words ≡ codes "process"
  starts_process q fits is = first_is words _ _ (process_found p line words split q part fits is)

  starts_end : line ≡ end_body p.ticks → first_word words ≡ codes "end"
  starts_end is = first_is words _ _ (end_found p line words split part is)

  starts_ticks : (l : LedgerLine) (b : ℕ) (text : List ℕ) → is_ascii_digit b ≡ false → TicksFit p l → line ≡ line_body p.heading l → first_word words ≡ b ∷ text → ⊥
  starts_ticks l b text other fits is e =
      let short = fits.short in
      number_is_no_word l.start b text (omega (arith, short)) other (sym (first_is words _ _ (ticks_found p line words split l part fits is)) ∙ e)

  pub none_but_level : first_word words ≡ codes "level" → NoLevel → TakesNone p line
  none_but_level e level =
      none_of level (λ q fits is. level_process (sym e ∙ starts_process q fits is))
      (λ l fits is. starts_ticks l 108 _ refl fits is e) (λ fits is. level_end (sym e ∙ starts_end is))

  pub none_but_process : first_word words ≡ codes "process" → NoProcess → TakesNone p line
  none_but_process e process =
      none_of (λ row fits is. level_process (sym (starts_level row fits is) ∙ e)) process
      (λ l fits is. starts_ticks l 112 _ refl fits is e) (λ fits is. process_end (sym e ∙ starts_end is))

  pub none_but_end : first_word words ≡ codes "end" → NoEnd → TakesNone p line
  none_but_end e end =
      none_of (λ row fits is. level_end (sym (starts_level row fits is) ∙ e)) (λ q fits is. process_end (sym (starts_process q fits is) ∙ e))
      (λ l fits is. starts_ticks l 101 _ refl fits is e) end

  pub none_but_ticks : (first_word words ≡ codes "level" → ⊥) → (first_word words ≡ codes "process" → ⊥) → (first_word words ≡ codes "end" → ⊥) → NoTicks → TakesNone p line
  none_but_ticks level process end ticks =
      none_of (λ row fits is. level (starts_level row fits is)) (λ q fits is. process (starts_process q fits is)) ticks (λ fits is. end (starts_end is))
