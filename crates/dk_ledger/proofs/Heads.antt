-- Lines of different kinds are written differently.
use Rattle.dk_ledger.proofs.Names.{◌≡◌, ◌∙◌, sym, ap, refl, ◌<◌, ◌^◌, ◌++◌, ℕ, true, false, List, [], ◌∷◌, length, arith, decimal, all_ascii_digits, is_ascii_digit, eqb-false, digits_decimal, decimal_nonempty, TableRow, ProcessLine, LedgerLine, Heading, level_body, process_body, line_body, end_body}
use Rattle.dk_ledger.proofs.NameLemmas.{both_left}
use Rattle.dk_ledger.proofs.WordBytes.{own}
use Rattle.dk_ledger.proofs.Split.{line_parted}

pub heads : {x y : ℕ} {xs ys : List ℕ} → x ∷ xs ≡ y ∷ ys → x ≡ y
heads e = cc

pub level_is_no_process : (j : ℕ) (row : TableRow) (p : ProcessLine) → level_body j row ≡ process_body p → ⊥
level_is_no_process j row p e = eqb-false 108 112 refl (heads e)

pub process_is_no_end : (p : ProcessLine) (n : ℕ) → process_body p ≡ end_body n → ⊥
process_is_no_end p n e = eqb-false 112 101 refl (heads e)

-- a number begins with a digit
pub begins_with_digit : (n : ℕ) (b : ℕ) (text : List ℕ) → n < 2 ^ 32 → is_ascii_digit b ≡ false → (more : List ℕ) → decimal n ++ more ≡ b ∷ text → ⊥
begins_with_digit n b text small other more e = go (decimal n) (digits_decimal own n (omega arith)) (decimal_nonempty n (omega arith)) e
  where
    go : (ds : List ℕ) → all_ascii_digits ds ≡ true → 0 < length ds → ds ++ more ≡ b ∷ text → ⊥
    go [] h l k = absurd (omega arith)
    go (d ∷ ds) h l k =
        let same : d ≡ b = cc in
        let digit = both_left (is_ascii_digit d) (all_ascii_digits ds) h in
        let both = sym digit ∙ ap is_ascii_digit same ∙ other in
        cc

pub process_is_no_line : (p : ProcessLine) (h : Heading) (l : LedgerLine) → l.start < 2 ^ 32 → process_body p ≡ line_body h l → ⊥
process_is_no_line p h l small e = begins_with_digit l.start 112 _ small refl _ (sym (line_parted h l) ∙ sym e)

pub line_is_no_end : (h : Heading) (l : LedgerLine) (n : ℕ) → l.start < 2 ^ 32 → line_body h l ≡ end_body n → ⊥
line_is_no_end h l n small e = begins_with_digit l.start 101 _ small refl _ (sym (line_parted h l) ∙ e)
