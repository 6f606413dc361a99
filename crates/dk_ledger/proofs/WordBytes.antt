-- Which bytes the words of a line have, and where a name stands in a header.
use Rattle.dk_ledger.proofs.Names.{◌≡◌, ◌≢◌, ◌∙◌, sym, ap, refl, subst, ◌<◌, ◌≤◌, ◌+◌, ◌^◌, ℕ, zero, suc, Bool, true, false, List, [], ◌∷◌, length, get_or, arith, ◌==◌, not, cond, nat_lt, Option, Some, None, slice_get, decimal, list_all, position, prefix_len, option_map_or, bytes_eq, all_ascii_digits, lt-ltb, nat_tests, bytes_eq-Decides, digits_decimal, IsNumeralModel, numerals_by_value, tells_all_ascii_digits, digits_value, is_name, is_word, ProcessLine, Heading, name_of, HaveOwnNames}
use Rattle.dk_ledger.proofs.NameLemmas.{both_left, both_right}

abbrev pub is_no_dot : ℕ → Bool
is_no_dot b = not (b == 46)

pub all_more : (f g : ℕ → Bool) → ((b : ℕ) → f b ≡ true → g b ≡ true) → (bs : List ℕ) → list_all f bs ≡ true → list_all g bs ≡ true
all_more f g more [] h = refl
all_more f g more (b ∷ bs) h = grind (arith, nat_tests, all_more f g more bs)

word_no_dot : (b : ℕ) → is_word b ≡ true → is_no_dot b ≡ true
word_no_dot b h = grind (arith, nat_tests)

pub name_no_dots : (n : List ℕ) → is_name n ≡ true → list_all is_no_dot n ≡ true
name_no_dots n h = all_more is_word is_no_dot word_no_dot n (both_right _ (list_all is_word n) h)

pub no_dot_at : (n : List ℕ) → list_all is_no_dot n ≡ true → (i : ℕ) → i < length n → get_or n i 0 ≢ 46
no_dot_at [] h i l = absurd (omega arith)
no_dot_at (b ∷ bs) h zero l = λ e. absurd (grind (arith, nat_tests))
no_dot_at (b ∷ bs) h (suc i) l = no_dot_at bs (both_right (is_no_dot b) (list_all is_no_dot bs) h) i (omega arith)

pub all_no_dots : (n : List ℕ) → list_all is_no_dot n ≡ true → (i d : ℕ) → i < length n → (get_or n i d == 46) ≡ false
all_no_dots [] h i d l = absurd (omega arith)
all_no_dots (b ∷ bs) h zero d l = let first = both_left (is_no_dot b) (list_all is_no_dot bs) h in grind (arith, nat_tests)
all_no_dots (b ∷ bs) h (suc i) d l = all_no_dots bs (both_right (is_no_dot b) (list_all is_no_dot bs) h) i d (omega arith)

pub own : IsNumeralModel (λ ds. all_ascii_digits ds ≡ true) (digits_value 10)
own = numerals_by_value _ tells_all_ascii_digits

digits_no_dots : (ds : List ℕ) → all_ascii_digits ds ≡ true → list_all is_no_dot ds ≡ true
digits_no_dots [] h = refl
digits_no_dots (d ∷ ds) h = grind (arith, nat_tests, digits_no_dots ds)

pub decimal_no_dots : (n : ℕ) → n < 2 ^ 64 → list_all is_no_dot (decimal n) ≡ true
decimal_no_dots n h = digits_no_dots (decimal n) (digits_decimal own n h)

-- the first that passes stands at p
first_passing : {A : Type 0} (t : A → Bool) (xs : List A) (p : ℕ) (x : A) → slice_get xs p ≡ Some x → t x ≡ true
    → ((i : ℕ) (y : A) → i < p → slice_get xs i ≡ Some y → t y ≡ false) → prefix_len (λ y. not (t y)) xs ≡ p
first_passing t [] p x at passes before = absurd (cc)
first_passing t (y ∷ ys) zero x at passes before =
    let same : y ≡ x = cc in
    ap (λ b. cond (not b) (1 + prefix_len (λ z. not (t z)) ys) 0) (ap t same ∙ passes)
first_passing t (y ∷ ys) (suc p) x at passes before =
    let rest = first_passing t ys p x at passes (λ i z less here. before (suc i) z (omega arith) here) in
    ap (λ b. cond (not b) (1 + prefix_len (λ z. not (t z)) ys) 0) (before 0 y (omega arith) refl) ∙ omega (arith, rest)

none_past : {A : Type 0} (xs : List A) (i : ℕ) → slice_get xs i ≡ None → length xs ≤ i
none_past [] i e = omega arith
none_past (x ∷ xs) zero e = absurd (cc)
none_past (x ∷ xs) (suc i) e = let rest = none_past xs i e in omega (arith, rest)

all_at : (f : ProcessLine → Bool) (ps : List ProcessLine) (p : ℕ) (line : ProcessLine) → list_all f ps ≡ true → slice_get ps p ≡ Some line → f line ≡ true
all_at f [] p line h at = absurd (cc)
all_at f (q ∷ qs) zero line h at = let same : q ≡ line = cc in subst (λ z. f z ≡ true) same (both_left (f q) (list_all f qs) h)
all_at f (q ∷ qs) (suc p) line h at = all_at f qs p line (both_right (f q) (list_all f qs) h) at

module _ (h : Heading) where
  name_some : (p : ℕ) → p < length h.processes → (line : ProcessLine) × (slice_get h.processes p ≡ Some line) × (name_of h p ≡ line.name)
  name_some p l = go (slice_get h.processes p) refl
    where
      go : (o : Option ProcessLine) → slice_get h.processes p ≡ o → (line : ProcessLine) × (slice_get h.processes p ≡ Some line) × (name_of h p ≡ line.name)
      go None e = absurd (omega (arith, none_past h.processes p e))
      go (Some line) e = (line, e, ap (λ o. option_map_or (λ line. line.name) o []) e)

  -- a process is the first of its name
  pub named_position : (p : ℕ) → HaveOwnNames h → p < length h.processes → position (λ line. bytes_eq line.name (name_of h p)) h.processes ≡ Some p
  named_position p own l =
      let at = name_some p l in
      let test = λ (line : ProcessLine). bytes_eq line.name (name_of h p) in
      let passes : test at.0 ≡ true = (bytes_eq-Decides at.0.name (name_of h p)).1 (sym at.2) in
      let before : (i : ℕ) (y : ProcessLine) → i < p → slice_get h.processes i ≡ Some y → test y ≡ false =
      λ i y less here. ap (λ (o : Option ProcessLine). bytes_eq (option_map_or (λ line. line.name) o []) (name_of h p)) (sym here) ∙ own i p less l in
      let first = first_passing test h.processes p at.0 at.1 passes before in
      ap (λ n. cond (nat_lt n (length h.processes)) (Some n) None) first ∙ ap (λ b. cond b (Some p) None) (lt-ltb p (length h.processes) l)

  name_at : (p : ℕ) → list_all (λ line. is_name line.name) h.processes ≡ true → p < length h.processes → is_name (name_of h p) ≡ true
  name_at p names l =
      let at = name_some p l in
      ap is_name at.2 ∙ all_at (λ line. is_name line.name) h.processes p at.0 names at.1

  -- no name has a dot
  pub name_at_no_dots : (p : ℕ) → list_all (λ line. is_name line.name) h.processes ≡ true → p < length h.processes → list_all is_no_dot (name_of h p) ≡ true
  name_at_no_dots p names l = name_no_dots (name_of h p) (name_at p names l)
