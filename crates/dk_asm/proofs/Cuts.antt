-- A list of bytes, cut before the first that passes a test.
use Rattle.dk_asm.proofs.Imports.{◌≡◌, ◌≢◌, ◌∙◌, sym, ap, refl, subst, ◌<◌, ◌≤◌, ◌+◌, ℕ, suc, Bool, true, false, cond, List, [], ◌∷◌, ◌++◌, length, take, drop, arith, Option, Some, None, append-nil, add-one, All, get_or, not, nat_lt, position, is_some, ◌==◌, option_map, ltb-true, ltb-false, list_all, position_or_len, before_first, take_at, drop_at, take_all, take-append-drop, is_blank, AreBlanks, cut_at, is_solid, skipped, behind_word, nat_tests}
use Rattle.dk_asm.specs.Reading.{only_word}
use Rattle.dk_asm.proofs.Booleans.{both_left, both_right, both, each_place}

-- none of the bytes passes
abbrev pub Clean : (ℕ → Bool) → List ℕ → Type 0
Clean p bytes = list_all (λ b. not (p b)) bytes ≡ true

-- there are no bytes, or the first passes
abbrev pub Starts : (ℕ → Bool) → List ℕ → Type 0
Starts p [] = Unit {0}
Starts p (b ∷ bytes) = p b ≡ true

abbrev pub from_first : (ℕ → Bool) → List ℕ → List ℕ
from_first p bytes = drop (position_or_len p bytes) bytes

module _ (p : ℕ → Bool) where
  pub cut_place : (xs ys : List ℕ) → Clean p xs → Starts p ys → position_or_len p (xs ++ ys) ≡ length xs
  cut_place [] [] clean starts = refl
  cut_place [] (y ∷ ys) clean starts = grind (arith, nat_tests, both_right, both_left)
  cut_place (x ∷ xs) ys clean starts = grind (arith, nat_tests, both_right, both_left, cut_place xs)

  pub before_cut : (xs ys : List ℕ) → Clean p xs → Starts p ys → before_first p (xs ++ ys) ≡ xs
  before_cut xs ys clean starts = ap (λ n. take n (xs ++ ys)) (cut_place xs ys clean starts) ∙ take_at xs ys (length xs) refl

  pub after_cut : (xs ys : List ℕ) → Clean p xs → Starts p ys → from_first p (xs ++ ys) ≡ ys
  after_cut xs ys clean starts = ap (λ n. drop n (xs ++ ys)) (cut_place xs ys clean starts) ∙ drop_at xs ys (length xs) refl

  pub cut_whole : (bytes : List ℕ) → bytes ≡ before_first p bytes ++ from_first p bytes
  cut_whole bytes = sym (take-append-drop (position_or_len p bytes) bytes)

  pub cut_clean : (bytes : List ℕ) → Clean p (before_first p bytes)
  cut_clean [] = refl
  cut_clean (b ∷ bytes) = go (p b) refl (cut_clean bytes)
    where
      go : (t : Bool) → p b ≡ t → Clean p (before_first p bytes) → Clean p (take (cond (not t) (1 + position_or_len p bytes) 0) (b ∷ bytes))
      go true is rest = refl
      go false is rest =
          let more : 1 + position_or_len p bytes ≡ suc (position_or_len p bytes) = omega arith in
          subst (λ n. Clean p (take n (b ∷ bytes))) (sym more) (both (not (p b)) (list_all (λ c. not (p c)) (before_first p bytes)) (ap not is) rest)

  pub cut_starts : (bytes : List ℕ) → Starts p (from_first p bytes)
  cut_starts [] = tt
  cut_starts (b ∷ bytes) = go (p b) refl (cut_starts bytes)
    where
      go : (t : Bool) → p b ≡ t → Starts p (from_first p bytes) → Starts p (drop (cond (not t) (1 + position_or_len p bytes) 0) (b ∷ bytes))
      go true is rest = is
      go false is rest =
          let more : 1 + position_or_len p bytes ≡ suc (position_or_len p bytes) = omega arith in
          subst (λ n. Starts p (drop n (b ∷ bytes))) (sym more) rest

  -- the byte at the first place that passes
  split_at : (xs : List ℕ) → position_or_len p xs < length xs → (b : ℕ) × (p b ≡ true) × (xs ≡ take (position_or_len p xs) xs ++ b ∷ drop (suc (position_or_len p xs)) xs)
  split_at [] l = absurd (omega arith)
  split_at (x ∷ xs) l = go (p x) refl l (split_at xs)
    where
      go : (t : Bool) → p x ≡ t → cond (not t) (1 + position_or_len p xs) 0 < suc (length xs)
          → (position_or_len p xs < length xs → (b : ℕ) × (p b ≡ true) × (xs ≡ take (position_or_len p xs) xs ++ b ∷ drop (suc (position_or_len p xs)) xs))
          → (b : ℕ) × (p b ≡ true) × (x ∷ xs ≡ take (cond (not t) (1 + position_or_len p xs) 0) (x ∷ xs) ++ b ∷ drop (suc (cond (not t) (1 + position_or_len p xs) 0)) (x ∷ xs))
      go true is l further = (x, is, refl)
      go false is l further =
          let more : 1 + position_or_len p xs ≡ suc (position_or_len p xs) = omega arith in
          let found = further (omega arith) in
          (found.0, found.1, subst (λ n. x ∷ xs ≡ take n (x ∷ xs) ++ found.0 ∷ drop (suc n) (x ∷ xs)) (sym more) (ap (λ ys. x ∷ ys) found.2))

  pub at_place : (text : List ℕ) (end : ℕ) → position p text ≡ Some end → (b : ℕ) × (p b ≡ true) × (text ≡ take end text ++ b ∷ drop (end + 1) text) × Clean p (take end text)
  at_place text end h = go (nat_lt (position_or_len p text) (length text)) refl h
    where
      go : (t : Bool) → nat_lt (position_or_len p text) (length text) ≡ t → cond t (Some (position_or_len p text)) None ≡ Some end
          → (b : ℕ) × (p b ≡ true) × (text ≡ take end text ++ b ∷ drop (end + 1) text) × Clean p (take end text)
      go false is h = absurd (cc)
      go true is h =
          let same : position_or_len p text ≡ end = cc in
          let found = split_at text (ltb-true (position_or_len p text) (length text) is) in (
            found.0,
            found.1,
            subst (λ n. text ≡ take n text ++ found.0 ∷ drop (suc n) text) same found.2 ∙ ap (λ n. take end text ++ found.0 ∷ drop n text) (sym (add-one end)),
            subst (λ n. Clean p (take n text)) same (cut_clean text),
          )

  pub no_place : (text : List ℕ) → position p text ≡ None → Clean p text
  no_place text h = go (nat_lt (position_or_len p text) (length text)) refl h
    where
      go : (t : Bool) → nat_lt (position_or_len p text) (length text) ≡ t → cond t (Some (position_or_len p text)) None ≡ None → Clean p text
      go true is h = absurd (cc)
      go false is h =
          let past : length text ≤ position_or_len p text = ltb-false (position_or_len p text) (length text) is in
          subst (Clean p) (take_all (position_or_len p text) text past) (cut_clean text)

pub all_both : (p : ℕ → Bool) (xs ys : List ℕ) → list_all p xs ≡ true → list_all p ys ≡ true → list_all p (xs ++ ys) ≡ true
all_both p [] ys h k = k
all_both p (x ∷ xs) ys h k = both (p x) (list_all p (xs ++ ys)) (both_left (p x) (list_all p xs) h) (all_both p xs ys (both_right (p x) (list_all p xs) h) k)

pub all_more : (p q : ℕ → Bool) → ((b : ℕ) → p b ≡ true → q b ≡ true) → (bytes : List ℕ) → list_all p bytes ≡ true → list_all q bytes ≡ true
all_more p q more [] h = refl
all_more p q more (b ∷ bytes) h = both (q b) (list_all q bytes) (more b (both_left (p b) (list_all p bytes) h)) (all_more p q more bytes (both_right (p b) (list_all p bytes) h))

pub not_not : (b : Bool) → b ≡ true → not (not b) ≡ true
not_not b h = grind (arith, nat_tests)

pub twice_not : (b : Bool) → not (not b) ≡ true → b ≡ true
twice_not b h = grind (arith, nat_tests)

opposite : (b : Bool) → not b ≡ true → b ≡ false
opposite b h = grind (arith, nat_tests)

-- the same place by place
pub clean_all : (p : ℕ → Bool) (bytes : List ℕ) → Clean p bytes → All (λ b. p b ≡ false) bytes
clean_all p bytes h = λ i d l. opposite (p (get_or bytes i d)) (each_place (λ b. not (p b)) bytes h i d l)

-- blanks have no byte that is solid
pub none_solid : (bytes : List ℕ) → AreBlanks bytes → Clean is_solid bytes
none_solid bytes h = all_more is_blank (λ b. not (is_solid b)) (λ b is. not_not (is_blank b) is) bytes h

pub all_blank : (bytes : List ℕ) → Clean is_solid bytes → AreBlanks bytes
all_blank bytes h = all_more (λ b. not (is_solid b)) is_blank (λ b is. twice_not (is_blank b) is) bytes h

inside : (p : ℕ → Bool) (xs : List ℕ) (y : ℕ) (ys : List ℕ) → list_all p (xs ++ y ∷ ys) ≡ true → p y ≡ true
inside p [] y ys h = both_left (p y) (list_all p ys) h
inside p (x ∷ xs) y ys h = inside p xs y ys (both_right (p x) (list_all p (xs ++ y ∷ ys)) h)

-- bytes of which none is solid are blanks
pub blanks_by_place : (bytes : List ℕ) (are : Bool) → is_some (position is_solid bytes) ≡ not are → are ≡ list_all is_blank bytes
blanks_by_place bytes are h = go (position is_solid bytes) refl are h
  where
    other : (end : ℕ) → position is_solid bytes ≡ Some end → (t : Bool) → list_all is_blank bytes ≡ t → false ≡ t
    other end is false all = refl
    other end is true all =
        let found = at_place is_solid bytes end is in
        let blank = ap not (inside is_blank (take end bytes) found.0 (drop (end + 1) bytes) (subst (λ bs. list_all is_blank bs ≡ true) found.2 all)) in
        sym blank ∙ found.1

    go : (o : Option ℕ) → position is_solid bytes ≡ o → (t : Bool) → is_some o ≡ not t → t ≡ list_all is_blank bytes
    go None is true h = sym (all_blank bytes (no_place is_solid bytes is))
    go None is false h = absurd (cc)
    go (Some end) is false h = other end is (list_all is_blank bytes) refl
    go (Some end) is true h = absurd (cc)

-- a text with such a byte
pub record IsCut (byte : ℕ) (text front rest : List ℕ) : Type 0 where
  pub end : ℕ
  pub at : position (λ b. b == byte) text ≡ Some end
  pub front_is : take end text ≡ front
  pub rest_is : drop (end + 1) text ≡ rest

pub cut_was : (byte : ℕ) (text front rest : List ℕ) → cut_at byte text ≡ Some (front, rest) → IsCut byte text front rest
cut_was byte text front rest h = go (position (λ b. b == byte) text) refl h
  where
    go : (r : Option ℕ) → position (λ b. b == byte) text ≡ r → option_map {U = List ℕ × List ℕ} (λ end. (take end text, drop (end + 1) text)) r ≡ Some (front, rest) → IsCut byte text front rest
    go None is h = absurd (cc)
    go (Some end) is h =
        let found : List ℕ × List ℕ = (take end text, drop (end + 1) text) in
        let given : List ℕ × List ℕ = (front, rest) in
        let pair : found ≡ given = cc in
        record { end = end; at = is; front_is = ap (λ c. c.0) pair; rest_is = ap (λ c. c.1) pair }

pub cut_none : (byte : ℕ) (text : List ℕ) → cut_at byte text ≡ None → position (λ b. b == byte) text ≡ None
cut_none byte text h = go (position (λ b. b == byte) text) h
  where
    go : (r : Option ℕ) → option_map {U = List ℕ × List ℕ} (λ end. (take end text, drop (end + 1) text)) r ≡ None → r ≡ None
    go None h = refl
    go (Some end) h = absurd (cc)

pub blanks_start : (bytes : List ℕ) → AreBlanks bytes → Starts is_blank bytes
blanks_start bytes h = grind (arith, nat_tests, both_left)

-- blanks in front are skipped, and no more
pub skips : (blanks rest : List ℕ) → AreBlanks blanks → Starts is_solid rest → skipped (blanks ++ rest) ≡ rest
skips blanks rest h starts = after_cut is_solid blanks rest (none_solid blanks h) starts

pub skips_all : (blanks : List ℕ) → AreBlanks blanks → skipped blanks ≡ []
skips_all blanks h = ap skipped (sym (append-nil blanks)) ∙ skips blanks [] h tt

-- a word has no blank, and isn't empty
pub record IsWord (word : List ℕ) : Type 0 where
  pub solid : Clean is_blank word
  pub some : word ≢ []

pub word_starts : (word rest : List ℕ) → IsWord word → Starts is_solid (word ++ rest)
word_starts [] rest w = absurd (w.some refl)
word_starts (b ∷ word) rest w = both_left (is_solid b) (list_all is_solid word) w.solid

pub only_word_is : (before word after : List ℕ) → AreBlanks before → IsWord word → AreBlanks after → only_word (before ++ (word ++ after)) ≡ Some word
unfolding only_word
only_word_is before word after front w back = grind (arith, nat_tests, skips, word_starts, after_cut, blanks_start, before_cut)

pub record IsAround (bytes word : List ℕ) : Type 0 where
  pub before : List ℕ
  pub after : List ℕ
  pub whole : bytes ≡ before ++ (word ++ after)
  pub blank_before : AreBlanks before
  pub blank_after : AreBlanks after

pub only_word_was : (bytes word : List ℕ) → only_word bytes ≡ Some word → IsAround bytes word
unfolding only_word
only_word_was bytes word h = go (list_all is_blank (behind_word (skipped bytes))) refl h
  where
    go : (t : Bool) → list_all is_blank (behind_word (skipped bytes)) ≡ t → cond t (Some (before_first is_blank (skipped bytes))) None ≡ Some word → IsAround bytes word
    go false is h = absurd (cc)
    go true is h =
        let word_is : before_first is_blank (skipped bytes) ≡ word = cc in
        record {
          before = before_first is_solid bytes;
          after = behind_word (skipped bytes);
          whole = cut_whole is_solid bytes ∙ ap (λ rest. before_first is_solid bytes ++ rest) (cut_whole is_blank (skipped bytes) ∙ ap (λ w. w ++ behind_word (skipped bytes)) word_is);
          blank_before = all_blank (before_first is_solid bytes) (cut_clean is_solid bytes);
          blank_after = is;
        }
