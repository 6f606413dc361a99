-- The lines of a text, one by one.
use Rattle.dk_asm.proofs.Imports.{◌≡◌, ◌∙◌, sym, ap, refl, ◌<◌, ◌+◌, ℕ, Bool, true, false, cond, List, [], ◌∷◌, ◌++◌, length, take, drop, arith, append_assoc, All, Some, None, ◌==◌, not, flat_map, position, list_all, slice_split, onto_first, AllByRecursion, nat_tests, slice_split_at, slice_split_none, lines_of, without_empty_end, length-drop, cut_at}
use Rattle.std.specs.Prelude.{map}
use Rattle.dk_asm.proofs.Cuts.{cut_was, cut_none, clean_all, at_place, no_place}

abbrev pub is_no_feed : ℕ → Bool
is_no_feed b = not (b == 10)

pub no_feeds : (bs : List ℕ) → list_all is_no_feed bs ≡ true → All (λ b. (b == 10) ≡ false) bs
no_feeds bs h = clean_all (λ b. b == 10) bs h

-- a list that isn't empty
some_onto : (x : ℕ) (parts : List (List ℕ)) → (p : List ℕ) × (ps : List (List ℕ)) × (onto_first x parts ≡ p ∷ ps)
some_onto x [] = (_, _, refl)
some_onto x (part ∷ parts) = (_, _, refl)

some_if : (b : Bool) (x : ℕ) (parts : List (List ℕ)) → (p : List ℕ) × (ps : List (List ℕ)) × (cond b ([] ∷ parts) (onto_first x parts) ≡ p ∷ ps)
some_if true x parts = (_, _, refl)
some_if false x parts = some_onto x parts

some_parts : (bs : List ℕ) → (p : List ℕ) × (ps : List (List ℕ)) × (slice_split (λ b. b == 10) bs ≡ p ∷ ps)
some_parts [] = (_, _, refl)
some_parts (b ∷ bs) = some_if (b == 10) b (slice_split (λ c. c == 10) bs)

-- the lines of a text that begins with a line
pub first_of_lines : (line rest : List ℕ) → All (λ b. (b == 10) ≡ false) line → lines_of (line ++ 10 ∷ rest) ≡ line ∷ lines_of rest
first_of_lines line rest clean =
    let parts = some_parts rest in
    ap without_empty_end (slice_split_at (λ b. b == 10) line 10 rest clean refl)
    ∙ ap (λ ps. without_empty_end (line ∷ ps)) parts.2
    ∙ ap (λ ps. line ∷ without_empty_end ps) (sym parts.2)

-- a text without a line feed is one line where it isn't empty
pub last_of_lines : (b : ℕ) (bs : List ℕ) → All (λ c. (c == 10) ≡ false) (b ∷ bs) → lines_of (b ∷ bs) ≡ (b ∷ bs) ∷ []
last_of_lines b bs clean =
    let some : (length (b ∷ bs) == 0) ≡ false = grind (arith, nat_tests) in
    ap without_empty_end (slice_split_none (λ c. c == 10) (b ∷ bs) clean) ∙ ap (λ t. cond t [] ((b ∷ bs) ∷ [])) some

-- lines that were joined are cut again
pub joined_lines : {A : Type 0} (text : A → List ℕ) (xs : List A) → AllByRecursion (λ x. list_all is_no_feed (text x) ≡ true) xs
    → lines_of (flat_map (λ x. text x ++ 10 ∷ []) xs) ≡ map text xs
joined_lines text [] clean = refl
joined_lines text (x ∷ xs) clean =
    ap lines_of (append_assoc (text x) (10 ∷ []) (flat_map (λ y. text y ++ 10 ∷ []) xs))
    ∙ first_of_lines (text x) (flat_map (λ y. text y ++ 10 ∷ []) xs) (no_feeds (text x) clean.0)
    ∙ ap (λ ls. text x ∷ ls) (joined_lines text xs clean.1)

feed : (b : ℕ) → (b == 10) ≡ true → b ≡ 10
feed b h = grind (arith, nat_tests)

-- the first line of a text, at its first line feed or up to the end
pub line_at_feed : (text : List ℕ) (end : ℕ) → position (λ b. b == 10) text ≡ Some end → lines_of text ≡ take end text ∷ lines_of (drop (end + 1) text)
line_at_feed text end h = grind (arith, nat_tests, at_place, feed, first_of_lines, no_feeds)

pub line_at_cut : (text line rest : List ℕ) → cut_at 10 text ≡ Some (line, rest) → lines_of text ≡ line ∷ lines_of rest
line_at_cut text line rest h = grind (arith, nat_tests, cut_was, line_at_feed)

pub rest_shorter : (text line rest : List ℕ) → 0 < length text → cut_at 10 text ≡ Some (line, rest) → length rest < length text
rest_shorter text line rest some h = grind (arith, nat_tests, cut_was, length-drop)

pub line_at_end : (text : List ℕ) → 0 < length text → position (λ b. b == 10) text ≡ None → lines_of text ≡ text ∷ []
line_at_end [] some h = absurd (omega arith)
line_at_end (b ∷ text) some h = last_of_lines b text (no_feeds (b ∷ text) (no_place (λ c. c == 10) (b ∷ text) h))

-- the pieces that commas part, one by one
pub piece_at_cut : (text piece rest : List ℕ) → cut_at 44 text ≡ Some (piece, rest) → slice_split (λ b. b == 44) text ≡ piece ∷ slice_split (λ b. b == 44) rest
piece_at_cut text piece rest h = grind (arith, nat_tests, cut_was, at_place, slice_split_at, clean_all)

pub piece_at_end : (text : List ℕ) → cut_at 44 text ≡ None → slice_split (λ b. b == 44) text ≡ text ∷ []
piece_at_end text h = slice_split_none (λ b. b == 44) text (clean_all (λ b. b == 44) text (no_place (λ b. b == 44) text (cut_none 44 text h)))
