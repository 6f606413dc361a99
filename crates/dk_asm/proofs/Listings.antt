-- The texts of a listing, piece by piece.
use Rattle.dk_asm.proofs.Imports.{◌≡◌, ◌∙◌, sym, ap, refl, ◌<◌, ℕ, suc, false, None, min, arith, drop, List, [], ◌∷◌, ◌++◌, length, take, append_assoc, append-nil, ◌==◌, nat_tests, join_with_byte, instruction_of, Kind, Mnemonic, row_of, Written, named, operand_text, operand_texts, group_text, listing, behind}

joined : (c : ℕ) (t : List ℕ) (ts : List (List ℕ)) → join_with_byte 44 (t ∷ ts) ≡ t ++ behind 44 ts
joined c t [] = sym (append-nil t)
joined c t (u ∷ us) = ap (λ r. t ++ 44 ∷ r) (joined c u us)

-- a name and the texts behind it
pub named_behind : (name : List ℕ) (ts : List (List ℕ)) → named name ts ≡ name ++ behind 32 ts
named_behind name [] = sym (append-nil name)
named_behind name (t ∷ ts) = ap (λ r. name ++ 32 ∷ r) (joined 44 t ts)

pub after_name : (old mid new name : List ℕ) (ts : List (List ℕ)) → mid ≡ old ++ name → new ≡ mid ++ behind 32 ts → new ≡ old ++ named name ts
after_name old mid new name ts first second =
    second ∙ ap (λ m. m ++ behind 32 ts) first ∙ append_assoc old name (behind 32 ts) ∙ ap (λ r. old ++ r) (sym (named_behind name ts))

-- values behind the last kind aren't printed
pub within_kinds : (kinds : List Kind) (values : List ℕ) → operand_texts kinds (take (length kinds) values) ≡ operand_texts kinds values
within_kinds [] values = refl
within_kinds (kind ∷ kinds) [] = refl
within_kinds (kind ∷ kinds) (n ∷ ns) = ap (λ ts. operand_text kind n ∷ ts) (within_kinds kinds ns)

pub same_operands : (kinds : List Kind) (m : Mnemonic) (values : List ℕ) (w : Written) → kinds ≡ (row_of m).kinds → m ≡ w.mnemonic → take (length (row_of w.mnemonic).kinds) values ≡ w.values
    → operand_texts kinds values ≡ operand_texts (row_of w.mnemonic).kinds w.values
same_operands kinds m values w is same taken = grind (arith, nat_tests, within_kinds)

four_of : (n : ℕ) → min (suc (suc (suc (suc n)))) 4 ≡ 4
four_of n = omega arith

-- the first line of a listing
pub first_listed : (code : List ℕ) → 0 < length code → listing code ≡ (group_text (take (min (length code) 4) code) ++ 10 ∷ []) ++ listing (drop (min (length code) 4) code)
first_listed code l = grind (arith, nat_tests, four_of)

-- a line more of a listing
pub one_more_listed : (old new rest group behind all : List ℕ) → 0 < length rest → group ≡ take (min (length rest) 4) rest → behind ≡ drop (min (length rest) 4) rest
    → new ≡ old ++ (group_text group ++ 10 ∷ []) → old ++ listing rest ≡ all → new ++ listing behind ≡ all
one_more_listed old new rest group behind all some front back more is =
    let line = ap (λ g. (group_text g ++ 10 ∷ []) ++ listing behind) front
    ∙ ap (λ r. (group_text (take (min (length rest) 4) rest) ++ 10 ∷ []) ++ listing r) back
    ∙ sym (first_listed rest some) in
    ap (λ t. t ++ listing behind) more ∙ append_assoc old (group_text group ++ 10 ∷ []) (listing behind) ∙ ap (λ l. old ++ l) line ∙ is

pub some_by_test : (n : ℕ) → (n == 0) ≡ false → 0 < n
some_by_test n h = grind (arith, nat_tests)

-- fewer than four bytes are no instruction
pub none_below : (group : List ℕ) → length group < 4 → None ≡ instruction_of group
none_below group l = grind (arith, nat_tests)
