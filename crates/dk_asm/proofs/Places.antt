-- The places of labels, line by line.
use Rattle.dk_asm.proofs.Imports.{◌≡◌, ◌∙◌, sym, ap, refl, ◌<◌, ◌≤◌, ◌+◌, ℕ, suc, Bool, true, false, cond, List, [], ◌∷◌, ◌++◌, length, take, map, get_or, arith, Option, Some, None, is_some, option_map, option_or, bytes_eq, take_more, length-take-le, take-map, length-map, bytes_eq-Decides, Place, Line, has_label, has_instruction, instructions, place, place_of, place_on, nat_tests}

-- a new place under a name that has none
pub placed : (f : List ℕ → Option Place) (name other : List ℕ) (place : Place) → is_some (f name) ≡ false
    → cond (bytes_eq name other) (Some place) (f other) ≡ option_or (f other) (cond (bytes_eq name other) (Some place) None)
placed f name other place free = go (bytes_eq name other) refl
  where
    at : (o : Option Place) → is_some o ≡ false → Some place ≡ option_or o (Some place)
    at None free = refl
    at (Some p) free = absurd (cc)

    keep : (o : Option Place) → o ≡ option_or o None
    keep None = refl
    keep (Some p) = refl

    go : (t : Bool) → bytes_eq name other ≡ t → cond t (Some place) (f other) ≡ option_or (f other) (cond t (Some place) None)
    go true is = let same = (bytes_eq-Decides name other).0 is in at (f other) (ap (λ n. is_some (f n)) (sym same) ∙ free)
    go false is = keep (f other)

pub instructions_push : (lines : List Line) (line : Line) → instructions (lines ++ line ∷ []) ≡ instructions lines + cond (has_instruction line) 1 0
instructions_push [] line = omega arith
instructions_push (l ∷ lines) line = let rest = instructions_push lines line in omega (arith, rest)

pub few_instructions : (lines : List Line) → instructions lines ≤ length lines
few_instructions [] = omega arith
few_instructions (l ∷ lines) = go (has_instruction l) (few_instructions lines)
  where
    go : (t : Bool) → instructions lines ≤ length lines → cond t 1 0 + instructions lines ≤ suc (length lines)
    go true rest = omega (arith, rest)
    go false rest = omega (arith, rest)

abbrev pub moved : ℕ → Place → Place
moved n p = place (suc p.line) (n + p.value)

pub place_push : (lines : List Line) (line : Line) (name : List ℕ) → place_of (lines ++ line ∷ []) name ≡ option_or (place_of lines name) (place_on line (place (length lines) (instructions lines)) name)
place_push [] line name = refl
place_push (l ∷ lines) line name = go (has_label name l) (place_push lines line name)
  where
    n : ℕ
    n = cond (has_instruction l) 1 0

    further : (o : Option Place) (t : Bool) → option_map (moved n) (option_or o (cond t (Some (place (length lines) (instructions lines))) None))
        ≡ option_or (option_map (moved n) o) (cond t (Some (place (suc (length lines)) (n + instructions lines))) None)
    further None true = refl
    further None false = refl
    further (Some p) t = refl

    go : (t : Bool) → place_of (lines ++ line ∷ []) name ≡ option_or (place_of lines name) (place_on line (place (length lines) (instructions lines)) name)
        → cond t (Some (place 0 0)) (option_map (moved n) (place_of (lines ++ line ∷ []) name))
        ≡ option_or (cond t (Some (place 0 0)) (option_map (moved n) (place_of lines name))) (place_on line (place (suc (length lines)) (n + instructions lines)) name)
    go true rest = refl
    go false rest = ap (option_map (moved n)) rest ∙ further (place_of lines name) (has_label name line)

module _ {A : Type 0} (f : A → Line) where
  -- one line more of lines that are seen
  pub take_one : (xs : List A) (i : ℕ) (x : A) → i < length xs → x ≡ get_or xs i x → take (i + 1) (map f xs) ≡ take i (map f xs) ++ f x ∷ []
  take_one xs i x l is =
      take-map f (i + 1) xs ∙ ap (map f) (take_more xs i x l ∙ ap (λ y. take i xs ++ y ∷ []) (sym is)) ∙ push (take i xs) ∙ ap (λ ys. ys ++ f x ∷ []) (sym (take-map f i xs))
    where
      push : (ys : List A) → map f (ys ++ x ∷ []) ≡ map f ys ++ f x ∷ []
      push [] = refl
      push (y ∷ ys) = ap (λ zs. f y ∷ zs) (push ys)

  pub length_taken : (xs : List A) (i : ℕ) → i ≤ length xs → length (take i (map f xs)) ≡ i
  length_taken xs i l = length-take-le i (map f xs) (omega (arith, length-map xs f))

pub at_most_one : (b : Bool) → cond b 1 0 ≤ 1
at_most_one b = grind (arith, nat_tests)

-- the places after one line more
pub places_more : (lines front : List Line) (i count : ℕ) (line : Line) → length front ≡ i → count ≡ instructions front → lines ≡ front ++ line ∷ [] → (old new : List ℕ → Option Place)
    → ((name : List ℕ) → old name ≡ place_of front name) → ((name : List ℕ) → new name ≡ option_or (old name) (place_on line (place i count) name)) → (name : List ℕ) → new name ≡ place_of lines name
places_more lines front i count line counts is whole old new before after name = grind (arith, nat_tests, place_push)
