-- The words that were gathered so far, and those that are left.
use Rattle.std.proofs.Common.{◌≡◌, ℕ, ◌+◌, List, [], ◌∷◌, ◌++◌, append-nil, append_assoc, drop, drop-drop, refl, sym, ap, ◌∙◌}
use Rattle.std.specs.Prelude.{Option, Some, None, IfSome, option_map}
use Rattle.dk_edge.specs.Words.{nameless, texts, usable}

-- the words before a number were gathered, with an empty one in place of the first
abbrev pub Gathered : List (Option (List ℕ)) → ℕ → List (List ℕ) → Type 0
Gathered words number found = (others : List (List ℕ)) × (found ≡ [] ∷ others)
    × (texts (drop 1 words) ≡ option_map (λ left. others ++ left) (texts (drop number words)))

abbrev pub GatheredIf : Option (List (Option (List ℕ))) → ℕ → List (List ℕ) → Type 0
GatheredIf told number found = IfSome told (λ words. Gathered words number found)

nothing_first : (left : Option (List (List ℕ))) → left ≡ option_map (λ left. [] ++ left) left
nothing_first None = refl
nothing_first (Some words) = refl

pub begins : (told : Option (List (Option (List ℕ)))) → GatheredIf told 1 ([] ∷ [])
begins None = tt
begins (Some words) = ([], refl, nothing_first (texts (drop 1 words)))

moves : (others : List (List ℕ)) (text : List ℕ) (left : Option (List (List ℕ)))
    → option_map (λ left. others ++ left) (option_map (λ left. text ∷ left) left) ≡ option_map (λ left. (others ++ (text ∷ [])) ++ left) left
moves others text None = refl
moves others text (Some words) = ap (λ (t : List (List ℕ)). Some t) (sym (append_assoc others (text ∷ []) words))

pub goes_on : (told : Option (List (Option (List ℕ)))) (number : ℕ) (found : List (List ℕ)) (text : List ℕ) → GatheredIf told number found
    → IfSome told (λ words. (rest : List (Option (List ℕ))) × (drop number words ≡ Some text ∷ rest))
    → GatheredIf told (number + 1) (found ++ (text ∷ []))
goes_on None number found text before is = tt
goes_on (Some words) number found text (others, found_is, left_is) (rest, is) =
    let after : drop (number + 1) words ≡ rest = sym (drop-drop 1 number words) ∙ ap (λ (ws : List (Option (List ℕ))). drop 1 ws) is in (
      others ++ (text ∷ []),
      ap (λ (ws : List (List ℕ)). ws ++ (text ∷ [])) found_is,
      left_is ∙ ap (λ (ws : List (Option (List ℕ))). option_map (λ left. others ++ left) (texts ws)) is
          ∙ moves others text (texts rest)
          ∙ ap (λ (ws : List (Option (List ℕ))). option_map (λ left. (others ++ (text ∷ [])) ++ left) (texts ws)) (sym after),
    )

pub ends : (told : Option (List (Option (List ℕ)))) (number : ℕ) (found : List (List ℕ)) → GatheredIf told number found
    → IfSome told (λ words. drop number words ≡ []) → IfSome told (λ words. found ≡ usable words)
ends None number found before is = tt
ends (Some words) number found (others, found_is, left_is) is =
    let all : texts (drop 1 words) ≡ Some (others ++ []) =
    left_is ∙ ap (λ (ws : List (Option (List ℕ))). option_map (λ left. others ++ left) (texts ws)) is in
    found_is ∙ sym (ap nameless all ∙ ap (λ (ws : List (List ℕ)). [] ∷ ws) (append-nil others))

pub is_spoilt : (told : Option (List (Option (List ℕ)))) (number : ℕ) (found : List (List ℕ)) → GatheredIf told number found
    → IfSome told (λ words. (rest : List (Option (List ℕ))) × (drop number words ≡ None ∷ rest)) → IfSome told (λ words. [] ≡ usable words)
is_spoilt None number found before is = tt
is_spoilt (Some words) number found (others, found_is, left_is) (rest, is) =
    let all : texts (drop 1 words) ≡ None =
    left_is ∙ ap (λ (ws : List (Option (List ℕ))). option_map (λ left. others ++ left) (texts ws)) is in
    sym (ap nameless all)
