-- The words that a process was given, and what is made of them.
use Rattle.std.specs.Prelude.{ℕ, ◌≡◌, List, [], ◌∷◌, drop, Option, Some, None, option_map, string_bytes}
use Rattle.dk_edge.specs.declared.words.Word.{Word}
use Rattle.dk_edge.specs.declared.words.Word.TheVariants.{Text, NotText, Missing}

-- it is the first of these, or there are none
abbrev pub IsFirst : List (Option (List ℕ)) → Word → Type 0
IsFirst words (Text text) = (rest : List (Option (List ℕ))) × (words ≡ Some (string_bytes text) ∷ rest)
IsFirst words NotText = (rest : List (Option (List ℕ))) × (words ≡ None ∷ rest)
IsFirst words Missing = words ≡ []

-- the words, where each is text
abbrev pub texts : List (Option (List ℕ)) → Option (List (List ℕ))
texts [] = Some []
texts (None ∷ rest) = None
texts (Some text ∷ rest) = option_map (λ others. text ∷ others) (texts rest)

-- an empty word in front of these, or none
abbrev pub nameless : Option (List (List ℕ)) → List (List ℕ)
nameless None = []
nameless (Some others) = [] ∷ others

-- the words with an empty one in place of the first, or none where one of the others isn't text
abbrev pub usable : List (Option (List ℕ)) → List (List ℕ)
usable words = nameless (texts (drop 1 words))
