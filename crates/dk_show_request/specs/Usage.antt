-- The usage line: each command with its arguments, in their order.
use Rattle.std.specs.Prelude.{ℕ, Bool, codes, flat_map, length, nat_lt, List, [], ◌∷◌, ◌++◌, if◌then◌else◌}
use Rattle.dk_show_request.specs.Forms.{Form, forms, takes_several}
use Rattle.dk_show_request.specs.Words.{dashed}

abbrev pub spaced : List (List ℕ) → List ℕ
spaced names = flat_map (λ name. codes " " ++ name) names

abbrev pub bracketed : List ℕ → List ℕ
bracketed text = codes " [" ++ (text ++ codes "]")

abbrev pub dots : Bool → List ℕ
dots repeats = if repeats then codes "..." else []

abbrev pub arguments_in : List (List ℕ) → List (List ℕ) → Bool → List ℕ
arguments_in needed [] repeats = spaced needed ++ dots repeats
arguments_in needed (name ∷ more) repeats = spaced needed ++ bracketed (name ++ (spaced more ++ dots repeats))

-- flags of these names, parted by bars
abbrev pub flags_text : List (List ℕ) → List ℕ
flags_text [] = []
flags_text (m ∷ []) = dashed m
flags_text (m ∷ next ∷ more) = dashed m ++ (codes "|" ++ flags_text (next ∷ more))

abbrev pub flags_in : List (List ℕ) → List ℕ
flags_in [] = []
flags_in (m ∷ more) = bracketed (flags_text (m ∷ more))

-- an option with the name of its word
abbrev pub option_in : List ℕ → List ℕ → List ℕ
option_in name value = if nat_lt 0 (length name) then bracketed (dashed name ++ (codes " " ++ value)) else []

-- a command with its arguments, its option and its flags
abbrev pub call_text : Form → List ℕ
call_text f =
    f.word ++ (arguments_in f.needed f.optional (takes_several f.kind) ++ (option_in f.option f.value ++ flags_in f.flags))

abbrev pub bar : List Form → List ℕ
bar [] = []
bar (f ∷ fs) = codes " | "

-- parted by bars
abbrev pub usages : List Form → List ℕ
usages [] = []
usages (f ∷ fs) = call_text f ++ (bar fs ++ usages fs)

abbrev pub usage_text : List ℕ
usage_text = codes "usage: deosk-show " ++ (usages forms ++ codes "\n")
