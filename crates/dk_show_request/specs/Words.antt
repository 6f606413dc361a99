-- Which words behind a command word stand for what.
use Rattle.std.specs.Prelude.{ℕ, ◌-◌, ◌==◌, ◌&&◌, ◌||◌, not, Bool, false, codes, filter, find, is_some, length, nat_lt, slice_get, slice_index, unwrap_or, List, [], ◌∷◌, ◌++◌, Option, Some, None, if◌then◌else◌}
use Rattle.std.specs.List.{list_any}
use Rattle.std.specs.Option.{option_map_or}
use Rattle.std.specs.Str.{bytes_eq}
use Rattle.dk_show_request.specs.Forms.{Form}

-- the word isn't empty, and doesn't begin with '-'
abbrev pub is_plain_word : List ℕ → Bool
is_plain_word w = nat_lt 0 (length w) && not (slice_index w 0 == 45)

-- a flag or an option of this name, as it is written
abbrev pub dashed : List ℕ → List ℕ
dashed name = codes "--" ++ name

abbrev pub is_flag : Form → List ℕ → Bool
is_flag f w = list_any (λ m. bytes_eq w (dashed m)) f.flags

abbrev pub is_option : Form → List ℕ → Bool
is_option f w = nat_lt 0 (length f.option) && bytes_eq w (dashed f.option)

-- the word is a flag or an option
abbrev pub is_mark : Form → List ℕ → Bool
is_mark f w = is_flag f w || is_option f w

-- the words that stand for arguments: no flag or option, and not the word behind an option
abbrev pub arguments_behind : Form → Bool → List (List ℕ) → List (List ℕ)
arguments_behind f behind [] = []
arguments_behind f behind (w ∷ ws) =
    if behind || is_mark f w
    then arguments_behind f (is_option f w) ws
    else (w ∷ arguments_behind f (is_option f w) ws)

abbrev pub arguments : Form → List (List ℕ) → List (List ℕ)
arguments f ws = arguments_behind f false ws

-- the first word behind an option
abbrev pub option_word : Form → Bool → List (List ℕ) → Option (List ℕ)
option_word f behind [] = None
option_word f behind (w ∷ ws) = if behind then Some w else option_word f (is_option f w) ws

abbrev pub is_unfit : Form → List ℕ → Bool
is_unfit f w = not (is_mark f w || is_plain_word w)

-- the first word that is empty, or begins with '-' and is no flag or option
abbrev pub unfit_word : Form → List (List ℕ) → Option (List ℕ)
unfit_word f ws = find (is_unfit f) ws

-- more than one word is a flag
abbrev pub has_flags : Form → List (List ℕ) → Bool
has_flags f ws = nat_lt 1 (length (filter (is_flag f) ws))

-- more than one is the option
abbrev pub has_options : Form → List (List ℕ) → Bool
has_options f ws = nat_lt 1 (length (filter (is_option f) ws))

-- the last word is an option
abbrev pub ends_bare : Form → List (List ℕ) → Bool
ends_bare f ws = option_map_or (is_option f) (slice_get ws (length ws - 1)) false

-- no word is unfit, and one at most is a flag, and one an option
abbrev pub fits : Form → List (List ℕ) → Bool
fits f ws = not (is_some (unfit_word f ws)) && not (has_flags f ws || has_options f ws)

abbrev pub word_at : List (List ℕ) → ℕ → List ℕ
word_at ws i = unwrap_or (slice_get ws i) []
