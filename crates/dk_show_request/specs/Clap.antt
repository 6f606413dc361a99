-- What `clap` is given for a command, and what it makes of words.
use Rattle.std.specs.Prelude.{ℕ, Bool, true, false, ◌==◌, ◌&&◌, nat_lt, codes, length, map, List, [], ◌∷◌, Option, Some, None, if◌then◌else◌}
use Rattle.std.specs.Str.{bytes_eq}
use Rattle.clap.specs.Words.{App, Row, Rule, Text, first_of, fault_of, matches_of, new_app, new_rule, with_rule}
use Rattle.clap.specs.declared.builder.action.ArgAction.TheVariants.{Append, Set, SetTrue}
use Rattle.dk_show_request.specs.Forms.{Form, takes_several}

-- an argument of this name
abbrev pub argument : List ℕ → Bool → Rule
argument name required = record (new_rule name) { required = required; action = Some Set }

-- an argument of this name that stands for several words
abbrev pub many_argument : List ℕ → Bool → Rule
many_argument name required = record (new_rule name) { required = required; action = Some Append }

-- a flag of this name
abbrev pub flag : List ℕ → Rule
flag name = record (new_rule name) { long = Some name; action = Some SetTrue }

-- an option of this name, which stands before its word
abbrev pub option : List ℕ → Rule
option name = record (new_rule name) { long = Some name; action = Some Set }

-- of an argument, which stands for one word or, if it repeats, several
abbrev pub word_rule : List ℕ → Bool → Bool → Rule
word_rule name required repeats = if repeats then many_argument name required else argument name required

-- the last argument repeats
abbrev pub is_several : Bool → List (List ℕ) → Bool
is_several repeats behind = repeats && (length behind == 0)

-- of arguments, of which the last may repeat
abbrev pub word_rules : List (List ℕ) → Bool → Bool → List Rule
word_rules [] required repeats = []
word_rules (name ∷ rest) required repeats =
    word_rule name required (is_several repeats rest) ∷ word_rules rest required repeats

abbrev pub with_rules : App → List Rule → App
with_rules app [] = app
with_rules app (rule ∷ rules) = with_rules (with_rule app rule) rules

-- for the arguments that must stand, and then for those that may
abbrev pub needed_app : Form → App
needed_app f = with_rules (new_app f.word) (word_rules f.needed true (is_several (takes_several f.kind) f.optional))

abbrev pub words_app : Form → App
words_app f = with_rules (needed_app f) (word_rules f.optional false (takes_several f.kind))

-- and for the flags, and the option, if there is one
abbrev pub flags_app : Form → App
flags_app f = with_rules (words_app f) (map flag f.flags)

abbrev pub with_option : App → List ℕ → App
with_option app name = if nat_lt 0 (length name) then with_rule app (option name) else app

-- what `clap` is given for a command
abbrev pub app_for : Form → App
app_for f = with_option (flags_app f) f.option

-- the text of a flag is "true" or "false"
abbrev pub is_true : Option Text → Bool
is_true None = false
is_true (Some text) = bytes_eq text (codes "true")

-- the flag of this name stands
abbrev pub has : List ℕ → List Row → Bool
has name rows = is_true (first_of name rows)

-- the words of each argument, flag and option, where `clap` has no fault to find
abbrev pub given_by : App → List Text → Option (List Row)
given_by app ws = if length (fault_of app ws) == 0 then Some (matches_of app ws) else None
