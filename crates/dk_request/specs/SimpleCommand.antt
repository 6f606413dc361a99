-- What `clap` is given for a synopsis: its simple command.
use Rattle.std.specs.Prelude.{ℕ, ◌≡◌, ◌<◌, ◌++◌, ◌==◌, ◌&&◌, Bool, true, false, codes, length, List, [], ◌∷◌, Some, option_map, slice_index_or, if◌then◌else◌}
use Rattle.clap.specs.Words.{App, Rule, matched_of, new_app, new_rule, raw_values}
use Rattle.clap.specs.declared.parser.matches.Found.{Found}
use Rattle.clap.specs.Simple.{on_top}
use Rattle.clap.specs.declared.builder.action.ArgAction.{ArgAction}
use Rattle.clap.specs.declared.builder.action.ArgAction.TheVariants.{Set, Append, SetTrue}
use Rattle.dk_request.specs.Synopsis.{Synopsis, words_at}

abbrev pub action_for : Bool → ArgAction
action_for true = Append
action_for false = Set

-- an argument of this name, which may stand for several words
abbrev pub argument : Bool → List ℕ → Rule
argument many name = record (new_rule name) { required = true; action = Some (action_for many) }

abbrev pub flag : Rule
flag = record (new_rule (codes "report")) { long = Some (codes "report"); action = Some SetTrue }

abbrev pub is_last : List (List ℕ) → Bool
is_last more = length more == 0

abbrev pub arguments : Bool → List (List ℕ) → List Rule
arguments repeats [] = []
arguments repeats (name ∷ more) = argument (repeats && is_last more) name ∷ arguments repeats more

abbrev pub flags_for : Bool → List Rule
flags_for reports = if reports then flag ∷ [] else []

abbrev pub with_rules : List ℕ → List Rule → App
with_rules word rules = on_top (λ shape. record shape { rules = rules }) (new_app word)

abbrev pub simple_command : Synopsis → App
simple_command s = with_rules s.word (arguments s.repeats s.names ++ flags_for s.reports)

-- each argument was found with the words that it stands for
abbrev pub HasWords : Synopsis → List (List ℕ) → Found → Type 0
HasWords s ps f =
    (k : ℕ) → k < length s.names
    → option_map raw_values (matched_of f (slice_index_or s.names k [])) ≡ Some (words_at s ps k)
