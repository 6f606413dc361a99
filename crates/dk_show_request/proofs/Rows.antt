-- Words that mean nothing, each with its line.
use Rattle.dk_show_request.proofs.Names.{ℕ, ◌≡◌, List, [], ◌∷◌, codes, refl, wrong_text}
use Rattle.std.specs.Fmt.{digits}
use Rattle.dk_show_request.specs.Forms.{form_named}

-- behind the program's name
abbrev Says : List (List ℕ) → List ℕ → Type 0
Says ws line = wrong_text (codes "deosk-show" ∷ ws) ≡ line

no_word : Says [] (codes "a command is wanted\n")
no_word = refl

unknown : Says (codes "svgg" ∷ []) (codes "svgg is no command\n")
unfolding form_named
unknown = refl

empty_command : Says ([] ∷ []) (codes "an empty word is no command\n")
unfolding form_named
empty_command = refl

broken_line : Says ((97 ∷ 10 ∷ []) ∷ []) (codes "a word with a control character is no command\n")
unfolding form_named
broken_line = refl

other_flag : Says (codes "windows" ∷ codes "l" ∷ codes "--junit" ∷ []) (codes "windows: --junit is no flag of it\n")
unfolding form_named
other_flag = refl

empty_word : Says (codes "faults" ∷ [] ∷ []) (codes "faults: a word is empty\n")
unfolding form_named
empty_word = refl

no_name : Says (codes "chain" ∷ codes "c.toml" ∷ codes "--ledger" ∷ codes "l" ∷ []) (codes "chain: NAME is missing\n")
unfolding form_named
no_name = refl

no_ledger : Says (codes "windows" ∷ codes "--strict" ∷ []) (codes "windows: LEDGER is missing\n")
unfolding form_named
no_ledger = refl

no_end : Says (codes "svg" ∷ codes "l" ∷ codes "10" ∷ []) (codes "svg: TO is missing\n")
unfolding form_named
no_end = refl

two_files : Says (codes "certify" ∷ codes "f.toml" ∷ codes "g.toml" ∷ []) (codes "certify: g.toml is one word too many\n")
unfolding form_named
two_files = refl

no_number : Says (codes "repeats" ∷ codes "c.toml" ∷ codes "0x10" ∷ []) (codes "repeats: 0x10 is no number of ticks from 0 to 10000000\n")
unfolding form_named digits
no_number = refl

too_large : Says (codes "vcd" ∷ codes "l" ∷ codes "5" ∷ codes "10000001" ∷ []) (codes "vcd: 10000001 is no number of ticks from 0 to 10000000\n")
unfolding form_named digits
too_large = refl

no_range : Says (codes "svg" ∷ codes "l" ∷ codes "20" ∷ codes "10" ∷ []) (codes "svg: FROM 20 isn't below TO 10\n")
unfolding form_named
no_range = refl

twice : Says (codes "impact" ∷ codes "--csv" ∷ codes "a" ∷ codes "b" ∷ codes "--csv" ∷ []) (codes "impact: --csv stands more than once\n")
unfolding form_named
twice = refl

bare_option : Says (codes "chain" ∷ codes "c" ∷ codes "a" ∷ codes "--ledger" ∷ []) (codes "chain: a word is wanted behind --ledger\n")
unfolding form_named
bare_option = refl

no_allotment : Says (codes "slack" ∷ codes "c" ∷ codes "nav=4" ∷ codes "video=" ∷ []) (codes "slack: video= is no NAME=TICKS, with TICKS from 0 to 10000000\n")
unfolding form_named digits
no_allotment = refl

allotted_again : Says (codes "slack" ∷ codes "c" ∷ codes "nav=4" ∷ codes "video=1" ∷ codes "nav=0" ∷ []) (codes "slack: nav is allotted more than once\n")
unfolding form_named
allotted_again = refl

two_flags : Says (codes "check" ∷ codes "c" ∷ codes "n" ∷ codes "--csv" ∷ codes "--junit" ∷ []) (codes "check: --csv|--junit stands more than once\n")
unfolding form_named
two_flags = refl

two_options : Says (codes "chain" ∷ codes "c" ∷ codes "a" ∷ codes "--ledger" ∷ codes "l" ∷ codes "--ledger" ∷ codes "m" ∷ []) (codes "chain: --ledger stands more than once\n")
unfolding form_named
two_options = refl

no_percent : Says (codes "budgets" ∷ codes "t" ∷ codes "c" ∷ codes "--csv" ∷ codes "--reserve" ∷ codes "1001" ∷ []) (codes "budgets: 1001 is no number of percent from 0 to 1000\n")
unfolding form_named digits
no_percent = refl

no_such_help : Says (codes "--help" ∷ codes "svgg" ∷ []) (codes "help: svgg is no command\n")
unfolding form_named
no_such_help = refl
