-- Why words mean nothing: the first reason that is found.
use Rattle.std.specs.Prelude.{ℕ, ◌+◌, ◌-◌, ◌==◌, ◌&&◌, ◌||◌, not, Bool, false, codes, decimal, drop, find, is_some, length, nat_lt, slice_get, List, [], ◌∷◌, ◌++◌, Option, Some, None, if◌then◌else◌}
use Rattle.std.specs.List.{list_any}
use Rattle.std.specs.Option.{option_map_or}
use Rattle.dk_config.specs.declared.TheConstants.{MAX_PROCESSES, MAX_RUN_TICKS}
use Rattle.dk_show_request.specs.declared.table.Kind.{Kind}
use Rattle.dk_show_request.specs.declared.table.Kind.TheVariants as kind
use Rattle.dk_show_request.specs.Allotments.{is_no_allotment, repeated_name}
use Rattle.dk_show_request.specs.Forms.{Form, form_named, is_no_command, takes_several, takes_ticks}
use Rattle.dk_show_request.specs.Numbers.{percent_in, ticks_in}
use Rattle.dk_show_request.specs.declared.numbers.TheConstants.{MAX_RESERVE}
use Rattle.std.specs.Str.{bytes_eq}
use Rattle.dk_show_request.specs.Usage.{flags_text}
use Rattle.dk_show_request.specs.Words.{arguments, dashed, ends_bare, has_flags, has_options, option_word, unfit_word, word_at}

-- why the words behind a command word are no call of it
pub data Reason : Type 0 where
  -- a word begins with '-', and is no flag of the command
  no_flag : List ℕ → Reason
  -- a word is empty
  empty : Reason
  -- no word stands for the argument of this name
  missing : List ℕ → Reason
  -- no argument is left for this word
  surplus : List ℕ → Reason
  -- this word stands for ticks, and spells none
  no_ticks : List ℕ → Reason
  -- the first tick, FROM, isn't below the second, TO
  disorder : List ℕ → List ℕ → Reason
  -- a chain has more names than a configuration has processes
  many_names : Reason
  -- this word is no allotment of slack
  no_allotment : List ℕ → Reason
  -- the process of this name has more than one allotment
  allotted_again : List ℕ → Reason
  -- this word is no command
  no_command : List ℕ → Reason
  -- this word stands for a number of percent, and spells none
  no_percent : List ℕ → Reason
  -- more than one of these flags and options stands, or one of them twice
  repeated : List ℕ → Reason
  -- no word stands behind this option
  bare : List ℕ → Reason
  -- none of these
  other : Reason

-- of so many words, the name of the first argument that has none and must have one
abbrev pub missing_name : Form → ℕ → Option (List ℕ)
missing_name f n =
    if nat_lt n (length f.needed) then slice_get f.needed n
    else if n == length f.needed then None
    else slice_get f.optional (n - length f.needed)

-- the first word for which no argument is left
abbrev pub surplus_word : Form → List (List ℕ) → Option (List ℕ)
surplus_word f ps = if takes_several f.kind then None else slice_get (drop (length f.needed) ps) (length f.optional)

abbrev pub is_no_ticks : List ℕ → Bool
is_no_ticks w = not (is_some (ticks_in w))

abbrev pub no_ticks_word : Form → List (List ℕ) → Option (List ℕ)
no_ticks_word f ps = if takes_ticks f.kind then find is_no_ticks (drop 1 ps) else None

abbrev pub is_no_percent : List ℕ → Bool
is_no_percent w = not (is_some (percent_in w))

-- the value, where the test holds of it
abbrev pub option_filter : (List ℕ → Bool) → Option (List ℕ) → Option (List ℕ)
option_filter test None = None
option_filter test (Some w) = if test w then Some w else None

abbrev pub is_below : Option ℕ → Option ℕ → Bool
is_below (Some from) (Some to) = nat_lt from to
is_below _ _ = false

-- more of a chain than a configuration has processes
abbrev pub has_many_names : Kind → List (List ℕ) → Bool
has_many_names kind.Processes ps = nat_lt MAX_PROCESSES (length (drop 1 ps))
has_many_names _ ps = false

-- of the words those that are to be allotments
abbrev pub allotting : Kind → List (List ℕ) → List (List ℕ)
allotting kind.Allotments ps = drop 1 ps
allotting _ ps = []

-- of the flags and options
abbrev pub mark_reason : Form → List (List ℕ) → Reason
mark_reason f ws =
    if has_flags f ws then repeated (flags_text f.flags)
    else if has_options f ws then repeated (dashed f.option)
    else if ends_bare f ws then bare (word_at ws (length ws - 1))
    else other

-- of a command with a reserve the word that is to be a number of percent
abbrev pub no_percent_word : Form → List (List ℕ) → Option (List ℕ)
no_percent_word f ws =
    if bytes_eq f.option (codes "reserve") then option_filter is_no_percent (option_word f false ws) else None

abbrev pub percent_reason : Form → List (List ℕ) → Reason
percent_reason f ws = option_map_or no_percent (no_percent_word f ws) (mark_reason f ws)

-- the words that are to be those of commands
abbrev pub naming : Kind → List (List ℕ) → List (List ℕ)
naming kind.Commands ps = ps
naming _ ps = []

abbrev pub commands_reason : Form → List (List ℕ) → List (List ℕ) → Reason
commands_reason f ps ws = option_map_or no_command (find is_no_command (naming f.kind ps)) (percent_reason f ws)

abbrev pub again_reason : Form → List (List ℕ) → List (List ℕ) → Reason
again_reason f ps ws = option_map_or allotted_again (repeated_name (allotting f.kind ps)) (commands_reason f ps ws)

-- of allotments, and of the flags and options
abbrev pub allotments_reason : Form → List (List ℕ) → List (List ℕ) → Reason
allotments_reason f ps ws = option_map_or no_allotment (find is_no_allotment (allotting f.kind ps)) (again_reason f ps ws)

abbrev pub names_reason : Form → List (List ℕ) → List (List ℕ) → Reason
names_reason f ps ws = if has_many_names f.kind ps then many_names else allotments_reason f ps ws

-- the words stand for a file, FROM and TO, and FROM isn't below TO
abbrev pub is_disordered : Form → List (List ℕ) → Bool
is_disordered f ps =
    (takes_ticks f.kind && (length ps == 3)) && not (is_below (ticks_in (word_at ps 1)) (ticks_in (word_at ps 2)))

abbrev pub order_reason : Form → List (List ℕ) → List (List ℕ) → Reason
order_reason f ps ws =
    if is_disordered f ps then disorder (word_at ps 1) (word_at ps 2) else names_reason f ps ws

abbrev pub ticks_reason : Form → List (List ℕ) → List (List ℕ) → Reason
ticks_reason f ps ws = option_map_or no_ticks (no_ticks_word f ps) (order_reason f ps ws)

abbrev pub surplus_reason : Form → List (List ℕ) → List (List ℕ) → Reason
surplus_reason f ps ws = option_map_or surplus (surplus_word f ps) (ticks_reason f ps ws)

-- of the words that stand for arguments, and all
abbrev pub count_reason : Form → List (List ℕ) → List (List ℕ) → Reason
count_reason f ps ws = option_map_or missing (missing_name f (length ps)) (surplus_reason f ps ws)

abbrev pub unfit_reason : List ℕ → Reason
unfit_reason w = if length w == 0 then empty else no_flag w

-- why the words behind the command word are no call of the command
abbrev pub reason : Form → List (List ℕ) → Reason
reason f ws = option_map_or unfit_reason (unfit_word f ws) (count_reason f (arguments f ws) ws)

abbrev pub is_control : ℕ → Bool
is_control b = nat_lt b 32 || b == 127

-- a word that would break the line or can't be seen isn't written
abbrev pub shown : List ℕ → List ℕ
shown w =
    if length w == 0 then codes "an empty word"
    else if list_any is_control w then codes "a word with a control character"
    else w

abbrev pub reason_text : Reason → List ℕ
reason_text (no_flag w) = shown w ++ codes " is no flag of it\n"
reason_text empty = codes "a word is empty\n"
reason_text (missing name) = name ++ codes " is missing\n"
reason_text (surplus w) = shown w ++ codes " is one word too many\n"
reason_text (no_ticks w) = shown w ++ (codes " is no number of ticks from 0 to " ++ (decimal MAX_RUN_TICKS ++ codes "\n"))
reason_text (disorder from to) = codes "FROM " ++ (shown from ++ (codes " isn't below TO " ++ (shown to ++ codes "\n")))
reason_text many_names = codes "more than " ++ (decimal MAX_PROCESSES ++ codes " names\n")
reason_text (no_allotment w) =
    shown w ++ (codes " is no NAME=TICKS, with TICKS from 0 to " ++ (decimal MAX_RUN_TICKS ++ codes "\n"))
reason_text (allotted_again name) = shown name ++ codes " is allotted more than once\n"
reason_text (no_command w) = shown w ++ codes " is no command\n"
reason_text (no_percent w) = shown w ++ (codes " is no number of percent from 0 to " ++ (decimal MAX_RESERVE ++ codes "\n"))
reason_text (repeated flags) = flags ++ codes " stands more than once\n"
reason_text (bare w) = codes "a word is wanted behind " ++ (shown w ++ codes "\n")
reason_text other = codes "these words are no call of it\n"

-- of a command the word, and why the words behind it are no call of it
abbrev pub wrong_with : List ℕ → Option Form → List (List ℕ) → List ℕ
wrong_with w None ws = shown w ++ codes " is no command\n"
wrong_with w (Some f) ws = f.word ++ (codes ": " ++ reason_text (reason f ws))

-- a line that says why the words mean nothing; the first is the program's name
abbrev pub wrong_text : List (List ℕ) → List ℕ
wrong_text (program ∷ w ∷ ws) = wrong_with w (form_named w) ws
wrong_text _ = codes "a command is wanted\n"
