-- What the words mean.
use Rattle.std.specs.Prelude.{ℕ, ◌≡◌, ◌<◌, ◌≤◌, Bool, codes, drop, find, is_some, length, map, nat_lt, unwrap_or, ◌||◌, option_and_then, option_map, List, [], ◌∷◌, Option, Some, None, if◌then◌else◌}
use Rattle.clap.specs.Words.{Row, all_of, first_of}
use Rattle.dk_config.specs.declared.TheConstants.{MAX_PROCESSES}
use Rattle.dk_show_request.specs.declared.numbers.TheConstants.{MAX_RESERVE}
use Rattle.dk_show_request.specs.declared.commands.Drawing.{Drawing}
use Rattle.dk_show_request.specs.declared.commands.Telling.{Telling}
use Rattle.dk_show_request.specs.declared.commands.Command.{Command}
use Rattle.dk_show_request.specs.declared.commands.Command.TheVariants as command
use Rattle.dk_show_request.specs.declared.request.Range.{Range}
use Rattle.dk_show_request.specs.declared.request.BudgetsForm.{BudgetsForm}
use Rattle.dk_show_request.specs.declared.request.BudgetsForm.TheVariants as budgets_form
use Rattle.dk_show_request.specs.declared.request.CheckForm.{CheckForm}
use Rattle.dk_show_request.specs.declared.request.CheckForm.TheVariants as check_form
use Rattle.dk_show_request.specs.declared.request.WindowsForm.{WindowsForm}
use Rattle.dk_show_request.specs.declared.request.WindowsForm.TheVariants as windows_form
use Rattle.dk_show_request.specs.declared.request.Request.{Request}
use Rattle.dk_show_request.specs.declared.request.Request.TheVariants as request
use Rattle.dk_show_request.specs.Allotments.{allotment_of, is_no_allotment, repeated_name}
use Rattle.dk_show_request.specs.Chain.{ChainAsk}
use Rattle.dk_show_request.specs.Clap.{app_for, given_by, has}
use Rattle.dk_show_request.specs.Forms.{Form, form_named, is_no_command}
use Rattle.dk_show_request.specs.Numbers.{percent_in, ticks_in}
use Rattle.dk_show_request.specs.Words.{fits, word_at}

abbrev pub range_of : Option ℕ → Option ℕ → Option (Option Range)
range_of (Some from) (Some to) = if nat_lt from to then Some (Some (record { from = from; to = to })) else None
range_of _ _ = None

-- both ends of the range, the first below the second, or none of them
abbrev pub range_by : Option (List ℕ) → Option (List ℕ) → Option (Option Range)
range_by None None = Some None
range_by (Some from) (Some to) = range_of (ticks_in from) (ticks_in to)
range_by _ _ = None

abbrev pub range_in : List Row → Option (Option Range)
range_in rows = range_by (first_of (codes "FROM") rows) (first_of (codes "TO") rows)

abbrev pub drawing_by : Drawing → Option (List ℕ) → Option (Option Range) → Option Request
drawing_by d (Some ledger) (Some range) = Some (request.Draw (record { drawing = d; ledger = ledger; range = range }))
drawing_by d _ _ = None

-- beside a configuration, where one is named
abbrev pub picture_by : Option (List ℕ) → Option (List ℕ) → Option (Option Range) → Option Request
picture_by file (Some ledger) (Some range) = Some (request.Picture ledger file range)
picture_by file _ _ = None

abbrev pub windows_form_in : List Row → WindowsForm
windows_form_in rows =
    if has (codes "strict") rows then windows_form.Strict
    else if has (codes "sparing") rows then windows_form.Sparing
    else if has (codes "all") rows then windows_form.All
    else if has (codes "tenths") rows then windows_form.Tenths
    else if has (codes "csv") rows then windows_form.Csv
    else windows_form.Plain

abbrev pub windows_by : WindowsForm → Option (List ℕ) → Option Request
windows_by form None = None
windows_by form (Some ledger) = Some (request.Windows ledger form)

abbrev pub holds_by : Option (List ℕ) → Option (List ℕ) → Option Request
holds_by None file = None
holds_by (Some ledger) file = Some (request.Holds ledger file)

abbrev pub faults_by : Option (List ℕ) → Option Request
faults_by None = None
faults_by (Some file) = Some (request.Faults file)

abbrev pub telling_by : Telling → Bool → Option (List ℕ) → Option Request
telling_by t as_csv None = None
telling_by t as_csv (Some file) = Some (request.Tell (record { telling = t; file = file; as_csv = as_csv }))

abbrev pub slack_with : Bool → List ℕ → List (List ℕ) → Request
slack_with as_csv file words =
    request.Slack (record { file = file; allotments = map allotment_of words; as_csv = as_csv })

-- where each of the words is an allotment, and no name stands twice
abbrev pub slack_of : Bool → List ℕ → List (List ℕ) → Option Request
slack_of as_csv file words =
    if is_some (find is_no_allotment words) || is_some (repeated_name words) then None
    else Some (slack_with as_csv file words)

abbrev pub slack_by : Bool → Option (List (List ℕ)) → Option (List ℕ) → Option Request
slack_by as_csv words None = None
slack_by as_csv words (Some file) = slack_of as_csv file (unwrap_or words [])

-- one process, and up to 31 more
abbrev pub chain_of : List ℕ → List (List ℕ) → Option ChainAsk
chain_of file [] = None
chain_of file (first ∷ rest) =
    if nat_lt (length rest) MAX_PROCESSES then Some (record { file = file; first = first; rest = rest }) else None

-- of the ledger too, where one is named
abbrev pub chain_with : ChainAsk → Option (List ℕ) → Request
chain_with r None = request.Chain r
chain_with r (Some ledger) = request.Reactions r ledger

abbrev pub chain_by : Option (List ℕ) → Option (List ℕ) → Option (List (List ℕ)) → Option Request
chain_by ledger (Some file) (Some names) = option_map (λ r. chain_with r ledger) (chain_of file names)
chain_by ledger _ _ = None

abbrev pub impact_by : Bool → Option (List (List ℕ)) → Option (List ℕ) → Option (List ℕ) → Option Request
impact_by as_csv names (Some old) (Some new) =
    Some (request.Impact (record { old = old; new = new; names = unwrap_or names []; as_csv = as_csv }))
impact_by as_csv names _ _ = None

abbrev pub repeats_of : List ℕ → Option ℕ → Option Request
repeats_of file None = None
repeats_of file (Some ticks) = Some (request.Repeats file ticks)

abbrev pub repeats_by : Option (List ℕ) → Option (List ℕ) → Option Request
repeats_by (Some file) (Some ticks) = repeats_of file (ticks_in ticks)
repeats_by _ _ = None

abbrev pub check_form_in : List Row → CheckForm
check_form_in rows =
    if has (codes "csv") rows then check_form.Csv
    else if has (codes "junit") rows then check_form.Junit
    else check_form.Plain

abbrev pub check_by : CheckForm → Option (List ℕ) → Option (List ℕ) → Option (List ℕ) → Option Request
check_by form ledger (Some file) (Some needs) =
    Some (request.Check (record { file = file; needs = needs; ledger = ledger; form = form }))
check_by form ledger _ _ = None

abbrev pub replay_by : Option (List ℕ) → Option (List ℕ) → Option (List ℕ) → Option Request
replay_by (Some profile) (Some name) (Some file) =
    Some (request.Replay (record { profile = profile; name = name; file = file }))
replay_by _ _ _ = None

abbrev pub budgets_form_in : List Row → BudgetsForm
budgets_form_in rows =
    if has (codes "csv") rows then budgets_form.Csv
    else if has (codes "toml") rows then budgets_form.Toml
    else budgets_form.Plain

-- the reserve, 0 where none is named
abbrev pub percent_by : Option (List ℕ) → Option ℕ
percent_by None = Some 0
percent_by (Some word) = percent_in word

abbrev pub budgets_of : BudgetsForm → ℕ → Option (List ℕ) → Option (List ℕ) → Option Request
budgets_of form percent (Some times) (Some file) =
    Some (request.Budgets (record { times = times; file = file; percent = percent; form = form }))
budgets_of form percent _ _ = None

abbrev pub budgets_by : BudgetsForm → Option ℕ → Option (List ℕ) → Option (List ℕ) → Option Request
budgets_by form None times file = None
budgets_by form (Some percent) times file = budgets_of form percent times file

-- of all commands, or of the one of this name
abbrev pub help_by : Option (List ℕ) → Option Request
help_by None = Some (request.Help None)
help_by (Some name) = if is_no_command name then None else Some (request.Help (Some name))

-- what a command is asked by the words of its arguments
abbrev pub asked : Command → List Row → Option Request
asked (command.Draw d) rows = drawing_by d (first_of (codes "LEDGER") rows) (range_in rows)
asked command.Picture rows =
    picture_by (first_of (codes "config") rows) (first_of (codes "LEDGER") rows) (range_in rows)
asked command.Windows rows = windows_by (windows_form_in rows) (first_of (codes "LEDGER") rows)
asked command.Holds rows = holds_by (first_of (codes "LEDGER") rows) (first_of (codes "FILE") rows)
asked command.Faults rows = faults_by (first_of (codes "FILE") rows)
asked (command.Tell t) rows = telling_by t (has (codes "csv") rows) (first_of (codes "FILE") rows)
asked command.Slack rows =
    slack_by (has (codes "csv") rows) (all_of (codes "NAME=TICKS") rows) (first_of (codes "FILE") rows)
asked command.Chain rows =
    chain_by (first_of (codes "ledger") rows) (first_of (codes "FILE") rows) (all_of (codes "NAME") rows)
asked command.Impact rows = impact_by (has (codes "csv") rows) (all_of (codes "NAME") rows)
    (first_of (codes "OLD") rows) (first_of (codes "NEW") rows)
asked command.Repeats rows = repeats_by (first_of (codes "FILE") rows) (first_of (codes "TICKS") rows)
asked command.Check rows = check_by (check_form_in rows) (first_of (codes "LEDGER") rows)
    (first_of (codes "FILE") rows) (first_of (codes "NEEDS") rows)
asked command.Replay rows = replay_by (first_of (codes "PROFILE") rows) (first_of (codes "NAME") rows)
    (first_of (codes "FILE") rows)
asked command.Budgets rows = budgets_by (budgets_form_in rows) (percent_by (first_of (codes "reserve") rows))
    (first_of (codes "TIMES") rows) (first_of (codes "FILE") rows)
asked command.Help rows = help_by (first_of (codes "COMMAND") rows)
asked command.Version rows = Some request.Version

-- What a command is asked by the words from its own on. `clap` decides which words stand for which arguments.
abbrev pub asked_by : Form → List (List ℕ) → Option Request
asked_by f ws =
    if fits f (drop 1 ws) then option_and_then (asked f.command) (given_by (app_for f) ws) else None

-- what the words ask for; the first is the program's name and isn't looked at
unfoldable pub meaning : List (List ℕ) → Option Request
meaning words = option_and_then (λ f. asked_by f (drop 1 words)) (form_named (word_at words 1))

-- a drawing is written line by line, and all else once it is made
abbrev pub DrawsNothing : Request → Type 0
DrawsNothing (request.Draw r) = ⊥
DrawsNothing _ = Unit {0}

-- a chain has at most 32 processes, and a reserve at most 1,000 percent
abbrev pub KeepsLimits : Request → Type 0
KeepsLimits (request.Chain r) = length r.rest < MAX_PROCESSES
KeepsLimits (request.Reactions r ledger) = length r.rest < MAX_PROCESSES
KeepsLimits (request.Budgets r) = r.percent ≤ MAX_RESERVE
KeepsLimits _ = Unit {0}

abbrev pub MeansNothing : List (List ℕ) → Type 0
MeansNothing words = meaning words ≡ None

-- What is looked for in so many ticks, which may be there and not be found; and needs, whose rows are told by a relation.
abbrev pub IsSought : Option Request → Type 0
IsSought (Some (request.Repeats file ticks)) = Unit {0}
IsSought (Some (request.Check r)) = Unit {0}
IsSought _ = ⊥
