-- The words never ask for a chain of more than 32 processes.
use Rattle.dk_show_request.proofs.Names.{ℕ, ◌≡◌, ◌<◌, inl, inr, List, [], ◌∷◌, length, arith, drop, subst, sym, Bool, Option, Some, None, IfOk, IfSome, Result, Ok, Err, nat_lt, option_and_then, option_map, cases_Bool, nat_tests, Row, all_of, first_of, MAX_PROCESSES, Command, Drawing, Telling, CheckForm, Range, Request, WindowsForm, app_for, given_by, has, Form, KeepsLimits, asked, asked_by, BudgetsForm, budgets_by, budgets_form_in, percent_by, percent_of, nat_le, MAX_RESERVE, chain_by, chain_of, chain_with, check_by, check_form_in, drawing_by, faults_by, help_by, holds_by, impact_by, picture_by, range_in, repeats_by, repeats_of, replay_by, slack_by, slack_with, repeated_name, is_no_allotment, is_no_command, is_some, find, unwrap_or, if◌then◌else◌, ◌||◌, true, false, telling_by, windows_by, windows_form_in, ticks_in, fits}
use Rattle.std.specs.Prelude.{codes, ◌≤◌}
use Rattle.dk_show_request.specs.declared.commands.Command.TheVariants as command

abbrev pub Few : Option Request → Type 0
Few o = IfSome o KeepsLimits

abbrev Word : Type 0
Word = Option (List ℕ)

then_few : {X : Type 0} (f : X → Option Request) (o : Option X) → ((x : X) → Few (f x)) → Few (option_and_then f o)
then_few f None each = tt
then_few f (Some x) each = each x

drawing_few : (d : Drawing) (ledger : Word) (range : Option (Option Range)) → Few (drawing_by d ledger range)
drawing_few d None range = tt
drawing_few d (Some ledger) None = tt
drawing_few d (Some ledger) (Some range) = tt

picture_few : (file ledger : Word) (range : Option (Option Range)) → Few (picture_by file ledger range)
picture_few file None range = tt
picture_few file (Some ledger) None = tt
picture_few file (Some ledger) (Some range) = tt

windows_few : (form : WindowsForm) (ledger : Word) → Few (windows_by form ledger)
windows_few form None = tt
windows_few form (Some ledger) = tt

holds_few : (ledger file : Word) → Few (holds_by ledger file)
holds_few None file = tt
holds_few (Some ledger) file = tt

faults_few : (file : Word) → Few (faults_by file)
faults_few None = tt
faults_few (Some file) = tt

telling_few : (t : Telling) (as_csv : Bool) (file : Word) → Few (telling_by t as_csv file)
telling_few t as_csv None = tt
telling_few t as_csv (Some file) = tt

slack_few : (as_csv : Bool) (words : Option (List (List ℕ))) (file : Word) → Few (slack_by as_csv words file)
slack_few as_csv words None = tt
slack_few as_csv words (Some file) = either (is_some (find is_no_allotment (unwrap_or words [])) || is_some (repeated_name (unwrap_or words [])))
  where
    either : (b : Bool) → Few (if b then None else Some (slack_with as_csv file (unwrap_or words [])))
    either true = tt
    either false = tt

chain_few : (file : List ℕ) (names : List (List ℕ)) (ledger : Word) → Few (option_map (λ r. chain_with r ledger) (chain_of file names))
chain_few file [] ledger = tt
chain_few file (first ∷ rest) ledger =
    elim (cases_Bool (nat_lt (length rest) MAX_PROCESSES)) [
      | inl few ↦ rw few (with_few ledger (grind (arith, nat_tests)))
      | inr many ↦ rw many tt
    ]
  where
    with_few : (ledger : Word) → length rest < MAX_PROCESSES → KeepsLimits (chain_with (record { file = file; first = first; rest = rest }) ledger)
    with_few None few = few
    with_few (Some name) few = few

by_few : (ledger file : Word) (names : Option (List (List ℕ))) → Few (chain_by ledger file names)
by_few ledger None names = tt
by_few ledger (Some file) None = tt
by_few ledger (Some file) (Some names) = chain_few file names ledger

impact_few : (as_csv : Bool) (names : Option (List (List ℕ))) (old new : Word) → Few (impact_by as_csv names old new)
impact_few as_csv names None new = tt
impact_few as_csv names (Some old) None = tt
impact_few as_csv names (Some old) (Some new) = tt

ticks_few : (file : List ℕ) (ticks : Option ℕ) → Few (repeats_of file ticks)
ticks_few file None = tt
ticks_few file (Some ticks) = tt

repeats_few : (file ticks : Word) → Few (repeats_by file ticks)
repeats_few None ticks = tt
repeats_few (Some file) None = tt
repeats_few (Some file) (Some ticks) = ticks_few file (ticks_in ticks)

check_few : (form : CheckForm) (ledger file needs : Word) → Few (check_by form ledger file needs)
check_few form ledger None needs = tt
check_few form ledger (Some file) None = tt
check_few form ledger (Some file) (Some needs) = tt

replay_few : (profile name file : Word) → Few (replay_by profile name file)
replay_few None name file = tt
replay_few (Some profile) None file = tt
replay_few (Some profile) (Some name) None = tt
replay_few (Some profile) (Some name) (Some file) = tt

most_percent : (o : Option ℕ) → IfSome (percent_of o) (λ n. n ≤ MAX_RESERVE)
most_percent None = tt
most_percent (Some n) =
    elim (cases_Bool (nat_le n MAX_RESERVE)) [
      | inl few ↦ rw few (grind (arith, nat_tests))
      | inr many ↦ rw many tt
    ]

percent_few : (word : Word) → IfSome (percent_by word) (λ n. n ≤ MAX_RESERVE)
percent_few None = omega (arith)
percent_few (Some word) = most_percent (ticks_in word)

budgets_few : (form : BudgetsForm) (percent : Option ℕ) (times file : Word) → IfSome percent (λ n. n ≤ MAX_RESERVE) → Few (budgets_by form percent times file)
budgets_few form None times file most = tt
budgets_few form (Some percent) None file most = tt
budgets_few form (Some percent) (Some times) None most = tt
budgets_few form (Some percent) (Some times) (Some file) most = most

help_few : (name : Word) → Few (help_by name)
help_few None = tt
help_few (Some name) =
    elim (cases_Bool (is_no_command name)) [
      | inl unknown ↦ rw unknown tt
      | inr known ↦ rw known tt
    ]

pub asked_few : (c : Command) (rows : List Row) → Few (asked c rows)
asked_few (command.Draw d) rows = drawing_few d (first_of (codes "LEDGER") rows) (range_in rows)
asked_few command.Picture rows = picture_few (first_of (codes "config") rows) (first_of (codes "LEDGER") rows) (range_in rows)
asked_few command.Windows rows = windows_few (windows_form_in rows) (first_of (codes "LEDGER") rows)
asked_few command.Holds rows = holds_few (first_of (codes "LEDGER") rows) (first_of (codes "FILE") rows)
asked_few command.Faults rows = faults_few (first_of (codes "FILE") rows)
asked_few (command.Tell t) rows = telling_few t (has (codes "csv") rows) (first_of (codes "FILE") rows)
asked_few command.Slack rows = slack_few (has (codes "csv") rows) (all_of (codes "NAME=TICKS") rows) (first_of (codes "FILE") rows)
asked_few command.Chain rows = by_few (first_of (codes "ledger") rows) (first_of (codes "FILE") rows) (all_of (codes "NAME") rows)
asked_few command.Impact rows =
    impact_few (has (codes "csv") rows) (all_of (codes "NAME") rows) (first_of (codes "OLD") rows) (first_of (codes "NEW") rows)
asked_few command.Repeats rows = repeats_few (first_of (codes "FILE") rows) (first_of (codes "TICKS") rows)
asked_few command.Check rows =
    check_few (check_form_in rows) (first_of (codes "LEDGER") rows) (first_of (codes "FILE") rows) (first_of (codes "NEEDS") rows)
asked_few command.Replay rows =
    replay_few (first_of (codes "PROFILE") rows) (first_of (codes "NAME") rows) (first_of (codes "FILE") rows)
asked_few command.Budgets rows =
    budgets_few (budgets_form_in rows) (percent_by (first_of (codes "reserve") rows)) (first_of (codes "TIMES") rows) (first_of (codes "FILE") rows)
    (percent_few (first_of (codes "reserve") rows))
asked_few command.Help rows = help_few (first_of (codes "COMMAND") rows)
asked_few command.Version rows = tt

pub answers_few : {E : Type 0} (r : Result (Option Request) E) (o : Option Request) → IfOk r (λ x. x ≡ o) → Few o → IfOk r Few
answers_few (Ok x) o is few = subst Few (sym is) few
answers_few (Err e) o is few = tt
