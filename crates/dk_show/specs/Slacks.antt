-- What is told of slack: how much is promised, or whether allotments can be.
use Rattle.std.specs.Prelude.{ℕ, ◌≡◌, ◌&&◌, not, Bool, true, false, codes, find, map, option_map, List, [], ◌∷◌, ◌++◌, Option, Some, None}
use Rattle.std.specs.List.{list_any}
use Rattle.std.specs.Option.{option_map_or}
use Rattle.std.specs.Str.{bytes_eq}
use Rattle.dk_config.specs.Configuration.{Configuration}
use Rattle.dk_config.specs.declared.rows.ProcessRow.{ProcessRow}
use Rattle.dk_show_request.specs.declared.allotments.Allotment.{Allotment}
use Rattle.dk_show_request.specs.Reasons.{shown}
use Rattle.dk_show_request.specs.Slack.{SlackAsk}
use Rattle.show_rows.specs.declared.row.Form.{Form}
use Rattle.show_slack.specs.declared.together.Allotments.{Allotments}
use Rattle.show_slack.specs.Allotted.{AreAllotments}
use Rattle.show_slack.specs.Slack.{IsSlack}
use Rattle.dk_show.specs.declared.status.Status.{Status}
use Rattle.dk_show.specs.declared.status.Status.TheVariants as status

abbrev pub slack_form : Bool → Form
slack_form true = Form.Record
slack_form false = Form.Line

-- the allotment is to the process of no row
abbrev pub is_stranger : List ProcessRow → Allotment → Bool
is_stranger rows a = not (list_any (λ row. bytes_eq a.name row.name) rows)

-- the allotment is to no process that has the right to slack
abbrev pub is_denied : List ProcessRow → Allotment → Bool
is_denied rows a = not (list_any (λ row. bytes_eq a.name row.name && row.slack) rows)

abbrev pub stranger_text : Allotment → List ℕ
stranger_text a = codes "slack: " ++ (shown a.name ++ codes " is no process\n")

abbrev pub denied_text : Allotment → List ℕ
denied_text a = codes "slack: " ++ (shown a.name ++ codes " has no right to slack\n")

-- the first that is to no process, or else the first to one without the right
abbrev pub unfit_text : List ProcessRow → List Allotment → Option (List ℕ)
unfit_text rows xs =
    option_map_or (λ a. Some (stranger_text a)) (find (is_stranger rows) xs) (option_map denied_text (find (is_denied rows) xs))

-- what the process of this name is allotted
abbrev pub ticks_of : List Allotment → List ℕ → ℕ
ticks_of xs name = option_map_or (λ a. a.ticks) (find (λ a. bytes_eq a.name name) xs) 0

-- a number of ticks for each process
abbrev pub ticks_by : List ProcessRow → List Allotment → List ℕ
ticks_by rows xs = map (λ row. ticks_of xs row.name) rows

-- where the allotments can't be promised, the call ends as refused
abbrev pub slack_end : Bool → Status
slack_end true = status.Done
slack_end false = status.Refused

-- whether these allotments hold together
pub record AreAllotted (form : Form) (c : Configuration) (xs : List ℕ) (text : List ℕ) (ended : Status) : Type 0 where
  pub found : Allotments
  pub are : AreAllotments form c xs found
  pub told : text ≡ found.text.items
  pub ends : ended ≡ slack_end found.hold

abbrev pub IsOfFit : Option (List ℕ) → Form → Configuration → List ℕ → List ℕ → Status → Type 0
IsOfFit (Some unfit) form c xs text ended = (text ≡ unfit) × (ended ≡ status.Refused)
IsOfFit None form c xs text ended = AreAllotted form c xs text ended

-- how much is promised, where nothing is allotted
abbrev pub IsOfAllotments : List Allotment → Form → Configuration → List ℕ → Status → Type 0
IsOfAllotments [] form c text ended = IsSlack form c text × (ended ≡ status.Done)
IsOfAllotments (x ∷ xs) form c text ended =
    IsOfFit (unfit_text c.processes (x ∷ xs)) form c (ticks_by c.processes (x ∷ xs)) text ended

abbrev pub IsOfSlack : SlackAsk → Configuration → List ℕ → Status → Type 0
IsOfSlack r c text ended = IsOfAllotments r.allotments (slack_form r.as_csv) c text ended
