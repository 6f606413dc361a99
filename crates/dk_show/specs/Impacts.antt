-- What is told of a change from one configuration to another.
use Rattle.std.specs.Prelude.{ℕ, ◌≡◌, ◌⊎◌, Bool, true, false, List, length}
use Rattle.dk_config.specs.Configuration.{Configuration}
use Rattle.dk_loader.specs.Workload.{Workload}
use Rattle.show_impact.specs.declared.row.Row.{Row}
use Rattle.show_impact.specs.Impacts.{AreRows, TouchesOnly}
use Rattle.show_impact.specs.ImpactText.{IsImpactText}
use Rattle.show_rows.specs.declared.row.Form.TheVariants as row_form
use Rattle.dk_show.specs.declared.status.Status.{Status}
use Rattle.dk_show.specs.declared.status.Status.TheVariants as status
use Rattle.dk_show.specs.Answers.{Files}
use Rattle.dk_show_request.specs.Change.{ChangeAsk}
use Rattle.dk_show.specs.Loading.{IsOfLoaded}

-- where a process that isn't named is touched, the call ends as refused
abbrev pub impact_end : Bool → Status
impact_end true = status.Done
impact_end false = status.Refused

-- the rows as text, or as a table
abbrev pub IsTold : Bool → Configuration → Configuration → List Row → List (List ℕ) → List ℕ → Type 0
IsTold true old new rows names text = IsImpactText row_form.Record old new rows names text
IsTold false old new rows names text = IsImpactText row_form.Line old new rows names text

-- the status tells whether the change touches none but the processes of these names
abbrev pub EndsBy : Type 0 → Status → Type 0
EndsBy Only ended = (Only × (ended ≡ status.Done)) ⊎ ((Only → ⊥) × (ended ≡ status.Refused))

-- what the change does to each process
pub record IsOfChange (r : ChangeAsk) (old new : Workload) (text : List ℕ) (ended : Status) : Type 0 where
  pub rows : List Row
  pub found : AreRows old new (length new.config.processes) rows
  pub told : IsTold r.as_csv old.config new.config rows r.names text
  pub ends : EndsBy (TouchesOnly r.names old new) ended

-- the old configuration with its programs is read first, and then the new
abbrev pub IsOfImpact : Files → ChangeAsk → List ℕ → Status → Type 0
IsOfImpact at r text ended = IsOfLoaded at r.old (λ w. IsOfLoaded at r.new (IsOfChange r w)) text ended
