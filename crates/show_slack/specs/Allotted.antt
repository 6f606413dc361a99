-- What is told of allotments of slack.
use Rattle.std.specs.Prelude.{ℕ, ◌≡◌, ◌-◌, nat_lt, Bool, is_some, not, if◌then◌else◌, List, [], ◌∷◌, ◌++◌, length, codes, decimal, Option, Some, None}
use Rattle.dk_config.specs.Configuration.{Configuration}
use Rattle.dk_config.specs.Windows.{period}
use Rattle.dk_config.specs.Certification.{spare}
use Rattle.dk_slack_promise.specs.Allotted.{allotted}
use Rattle.dk_allotment.specs.Given.{IsOverdrawn, given}
use Rattle.show_rows.specs.declared.row.Form.{Form}
use Rattle.show_rows.specs.Lines.{AreLines}
use Rattle.show_rows.specs.Rows.{end_told, head_told, note_told, told}
use Rattle.show_slack.specs.declared.together.Allotments.{Allotments}
use Rattle.show_slack.specs.declared.together.TheConstants.{COLUMNS, HOLD, LACK, PLACE}

-- by how much what is allotted passes the spare, where it does
abbrev pub lacks_field : ℕ → ℕ → List ℕ
lacks_field spare allotted = if nat_lt spare allotted then decimal (allotted - spare) else []

abbrev pub place_row : Configuration → List ℕ → ℕ → List (List ℕ)
place_row c xs j =
    codes "level" ∷ decimal j ∷ decimal (period c j) ∷ decimal (spare c j) ∷ decimal (allotted c (given xs) j)
    ∷ lacks_field (spare c j) (allotted c (given xs) j) ∷ []

-- what is allotted in a window of the level
abbrev pub IsPlaceLine : Form → Configuration → List ℕ → ℕ → List ℕ → Type 0
IsPlaceLine form c xs j line = line ≡ told form COLUMNS.now PLACE.now (place_row c xs j)

-- that they hold together, or the first level where they don't, with how many ticks it lacks
abbrev pub verdict_told : Form → Configuration → List ℕ → Option ℕ → List ℕ
verdict_told form c xs None = note_told form COLUMNS.now HOLD.now []
verdict_told form c xs (Some level) = note_told form COLUMNS.now LACK.now (place_row c xs level)

-- the whole
pub record AreAllotments (form : Form) (c : Configuration) (xs : List ℕ) (told : Allotments) : Type 0 where
  pub levels : List ℕ
  pub passed : Option ℕ
  pub level_lines : AreLines (IsPlaceLine form c xs) (length c.levels) levels
  pub found : IsOverdrawn c xs passed
  pub text : told.text.items ≡ head_told form COLUMNS.now ++ (levels ++ (verdict_told form c xs passed ++ end_told form))
  pub hold : told.hold ≡ not (is_some passed)
