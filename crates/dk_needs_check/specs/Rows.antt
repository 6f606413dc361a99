-- A row for each thing that is asked for.
use Rattle.std.specs.Prelude.{ℕ, ◌≡◌, ◌+◌, List, [], ◌∷◌, ◌++◌, Option, Some, None}
use Rattle.dk_config.specs.Configuration.{Configuration}
use Rattle.dk_needs.specs.declared.needs.Need.{Need}
use Rattle.dk_needs_check.specs.declared.row.Answer.{Answer}
use Rattle.dk_needs_check.specs.declared.row.Answers.{Answers}
use Rattle.dk_needs_check.specs.declared.row.Row.{Row}
use Rattle.dk_needs_check.specs.Meaning.{AreAnswers, asked_allotments}

-- the row of an answer to need i, if there is one
abbrev pub row_of : ℕ → Option Answer → List Row
row_of i None = []
row_of i (Some a) = record { need = i; answer = a } ∷ []

abbrev pub rows_of : ℕ → Answers → List Row
rows_of i a = row_of i a.first ++ row_of i a.second

-- the rows of these needs in their order, which are numbered from i on, where needs ask for these allotments
abbrev pub AreRowsFrom : Configuration → List ℕ → ℕ → List Need → List Row → Type 0
AreRowsFrom c xs i [] rows = rows ≡ []
AreRowsFrom c xs i (need ∷ needs) rows =
    (a : Answers) × (rest : List Row) × AreAnswers c xs need.what a × AreRowsFrom c xs (i + 1) needs rest × (rows ≡ rows_of i a ++ rest)

-- the same, where these needs are all
abbrev pub AreRows : Configuration → ℕ → List Need → List Row → Type 0
AreRows c i needs rows = AreRowsFrom c (asked_allotments c needs) i needs rows
