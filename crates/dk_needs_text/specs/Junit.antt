-- The rows as JUnit XML.
use Rattle.std.specs.Prelude.{ℕ, ◌==◌, if◌then◌else◌, Option, List, [], ◌++◌, length, flat_map, slice_get, codes, decimal}
use Rattle.std.specs.Option.{option_map_or}
use Rattle.dk_needs.specs.Wanted.{Wanted}
use Rattle.dk_needs.specs.declared.needs.Need.{Need}
use Rattle.dk_needs.specs.declared.needs.Tick.{Tick}
use Rattle.dk_needs.specs.Keys.{key_name, section_key}
use Rattle.dk_needs_check.specs.declared.row.Answer.{Answer}
use Rattle.dk_needs_check.specs.declared.row.Row.{Row}
use Rattle.dk_needs_check.specs.declared.row.Verdict.{Verdict}
use Rattle.dk_needs_check.specs.Bounds.{verdict_of}
use Rattle.dk_needs_text.specs.Csv.{measure_field}
use Rattle.dk_needs_text.specs.Text.{answer_text, how_many}

abbrev pub suite_text : ℕ → ℕ → ℕ → List ℕ
suite_text tests missed untested = codes "<testsuite name=\"needs\" tests=\""
    ++ (decimal tests
    ++ (codes "\" failures=\"" ++ (decimal missed ++ (codes "\" skipped=\"" ++ (decimal untested ++ codes "\">\n")))))

-- a word behind others, if there is one
abbrev pub behind_space : List ℕ → List ℕ
behind_space word = if length word == 0 then [] else (codes " " ++ word)

-- how a case ends: with nothing, or with what was found
abbrev pub end_text : Verdict → List ℕ → List ℕ
end_text Verdict.Met answer = codes "/>\n"
end_text Verdict.Missed answer = codes "><failure message=\"" ++ (answer ++ codes "\"/></testcase>\n")
end_text Verdict.Open answer = codes "><skipped message=\"" ++ (answer ++ codes "\"/></testcase>\n")

abbrev pub case_text : List ℕ → List ℕ → List ℕ → List ℕ → List ℕ
case_text section id measure end = codes "<testcase classname=\""
    ++ (section ++ (codes "\" name=\"" ++ (id ++ (measure ++ (codes "\"" ++ end)))))

-- a case is named by its need, and by what is asked for
unfoldable pub answer_case : List (List ℕ) → Option Tick → Need → Answer → List ℕ
answer_case names tick need a =
    case_text (key_name (section_key need.place.section)) need.id (behind_space (measure_field a))
    (end_text (verdict_of a) (answer_text names tick need.what a))

abbrev pub row_case : List (List ℕ) → Option Tick → List Need → Row → List ℕ
row_case names tick needs row = option_map_or (λ need. answer_case names tick need row.answer) (slice_get needs row.need) []

abbrev pub suite_line : List Row → List ℕ
suite_line rows = suite_text (length rows) (how_many Verdict.Missed rows) (how_many Verdict.Open rows)

-- the whole text, where processes have these names
abbrev pub needs_junit : List (List ℕ) → Wanted → List Row → List ℕ
needs_junit names needs rows = codes "<?xml version=\"1.0\" encoding=\"UTF-8\"?>\n"
    ++ (suite_line rows ++ (flat_map (row_case names needs.tick needs.rows) rows ++ codes "</testsuite>\n"))
