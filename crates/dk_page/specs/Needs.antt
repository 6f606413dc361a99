-- What a document of needs adds to a page.
use Rattle.std.specs.Prelude.{ℕ, ◌≡◌, Bool, true, false, List, [], ◌∷◌, ◌++◌, codes}
use Rattle.dk_html.specs.Checksums.{file_row}
use Rattle.dk_html.specs.Escaping.{escaped}
use Rattle.dk_html.specs.Outputs.{output}
use Rattle.dk_html.specs.Parts.{joined}
use Rattle.dk_html.specs.Tables.{rows}
use Rattle.dk_page.specs.declared.needing.Standing.{Standing}
use Rattle.dk_page.specs.declared.needing.Standing.TheVariants as standing
use Rattle.dk_page.specs.declared.needing.Wants.{Wants}
use Rattle.dk_page.specs.declared.template.TheConstants.{MET_TILE, NEEDS, NEEDS_REFUSED, REFUSED_TILE, TABLE_END, TEXT_END, UNMET_TILE}
use Rattle.dk_page.specs.declared.told.Additions.{Additions}
use Rattle.dk_page.specs.Runs.{both_names}

-- whether all that is needed is met
abbrev pub needs_tile : Standing → List ℕ
needs_tile standing.Met = MET_TILE.now
needs_tile standing.Unmet = UNMET_TILE.now
needs_tile standing.Refused = REFUSED_TILE.now

-- need by need
unfoldable pub decided_section : List ℕ → List ℕ
decided_section table = joined (NEEDS.now ∷ rows table ∷ TABLE_END.now ∷ [])

-- why nothing is decided
unfoldable pub refused_section : List ℕ → List ℕ
refused_section check = joined (NEEDS_REFUSED.now ∷ escaped check ∷ TEXT_END.now ∷ [])

abbrev pub needs_sections : Standing → List ℕ → List ℕ → List ℕ
needs_sections standing.Met check table = decided_section table
needs_sections standing.Unmet check table = decided_section table
needs_sections standing.Refused check table = refused_section check

-- where a need asks what the programs do for ever, the command itself decides more
abbrev pub check_words : Bool → List ℕ
check_words true = codes "without the programs: deosk-show check "
check_words false = codes "deosk-show check "

unfoldable pub needs_output : List ℕ → List ℕ → List ℕ → List ℕ
needs_output words both check = joined (output words both check ∷ [])

-- by the needs of the one name in these bytes, to the page of the configuration in the file of the other
pub record IsAddedByNeeds (name needs bytes : List ℕ) (wants : Wants) (a : Additions) : Type 0 where
  pub tile : a.tile.items ≡ needs_tile wants.standing
  pub file : a.file.items ≡ joined (file_row (codes "needs") needs bytes ∷ [])
  pub sections : a.sections.items ≡ needs_sections wants.standing wants.check.items wants.table.items
  pub outputs : a.outputs.items ≡ needs_output (check_words wants.asks_programs) (both_names name needs) wants.check.items

-- what the one adds, and what the other adds behind it
pub record IsBoth (first second both : Additions) : Type 0 where
  pub tile : both.tile.items ≡ first.tile.items ++ second.tile.items
  pub file : both.file.items ≡ first.file.items ++ second.file.items
  pub sections : both.sections.items ≡ first.sections.items ++ second.sections.items
  pub outputs : both.outputs.items ≡ first.outputs.items ++ second.outputs.items
