-- What chains of processes, and what repeats in a run, add to a page.
use Rattle.std.specs.Prelude.{ℕ, ◌≡◌, Bool, true, false, List, [], ◌∷◌, flat_map, codes, decimal}
use Rattle.dk_html.specs.Checksums.{file_row}
use Rattle.dk_html.specs.Escaping.{escaped}
use Rattle.dk_html.specs.Outputs.{output}
use Rattle.dk_html.specs.Parts.{joined}
use Rattle.dk_html.specs.Tables.{word_rows}
use Rattle.dk_page.specs.declared.chaining.ChainTold.{ChainTold}
use Rattle.dk_page.specs.declared.repeating.RepeatsTold.{RepeatsTold}
use Rattle.dk_page.specs.declared.template.TheConstants.{CHAIN, CHAINS, CHAINS_END, CHAIN_END, CHAIN_LINES, CHAIN_NAMED, REPEATING_TILE, REPEATS, TEXT_END}
use Rattle.dk_page.specs.declared.told.Additions.{Additions}
use Rattle.dk_page.specs.Runs.{both_names}

-- a chain: its names, the time that is the whole length of its bars, and a row for each line
unfoldable pub chain_table : List ℕ → ℕ → List ℕ → List ℕ
chain_table names reaction text = joined (CHAIN.now ∷ escaped names ∷ CHAIN_NAMED.now ∷ decimal reaction ∷ CHAIN_LINES.now
    ∷ word_rows text ∷ CHAIN_END.now ∷ [])

abbrev pub chain_told : ChainTold → List ℕ
chain_told chain = chain_table chain.names.items chain.reaction chain.text.items

-- these tables, one behind the other
unfoldable pub chains_section : List ℕ → List ℕ
chains_section tables = joined (CHAINS.now ∷ tables ∷ CHAINS_END.now ∷ [])

-- where there is no chain there is no section
abbrev pub chains_sections : List ChainTold → List ℕ
chains_sections [] = []
chains_sections (chain ∷ chains) = chains_section (flat_map chain_told (chain ∷ chains))

unfoldable pub chain_shown : List ℕ → List ℕ → List ℕ
chain_shown both text = joined (output (codes "deosk-show chain ") both text ∷ [])

-- what `chain` writes of it
abbrev pub chain_output : List ℕ → ChainTold → List ℕ
chain_output name chain = chain_shown (both_names name chain.names.items) chain.text.items

abbrev pub chains_outputs : List ℕ → List ChainTold → List ℕ
chains_outputs name chains = flat_map (chain_output name) chains

-- by these chains, to the page of the configuration in the file of the name
pub record IsAddedByChains (name : List ℕ) (chains : List ChainTold) (a : Additions) : Type 0 where
  pub tile : a.tile.items ≡ []
  pub file : a.file.items ≡ []
  pub sections : a.sections.items ≡ chains_sections chains
  pub outputs : a.outputs.items ≡ chains_outputs name chains

-- in how many ticks it isn't told to repeat
unfoldable pub not_repeating_tile : ℕ → List ℕ
not_repeating_tile ticks = joined (codes "<li class=\"tile look\"><span class=\"what\">The run</span><b>not told to repeat</b><span>in "
    ∷ decimal ticks ∷ codes " ticks of these programs</span></li>\n" ∷ [])

-- whether the run as a whole repeats
abbrev pub repeats_tile : Bool → ℕ → List ℕ
repeats_tile true ticks = REPEATING_TILE.now
repeats_tile false ticks = not_repeating_tile ticks

unfoldable pub repeats_section : List ℕ → List ℕ
repeats_section text = joined (REPEATS.now ∷ escaped text ∷ TEXT_END.now ∷ [])

-- the name of a file, and a number of ticks
unfoldable pub name_and_ticks : List ℕ → ℕ → List ℕ
name_and_ticks name ticks = joined (name ∷ codes " " ∷ decimal ticks ∷ [])

unfoldable pub repeats_output : List ℕ → List ℕ → List ℕ
repeats_output both text = joined (output (codes "deosk-show repeats ") both text ∷ [])

-- by what repeats of the run in so many ticks, to the page of the configuration in the file of the name
pub record IsAddedByRepeats (name : List ℕ) (r : RepeatsTold) (a : Additions) : Type 0 where
  pub tile : a.tile.items ≡ repeats_tile r.whole r.ticks
  pub file : a.file.items ≡ []
  pub sections : a.sections.items ≡ repeats_section r.text.items
  pub outputs : a.outputs.items ≡ repeats_output (name_and_ticks name r.ticks) r.text.items

-- by the file of a program, of this name and these bytes
pub record IsAddedByProgram (name bytes : List ℕ) (a : Additions) : Type 0 where
  pub tile : a.tile.items ≡ []
  pub file : a.file.items ≡ joined (file_row (codes "program") name bytes ∷ [])
  pub sections : a.sections.items ≡ []
  pub outputs : a.outputs.items ≡ []
