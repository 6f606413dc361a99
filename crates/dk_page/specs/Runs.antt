-- What a ledger adds to a page.
use Rattle.std.specs.Prelude.{ℕ, ◌≡◌, Bool, true, false, List, [], ◌∷◌, ◌++◌, codes, decimal}
use Rattle.dk_html.specs.Checksums.{file_row}
use Rattle.dk_html.specs.Escaping.{escaped}
use Rattle.dk_html.specs.Outputs.{output}
use Rattle.dk_html.specs.Parts.{joined}
use Rattle.dk_html.specs.Tables.{columns, rows, word_rows}
use Rattle.dk_page.specs.declared.template.TheConstants.{AUDIT, COLUMNS_END, FAILED_TILE, PASSED_TILE, PICTURE, PICTURE_END, RUN, RUN_END, TENTHS_END, TEXT_END, TOTALS, TOTALS_END}
use Rattle.dk_page.specs.declared.running.Drawing.{Drawing}
use Rattle.dk_page.specs.declared.running.Drawing.TheVariants.{Drawn, TooMany}
use Rattle.dk_page.specs.declared.running.Run.{Run}
use Rattle.dk_page.specs.declared.told.Additions.{Additions}

-- whether the audit passed
abbrev pub audit_tile : Bool → List ℕ
audit_tile true = PASSED_TILE.now
audit_tile false = FAILED_TILE.now

-- how far a picture may go
unfoldable pub undrawn : ℕ → List ℕ
undrawn tick = joined (codes "<p class=\"note\">There are too many lines for a picture: a range that ends by tick " ∷ decimal tick
    ∷ codes " fits. Choose one for this page, FROM and TO behind the name of the ledger.</p>\n" ∷ [])

-- the picture as it is, or how far one may go
abbrev pub drawing_text : Drawing → List ℕ
drawing_text (Drawn picture) = picture.items
drawing_text (TooMany tick) = undrawn tick

-- what the audit finds, and the picture
unfoldable pub audit_sections : List ℕ → List ℕ → List ℕ
audit_sections audit drawing = joined (AUDIT.now ∷ escaped audit ∷ TEXT_END.now ∷ PICTURE.now ∷ drawing ∷ PICTURE_END.now ∷ [])

-- what each thread did in its windows, and in how many of them each main used how many tenths of its budget
unfoldable pub windows_section : List ℕ → List ℕ → List ℕ
windows_section windows tenths = joined (RUN.now ∷ rows windows ∷ RUN_END.now ∷ columns tenths ∷ COLUMNS_END.now
    ∷ rows tenths ∷ TENTHS_END.now ∷ [])

-- the totals, a row for each line
unfoldable pub totals_section : List ℕ → List ℕ
totals_section totals = joined (TOTALS.now ∷ word_rows totals ∷ TOTALS_END.now ∷ [])

-- these, one behind the other
unfoldable pub run_sections : List ℕ → List ℕ → List ℕ → List ℕ → List ℕ → List ℕ
run_sections audit drawing windows tenths totals =
    audit_sections audit drawing ++ (windows_section windows tenths ++ totals_section totals)

-- the names of two files
unfoldable pub both_names : List ℕ → List ℕ → List ℕ
both_names file ledger = joined (file ∷ codes " " ∷ ledger ∷ [])

-- what the commands write of the ledger
unfoldable pub run_outputs : List ℕ → List ℕ → List ℕ → List ℕ → List ℕ → List ℕ → List ℕ
run_outputs both ledger audit windows tenths report = joined (output (codes "deosk audit ") both audit
    ∷ output (codes "deosk-show windows --csv ") ledger windows
    ∷ output (codes "deosk-show windows --tenths ") ledger tenths
    ∷ output (codes "deosk ledger --report ") ledger report ∷ [])

-- by the ledger of the one name in these bytes, to the page of the configuration in the file of the other
pub record IsAddedBy (name ledger bytes : List ℕ) (run : Run) (a : Additions) : Type 0 where
  pub tile : a.tile.items ≡ audit_tile run.passed
  pub file : a.file.items ≡ joined (file_row (codes "ledger") ledger bytes ∷ [])
  pub sections : a.sections.items ≡ run_sections run.audit.items (drawing_text run.drawing) run.windows.items run.tenths.items
      run.totals.items
  pub outputs : a.outputs.items ≡ run_outputs (both_names name ledger) ledger run.audit.items run.windows.items
      run.tenths.items run.report.items
