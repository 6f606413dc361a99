-- The page: each definition is a list of what stands there, one behind the other.
use Rattle.std.specs.Prelude.{ℕ, ◌==◌, if◌then◌else◌, List, [], ◌∷◌, ◌++◌, codes, decimal}
use Rattle.dk_html.specs.Checksums.{file_row}
use Rattle.dk_html.specs.Escaping.{escaped}
use Rattle.dk_html.specs.Outputs.{output}
use Rattle.dk_html.specs.Parts.{joined}
use Rattle.dk_html.specs.Tables.{columns, rows}
use Rattle.dk_page.specs.declared.template.TheConstants.{BY_WHEN, BY_WHEN_END, CERTIFIED, CERTIFIED_TILE, DOCUMENT, COLUMNS_END, ENDING, FAULTS, FAULTS_TILE, HEAD, INPUTS, LEVELS_END, NOT_BY_WHEN, OUTPUTS, ROOM, ROOM_END, STYLE, TABLE_END, TEXT_END, TILES, UNCERTIFIED, WARNINGS}
use Rattle.dk_page.specs.declared.told.Additions.{Additions}
use Rattle.dk_page.specs.declared.told.Certification.{Certification}
use Rattle.dk_page.specs.declared.told.Certification.TheVariants.{Certified, Failing}
use Rattle.dk_page.specs.declared.told.Told.{Told}

-- the title, and the name at the top
unfoldable pub title : List ℕ → List ℕ
title name = joined (HEAD.now ∷ escaped name ∷ STYLE.now ∷ escaped name ∷ TILES.now ∷ [])

-- the first level that may miss its window
unfoldable pub failing_tile : ℕ → ℕ → ℕ → List ℕ
failing_tile level needs window = joined (
    codes "<li class=\"tile bad\"><span class=\"what\">Certification</span><b>not certified</b><span>level " ∷ decimal level
    ∷ codes " needs " ∷ decimal needs ∷ codes " of " ∷ decimal window ∷ codes "</span></li>\n" ∷ [])

-- whether it is certified
abbrev pub certification_tile : Certification → List ℕ
certification_tile (Certified when table) = CERTIFIED_TILE.now
certification_tile (Failing level needs window) = failing_tile level needs window

-- none is good, and others are to be looked at
abbrev pub tone : ℕ → List ℕ
tone count = if count == 0 then codes "good" else codes "look"

-- how many warnings there are, in this tone
unfoldable pub warnings_tile : List ℕ → ℕ → List ℕ
warnings_tile tone count = joined (codes "<li class=\"tile " ∷ tone ∷ codes "\"><span class=\"what\">Warnings</span><b>"
    ∷ decimal count ∷ codes "</b><span>what is allowed and cannot be meant</span></li>\n" ∷ [])

-- the files with their lengths and checksums
unfoldable pub inputs : List ℕ → List ℕ → List ℕ → List ℕ
inputs name document files = joined (INPUTS.now ∷ file_row (codes "configuration") name document ∷ files ∷ TABLE_END.now ∷ [])

-- the document
unfoldable pub configuration : List ℕ → List ℕ
configuration document = joined (DOCUMENT.now ∷ escaped document ∷ TEXT_END.now ∷ [])

-- what certification means for the runs
abbrev pub certification_head : Certification → List ℕ
certification_head (Certified when table) = CERTIFIED.now
certification_head (Failing level needs window) = UNCERTIFIED.now

-- the certificate, what takes the ticks of each level, and that as one matrix
unfoldable pub certification : List ℕ → List ℕ → List ℕ → List ℕ
certification head table matrix = joined (head ∷ rows table ∷ LEVELS_END.now ∷ columns matrix ∷ COLUMNS_END.now
    ∷ rows matrix ∷ TABLE_END.now ∷ [])

-- by when each main has its ticks
unfoldable pub timings : List ℕ → List ℕ
timings table = joined (BY_WHEN.now ∷ rows table ∷ BY_WHEN_END.now ∷ [])

-- where the configuration isn't certified there is no such tick
abbrev pub by_when : Certification → List ℕ
by_when (Certified when table) = timings table.items
by_when (Failing level needs window) = NOT_BY_WHEN.now

-- how far each number can go, and what can't be meant
unfoldable pub room : List ℕ → List ℕ → List ℕ
room table warnings = joined (ROOM.now ∷ rows table ∷ ROOM_END.now ∷ WARNINGS.now ∷ escaped warnings ∷ TEXT_END.now ∷ [])

unfoldable pub when_shown : List ℕ → List ℕ → List ℕ
when_shown name text = joined (output (codes "deosk-show when ") name text ∷ [])

-- what `when` writes, where the configuration is certified
abbrev pub when_output : List ℕ → Certification → List ℕ
when_output name (Certified when table) = when_shown name when.items
when_output name (Failing level needs window) = []

-- what the commands write
unfoldable pub outputs : List ℕ → List ℕ → List ℕ → List ℕ → List ℕ → List ℕ
outputs name certificate when margins warnings = joined (OUTPUTS.now ∷ output (codes "deosk-show certify ") name certificate ∷ when
    ∷ output (codes "deosk-show margins ") name margins ∷ output (codes "deosk-show warnings ") name warnings ∷ [])

-- what a ledger adds behind the other outputs, and the end
unfoldable pub ending : List ℕ → List ℕ
ending added = joined (added ∷ ENDING.now ∷ [])

-- the verdicts and the files
unfoldable pub top_text : List ℕ → List ℕ → Told → Additions → List ℕ
top_text name document t added = title name ++ (certification_tile t.certification
    ++ (warnings_tile (tone t.count) t.count ++ (added.tile.items ++ inputs name document added.file.items)))

-- the sections
unfoldable pub findings_text : List ℕ → Told → Additions → List ℕ
findings_text document t added = configuration document
    ++ (certification (certification_head t.certification) t.certificate_table.items t.matrix.items
    ++ (by_when t.certification ++ (room t.margins_table.items t.warnings.items ++ added.sections.items)))

-- the outputs, and the end
unfoldable pub bottom_text : List ℕ → Told → Additions → List ℕ
bottom_text name t added =
    outputs name t.certificate.items (when_output name t.certification) t.margins.items t.warnings.items
    ++ ending added.outputs.items

-- the page of a configuration, certified or not, with what a ledger adds
unfoldable pub page_text : List ℕ → List ℕ → Told → Additions → List ℕ
page_text name document t added =
    top_text name document t added ++ (findings_text document t added ++ bottom_text name t added)

-- the faults of a document, and the end
unfoldable pub faulty : List ℕ → List ℕ → List ℕ → List ℕ
faulty name document faults = joined (FAULTS_TILE.now ∷ INPUTS.now ∷ file_row (codes "configuration") name document
    ∷ TABLE_END.now ∷ FAULTS.now ∷ escaped faults ∷ TEXT_END.now ∷ OUTPUTS.now ∷ output (codes "deosk-show faults ") name faults
    ∷ ENDING.now ∷ [])

-- the page of a document that isn't that of a configuration: its faults in place of all else
unfoldable pub faults_text : List ℕ → List ℕ → List ℕ → List ℕ
faults_text name document faults = title name ++ faulty name document faults
