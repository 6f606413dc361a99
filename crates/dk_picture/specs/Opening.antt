-- The beginning of a picture: its size, title, description, style and head.
use Rattle.std.specs.Prelude.{ℕ, ◌+◌, ◌++◌, [], ◌∷◌, List, codes, decimal, flat_map}
use Rattle.dk_certify.specs.declared.table.TableRow.{TableRow}
use Rattle.dk_ledger.specs.declared.header.ProcessLine.{ProcessLine}
use Rattle.dk_ledger.specs.declared.line.LedgerLine.{LedgerLine}
use Rattle.dk_ledger.specs.Heading.{Heading}
use Rattle.dk_picture.specs.declared.columns.Sort.TheVariants as sort
use Rattle.dk_picture.specs.declared.frame.Frame.{Frame}
use Rattle.dk_picture.specs.declared.span.Span.{Span}
use Rattle.dk_picture.specs.Columns.{sort_sum}
use Rattle.dk_picture.specs.Frames.{height_of}
use Rattle.dk_picture.specs.Styles.{style_text}

-- the root and the title
unfoldable pub intro_text : ℕ → List ℕ → List ℕ
intro_text height head = codes "<svg xmlns='http://www.w3.org/2000/svg' width='1456' height='"
    ++ (decimal height ++ (codes "' viewBox='0 0 1456 " ++ (decimal height
    ++ (codes "' style='max-width:100%;height:auto' role='img' aria-labelledby='a b' font-family='ui-monospace,Menlo,DejaVu Sans Mono,monospace' font-size='11'>\n<title id='a'>deosk ledger, "
    ++ (head ++ codes "</title>\n<desc id='b'>")))))

-- which ticks are drawn, of how many
unfoldable pub bounds_text : Span → ℕ → List ℕ
bounds_text s n = codes "ticks " ++ (decimal s.from ++ (codes " to " ++ (decimal s.to ++ (codes " of " ++ decimal n))))

unfoldable pub sums_text : ℕ → ℕ → ℕ → ℕ → List ℕ
sums_text kernel budget slack idle = codes ": kernel " ++ (decimal kernel ++ (codes ", budget " ++ (decimal budget
    ++ (codes ", slack " ++ (decimal slack ++ (codes ", idle " ++ decimal idle))))))

-- the range, and how many ticks of it are of which sort
unfoldable pub head_words : Span → ℕ → List LedgerLine → List ℕ
head_words s n gs = bounds_text s n
    ++ sums_text (sort_sum gs sort.Kernel) (sort_sum gs sort.Budget) (sort_sum gs sort.Slack) (sort_sum gs sort.Idle)

unfoldable pub level_words : ℕ → TableRow → List ℕ
level_words j row = codes "level " ++ (decimal j ++ (codes " period " ++ (decimal row.period ++ (codes " demand "
    ++ (decimal row.demand ++ (codes " blocking " ++ (decimal row.blocking ++ (codes " spare "
    ++ (decimal row.spare ++ codes "; ")))))))))

-- of the levels from j on
abbrev pub levels_words : ℕ → List TableRow → List ℕ
levels_words j [] = []
levels_words j (row ∷ rows) = level_words j row ++ levels_words (j + 1) rows

abbrev pub process_line : List ℕ → ℕ → ℕ → List ℕ
process_line name level budget = codes "process "
    ++ (name ++ (codes " level " ++ (decimal level ++ (codes " budget " ++ (decimal budget ++ codes "; ")))))

abbrev pub process_words : ProcessLine → List ℕ
process_words p = process_line p.name p.level p.budget

unfoldable pub desc_end : List ℕ → List ℕ
desc_end bounds = codes "drawn are the " ++ (bounds ++ codes "</desc>\n")

-- the header's lines, and the range
unfoldable pub desc_text : Heading → List ℕ → List ℕ
desc_text h bounds = levels_words 0 h.levels ++ (flat_map process_words h.processes ++ desc_end bounds)

-- the ground, and the head on it
unfoldable pub head_text : ℕ → List ℕ → List ℕ
head_text height head = codes "<rect class='bg' x='0' y='0' width='1456' height='"
    ++ (decimal height ++ (codes "'/>\n<text class='b' x='8' y='20'>" ++ (head ++ codes "</text>\n")))

unfoldable pub ground_text : ℕ → List ℕ → List ℕ
ground_text height head = style_text ++ head_text height head

unfoldable pub opening_text : Heading → Frame → Span → ℕ → List LedgerLine → List ℕ
opening_text h f s n gs = intro_text (height_of f) (head_words s n gs)
    ++ (desc_text h (bounds_text s n) ++ ground_text (height_of f) (head_words s n gs))
