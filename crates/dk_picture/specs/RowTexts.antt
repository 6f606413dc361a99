-- The rows with their names and numbers.
use Rattle.std.specs.Prelude.{ℕ, ◌+◌, ◌-◌, ◌*◌, ◌/◌, ◌%◌, ◌++◌, ◌==◌, [], ◌∷◌, Bool, true, false, List, Option, Some, None, codes, decimal, if◌then◌else◌, length, slice_get}
use Rattle.dk_ledger.specs.declared.line.LedgerLine.{LedgerLine}
use Rattle.dk_ledger.specs.Heading.{Heading, name_of}
use Rattle.dk_ledger.specs.LineText.{thread_text}
use Rattle.dk_picture.specs.declared.columns.Column.TheVariants as column
use Rattle.dk_picture.specs.declared.frame.Frame.{Frame}
use Rattle.dk_picture.specs.declared.rows.Row.{Row}
use Rattle.dk_picture.specs.declared.rows.Row.TheVariants as row
use Rattle.dk_picture.specs.declared.span.Span.{Span}
use Rattle.dk_picture.specs.declared.terms.Terms.{Terms}
use Rattle.dk_picture.specs.Columns.{column_sum}
use Rattle.dk_picture.specs.Elements.{rect, words_at}
use Rattle.dk_picture.specs.Frames.{quiet_foot, top_of}
use Rattle.dk_picture.specs.Rows.{level_of}
use Rattle.dk_picture.specs.Scenes.{Scene}
use Rattle.dk_picture.specs.Terms.{period_of, terms_of}
use Rattle.dk_picture.specs.Windows.{own_windows}

abbrev pub row_name : Heading → Row → List ℕ
row_name h row.Kernel = codes "kernel"
row_name h (row.Thread x) = thread_text h x
row_name h (row.Children p) = name_of h p ++ codes ".*"

-- so many ticks of so many, and in windows of which level
unfoldable pub pair_text : ℕ → ℕ → ℕ → ℕ → List ℕ
pair_text y budget period level = codes "<text class='m s' x='8' y='"
    ++ (decimal y ++ (codes "'>" ++ (decimal budget ++ (codes " of " ++ (decimal period ++ (codes ", level "
    ++ (decimal level ++ codes "</text>\n")))))))

-- below the name, what the thread may use; and across its bars, where windows of its own begin
unfoldable pub terms_text : Heading → Span → ℕ → Terms → List ℕ
terms_text h s top t = pair_text (top + 21) t.budget t.period t.level ++ own_windows s top t.level (period_of h t.level)

abbrev pub terms_part : Heading → Span → ℕ → Option Terms → List ℕ
terms_part h s top None = []
terms_part h s top (Some t) = terms_text h s top t

-- a number that ends there, where it isn't 0
abbrev pub counted : List ℕ → ℕ → ℕ → ℕ → List ℕ
counted class x y n = if n == 0 then [] else words_at class x y (decimal n)

unfoldable pub counts_text : ℕ → Row → List LedgerLine → List ℕ
counts_text y r gs = words_at (codes "t x") 1232 y (decimal (column_sum gs r column.Ticks))
    ++ (counted (codes "t x") 1304 y (column_sum gs r column.Slack)
    ++ (counted (codes "u x") 1376 y (column_sum gs r column.Refused)
    ++ counted (codes "u x") 1448 y (column_sum gs r column.Faults)))

-- each second row has a lane of another shade
abbrev pub lane_class : ℕ → List ℕ
lane_class i = if i % 2 == 0 then codes "l" else codes "bg"

-- a row's lane, the line below its bars, and its name
unfoldable pub name_line : List ℕ → ℕ → ℕ → ℕ → List ℕ → List ℕ
name_line lane high low foot name = codes "<rect class='" ++ (lane ++ (codes "' x='0' y='" ++ (decimal high
    ++ (codes "' width='1456' height='38'/>\n<rect class='g' x='200' y='" ++ (decimal low
    ++ (codes "' width='960' height='1'/>\n<text class='t' x='8' y='" ++ (decimal foot ++ (codes "'>"
    ++ (name ++ codes "</text>\n")))))))))

abbrev pub name_text : Heading → ℕ → ℕ → Row → List ℕ
name_text h i top r = name_line (lane_class i) (top - 10) (top + 12) (top + 10) (row_name h r)

-- the level of the row's process; the kernel has none
abbrev pub row_level : Heading → Row → Option ℕ
row_level h row.Kernel = None
row_level h (row.Thread x) = Some (level_of h x.process)
row_level h (row.Children p) = Some (level_of h p)

abbrev pub is_same_level : Option ℕ → Option ℕ → Bool
is_same_level None None = true
is_same_level (Some i) (Some j) = i == j
is_same_level _ _ = false

-- a line above the first row of a level, by the row before
abbrev pub level_line : Heading → ℕ → Option Row → Row → List ℕ
level_line h top None r = []
level_line h top (Some before) r = if is_same_level (row_level h before) (row_level h r) then []
    else rect (codes "w") (record { x = 0; y = top - 10; width = 1456; height = 1 })

unfoldable pub row_text : Heading → Span → Scene → ℕ → ℕ → Row → List ℕ
row_text h s c i top r = name_text h i top r ++ (level_line h top (slice_get c.rows (i - 1)) r
    ++ (terms_part h s top (terms_of h c.makings r) ++ counts_text (top + 10) r c.groups))

-- the rows from number i on
abbrev pub rows_text : Heading → Frame → Span → Scene → ℕ → List Row → List ℕ
rows_text h f s c i [] = []
rows_text h f s c i (r ∷ rs) = row_text h s c i (top_of f i) r ++ rows_text h f s c (i + 1) rs

-- The names of the processes whose mains have no tick, in lines of 12. The first place has a word, so that of a name is
-- counted from 1.
abbrev pub quiet_name : Heading → Frame → ℕ → ℕ → List ℕ
quiet_name h f k p = words_at (codes "t") (8 + 120 * (k % 12)) (quiet_foot f + 16 * (k / 12)) (name_of h p)

-- those from place k on
abbrev pub quiet_names : Heading → Frame → ℕ → List ℕ → List ℕ
quiet_names h f k [] = []
quiet_names h f k (p ∷ ps) = quiet_name h f k p ++ quiet_names h f (k + 1) ps

abbrev pub quiet_text : Heading → Frame → List ℕ → List ℕ
quiet_text h f ps = if length ps == 0 then [] else words_at (codes "m") 8 (quiet_foot f) (codes "no tick") ++ quiet_names h f 1 ps

-- the heads of the columns
unfoldable pub rows_head : ℕ → List ℕ
rows_head y = codes "<text class='m' x='8' y='" ++ (decimal y ++ (codes "'>threads, budget of period, level</text>\n<text class='m x' x='1232' y='"
    ++ (decimal y ++ (codes "'>ticks</text>\n<text class='m x' x='1304' y='"
    ++ (decimal y ++ (codes "'>slack</text>\n<text class='m x' x='1376' y='"
    ++ (decimal y ++ (codes "'>refused</text>\n<text class='m x' x='1448' y='"
    ++ (decimal y ++ codes "'>faults</text>\n")))))))))
