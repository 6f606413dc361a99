use Rattle.std.proofs.Common.{◌≡◌, ◌++◌, drop, map}
use Rattle.dk_html.specs.Tables.{rows_of}
use Rattle.dk_html.proofs.tables.add_lines.Given as goal

-- the rows so far, before those of the lines that are left
abbrev pub invariant-loop-line : goal.invariant-loop-line
invariant-loop-line l =
    l.out.items ++ rows_of l.fn.between (map (λ f. f.now) (drop l.line-index l.lines)) ≡ l.initial.out.items ++ rows_of l.fn.between (map (λ f. f.now) l.lines)
