use Rattle.dk_show.proofs.Names.{inl, inr, reverse, rules, Journal, windows_lines, AreTold, IsOfPage, lines_end}
use Rattle.dk_show.proofs.Coming.{comes_wider}
use Rattle.dk_show.proofs.windows.of_lines.Goals as goal

pub returns-in-Ok-clause-comes : goal.returns-in-Ok-clause-comes
returns-in-Ok-clause-comes c =
    let report = c.in-Ok.report in
    let all = c.in-Ok.ensures.kept in
    let es = all.0 in
    let read = all.1 in
    let s = c.args.strictness in
    let j : Journal = record { heading = report.heading; entries = es } in
    comes_wider (AreTold (windows_lines s) (lines_end s) report.heading (reverse es)) (IsOfPage (windows_lines s) (lines_end s) c.args.bytes.now)
    (λ t s told. inr (record { ledger = j; readable = read.readable; bytes_are = read.text; told = told }))
    c.lines_work.result (c.lines_work.ensures.comes (reverse es) all.2)

pub returns-in-Err-Line-clause-comes : goal.returns-in-Err-Line-clause-comes
returns-in-Err-Line-clause-comes c = λ told.
    let n = c.in-Err-Line.line in
    let found = c.of.ensures.line n (cc) in
    inl (record { line = n; wrong = found.0; none = found.1; says = search rules })
