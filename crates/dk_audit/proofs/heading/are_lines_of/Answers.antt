use Rattle.dk_audit.proofs.Names.{◌≡◌, ◌∙◌, length, map, arith, ap, sym, get_or-map, length-map, take_more_same, line_of_row}
use Rattle.dk_audit.proofs.heading.are_lines_of.Goals as goal

pub loop-index-preserved : goal.loop-index-preserved
loop-index-preserved c =
    let i = c.loop-index.index in
    let lines = c.args.lines.now in
    let rows = c.args.processes.now in
    let line = c.index-lines-index.result in
    let row = c.index-processes-index.result in
    let within = c.loop-index-test.true in
    let count = c.if-lines-processes.false in
    let long : length (map line_of_row rows) ≡ length rows = simp length-map in
    let here : line ≡ line_of_row row = c.is_line_of.ensures.0 c.if-not-is_line_of.false in
    take_more_same lines (map line_of_row rows) i line within (omega (arith, within, count, long)) c.loop-index.invariant
    (sym c.index-lines-index.is ∙ here ∙ ap line_of_row c.index-processes-index.is ∙ sym (get_or-map line_of_row rows i row line (omega (arith, within, count))))
