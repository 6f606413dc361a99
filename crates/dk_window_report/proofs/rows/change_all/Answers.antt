use Rattle.std.proofs.Common.{◌∙◌, get_or, ap, set, arith}
use Rattle.std.proofs.lemmas.List.{get_or_default}
use Rattle.std.proofs.lemmas.List.Edits.{map_over_more}
use Rattle.dk_window_report.specs.declared.late.Late.{Late}
use Rattle.dk_window_report.specs.Late.{late_with}
use Rattle.dk_window_report.proofs.Found.{no_late}
use Rattle.dk_window_report.proofs.rows.change_all.Goals as goal

pub loop-late-preserved : goal.loop-late-preserved
loop-late-preserved c =
    let lates = c.loop-late.lates in
    let i = c.loop-late.late-index in
    let late = get_or lates i no_late in
    ap (λ (l : Late). set lates i l) c.late_with.ensures
    ∙ map_over_more (late_with c.args.now c.args.entry) c.args.lates.now lates i late c.loop-late-test.true c.loop-late.invariant
    (get_or_default lates i no_late late (omega arith))
