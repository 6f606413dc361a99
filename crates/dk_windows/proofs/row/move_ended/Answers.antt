use Rattle.std.proofs.Common.{◌∙◌, get_or, ap, set, arith}
use Rattle.std.proofs.lemmas.List.{get_or_default}
use Rattle.std.proofs.lemmas.List.Edits.{map_over_more}
use Rattle.dk_windows.specs.declared.row.Window.{Window}
use Rattle.dk_windows.specs.Rows.{moved}
use Rattle.dk_windows.proofs.row.move_ended.Goals as goal

pub loop-window-preserved : goal.loop-window-preserved
loop-window-preserved c =
    let rows = c.loop-window.windows in
    let i = c.loop-window.window-index in
    let d : Window = c.window-item.result in
    ap (λ (x : Window). set rows i x) c.moved.ensures
    ∙ map_over_more (moved c.args.next) c.args.windows.now rows i (get_or rows i d) c.loop-window-test.true c.loop-window.invariant
    (get_or_default rows i d (get_or rows i d) (omega arith))
