use Rattle.std.proofs.Common.{◌≡◌, ◌+◌, ◌∙◌, ◌++◌, ◌∷◌, [], suc, ap, sym, map, arith}
use Rattle.std.proofs.lemmas.List.{map-append}
use Rattle.dk_window_report.specs.declared.row.Row.{Row}
use Rattle.dk_window_report.specs.Owners.{mains, main_owner}
use Rattle.dk_window_report.specs.Rows.{new_row}
use Rattle.dk_window_report.proofs.Tables.{mains-more}
use Rattle.dk_window_report.proofs.kept.main_rows.Goals as goal

pub loop-process-preserved : goal.loop-process-preserved
loop-process-preserved c =
    let h = c.args.header.now in
    let n = c.loop-process.process in
    let step : suc n ≡ n + 1 = omega arith in
    record {
      rows = c.in_ok-push.ensures.rows ∙ ap (λ rs. rs ++ c.main_row.result ∷ []) c.loop-process.invariant.rows
          ∙ ap (λ (r : Row). map new_row (mains h n) ++ r ∷ []) c.main_row.ensures
          ∙ sym (map-append new_row (mains h n) (main_owner h n ∷ []))
          ∙ ap (map new_row) (sym (mains-more h n)) ∙ ap (λ k. map new_row (mains h k)) step;
      placed = c.in_ok-push.ensures.placed;
    }
