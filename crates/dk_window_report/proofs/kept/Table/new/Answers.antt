use Rattle.std.proofs.Common.{◌∙◌, refl, length}
use Rattle.dk_window_report.proofs.Tables.{mains-start}
use Rattle.dk_window_report.proofs.kept.Table.new.Goals as goal

pub returns-clause-start : goal.returns-clause-start
returns-clause-start c =
    let h = c.args.header.now in
    record {
      rows = c.in_ok-main_rows.ensures.rows ∙ mains-start h (length h.processes);
      accounts = c.in_ok-new_accounts.ensures;
      ticks = refl;
      troubled = refl;
    }
