use Rattle.std.proofs.Common.{ℕ, ◌≡◌, ◌∙◌, ◌++◌, List, ap, refl}
use Rattle.std.specs.Prelude.{map}
use Rattle.show_rows.specs.Rows.{cell_text, told}
use Rattle.show_slack.specs.declared.shares.TheConstants.{COLUMNS}
use Rattle.show_slack.specs.Slack.{sentence, share_row}
use Rattle.show_slack.proofs.shares.add_share.Goals as goal

-- the line is that of the share that was found
pub returns : goal.returns
returns c =
    let form = c.args.form in
    let before = c.args.out.now.items in
    let share = c.share_in-share.result in
    let words = ap (λ (s : List ℕ). before ++ told form COLUMNS.now s (map cell_text c.cells_of-cells.result)) c.sentence.ensures in
    let cells = ap (λ (r : List (List ℕ)). before ++ told form COLUMNS.now (sentence share.first) r) c.cells_of-cells.ensures in
    record {
      line = told form COLUMNS.now (sentence share.first) (share_row c.args.certified.now c.args.process share);
      is = record { share = share; found = c.share_in-share.ensures; is = refl };
      added = c.in_ok-add_row.ensures ∙ words ∙ cells;
    }
