use Rattle.std.proofs.Common.{ℕ, List, ◌≡◌, ◌∷◌, ◌++◌, ◌-◌, [], codes, decimal, refl, ap, ◌∙◌}
use Rattle.dk_config.specs.Windows.{budget, main_level, period, process_name}
use Rattle.show_rows.specs.Rows.{told}
use Rattle.show_layout.specs.declared.timings.TheConstants.{COLUMNS, PROCESS}
use Rattle.show_layout.specs.When.{process_row}
use Rattle.show_layout.proofs.timings.add_process.Goals as goal

-- the cells of a row with these numbers
abbrev cells : List ℕ → ℕ → ℕ → ℕ → ℕ → ℕ → ℕ → ℕ → List (List ℕ)
cells name level window ticks begins_from begins_by done_from done_by =
    codes "process" ∷ name ∷ decimal level ∷ decimal window ∷ decimal ticks
    ∷ decimal begins_from ∷ decimal begins_by ∷ decimal done_from ∷ decimal done_by
    ∷ decimal (begins_by - begins_from) ∷ decimal (done_by - done_from) ∷ decimal (window - done_by) ∷ []

pub returns : goal.returns
returns c =
    let config = c.args.config.now in
    let p = c.args.process in
    let begins = c.first_tick-begins.result in
    let done = c.whole_budget-done.result in
    let place = c.place_of-place.result in
    let row : cells c.name_of.result.now place.level place.period place.budget begins.from begins.by done.from done.by ≡ process_row config p begins.from begins.by done.from done.by =
    rw (c.name_of.ensures, c.place_of-place.ensures.level, c.place_of-place.ensures.window, c.place_of-place.ensures.ticks) refl in
    record {
      line = told c.args.form COLUMNS.now PROCESS.now (process_row config p begins.from begins.by done.from done.by);
      is =
          record {
            begins_from = begins.from;
            begins_by = begins.by;
            done_from = done.from;
            done_by = done.by;
            first = c.first_tick-begins.ensures.between;
            whole = c.whole_budget-done.ensures.between;
            is = refl;
          };
      added = c.in_ok-add_row.ensures ∙ ap (λ r. c.args.out.now.items ++ told c.args.form COLUMNS.now PROCESS.now r) row;
    }
