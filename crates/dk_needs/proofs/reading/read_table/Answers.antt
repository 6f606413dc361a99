use Rattle.std.proofs.Common.{◌∙◌, ap, sym}
use Rattle.toml.specs.View.{table_view}
use Rattle.dk_needs.specs.Reading.{answer_for, needs_of, reading_of, refusal}
use Rattle.dk_needs.proofs.reading.read_table.Goals as goal

pub returns-in-Some : goal.returns-in-Some
unfolding reading_of
returns-in-Some c _ =
    ap (answer_for (needs_of (table_view c.args.table.now))) (sym c.in-Some.is ∙ c.refusal.ensures ∙ ap refusal c.in_ok-found.ensures)

pub returns-in-None : goal.returns-in-None
unfolding reading_of
returns-in-None c there =
    c.well_shaped.ensures there
    ∙ ap (answer_for (needs_of (table_view c.args.table.now))) (sym c.in-None.is ∙ c.refusal.ensures ∙ ap refusal c.in_ok-found.ensures)
