use Rattle.std.proofs.Common.{◌≡◌, ◌∙◌, option_map, refl, ap, sym}
use Rattle.std.specs.Prelude.{Some}
use Rattle.toml.specs.Data.{get_member, as_array}
use Rattle.toml.specs.View.{view, array_view, table_view}
use Rattle.dk_loader.proofs.Rows.{items_list-items_view, elements-as_array}
use Rattle.dk_document_report.proofs.looks.rows_at.Goals as goal

pub returns-in-Some-as_array : goal.returns-in-Some-as_array
returns-in-Some-as_array c =
    let found : Some (view c.in-Some.value.now) ≡ get_member c.args.key.now (table_view c.args.table.now) = ap (option_map (λ v. view v.now)) (sym c.in-Some.is) ∙ c.find.ensures in
    let items : as_array (view c.in-Some.value.now) ≡ Some (array_view c.in-Some-as_array.values.now) = sym c.as_array.ensures ∙ ap (option_map (λ v. array_view v.now)) c.in-Some-as_array.is in
    rw (c.as_slice.ensures.value, ← found, elements-as_array (view c.in-Some.value.now) _ items, items_list-items_view) refl
