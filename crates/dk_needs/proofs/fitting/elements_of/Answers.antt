use Rattle.std.proofs.Common.{◌≡◌, ◌∙◌, option_map, refl, ap, sym}
use Rattle.std.specs.Prelude.{Some}
use Rattle.toml.specs.Data.{as_array}
use Rattle.toml.specs.View.{view, array_view}
use Rattle.dk_loader.proofs.Rows.{items_list-items_view}
use Rattle.dk_needs.proofs.fitting.elements_of.Goals as goal

pub returns-in-Some : goal.returns-in-Some
returns-in-Some c =
    let items : as_array (view c.args.value.now) ≡ Some (array_view c.in-Some.values.now) = sym c.as_array.ensures ∙ ap (option_map (λ v. array_view v.now)) c.in-Some.is in
    rw (items, c.as_slice.ensures.value, items_list-items_view) refl
