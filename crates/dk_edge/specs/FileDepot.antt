-- What is known of files that are opened by name.
use Rattle.std.specs.Prelude.{ℕ, List, Option}
use Rattle.dk_outside.specs.Views.{DepotView}
use Rattle.dk_edge.specs.declared.file_depot.FileDepot.{FileDepot}

-- what opens its files
abbrev pub opener_of : {R F : Type 0} → FileDepot R F → R
opener_of d = d.opener

abbrev pub file_given : {R F : Type 0} → FileDepot R F → ℕ
file_given d = d.given

-- What is seen of it as a depot: the opener's files, failures and strays. It counts no fault of its own.
abbrev pub file_depot_view : {R F : Type 0} → (R → Option (List ℕ → Option (List ℕ))) → (R → ℕ) → (R → ℕ) → FileDepot R F
    → DepotView
file_depot_view contents failures strays d = record {
  files = contents (opener_of d);
  given = file_given d;
  faults = failures (opener_of d);
  strays = strays (opener_of d);
}
