-- What is known of the files in memory.
use Rattle.std.specs.Prelude.{ℕ, List, Option, Some, option_map}
use Rattle.std.specs.BTreeMap.{get_by_text}
use Rattle.dk_outside.specs.Views.{DepotView}
use Rattle.dk_outside.specs.declared.mem_depot.MemDepot.{MemDepot}

-- what each name holds
abbrev pub mem_files : MemDepot → List ℕ → Option (List ℕ)
mem_files d name = option_map (λ v. v.items) (get_by_text d.files name)

abbrev pub mem_faults : MemDepot → ℕ
mem_faults d = d.faults

abbrev pub mem_given : MemDepot → ℕ
mem_given d = d.given

-- what is seen of it: it tells all files, and its strays are its faults
abbrev pub mem_depot_view : MemDepot → DepotView
mem_depot_view d = record {
  files = Some (mem_files d);
  given = mem_given d;
  faults = mem_faults d;
  strays = mem_faults d;
}
