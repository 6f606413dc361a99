-- What is known of a depot of which some reads fail.
use Rattle.std.specs.Prelude.{ℕ, List, Option, Some, Contains}
use Rattle.dk_outside.specs.Counts.{raised}
use Rattle.dk_outside.specs.MemDepot.{mem_files}
use Rattle.dk_outside.specs.Views.{DepotView}
use Rattle.dk_outside.specs.declared.failing_depot.FailingDepot.{FailingDepot}

-- what each name holds
abbrev pub inner_files : FailingDepot → List ℕ → Option (List ℕ)
inner_files d = mem_files d.inner

-- the numbers of the reads that fail, counted from 1
abbrev pub failing_reads : FailingDepot → List ℕ
failing_reads d = d.fails.items

abbrev pub reads_so_far : FailingDepot → ℕ
reads_so_far d = d.reads

-- the next read is one of those
abbrev pub IsToFail : FailingDepot → Type 0
IsToFail d = Contains (failing_reads d) (raised (reads_so_far d))

abbrev pub depot_faults : FailingDepot → ℕ
depot_faults d = d.faults

abbrev pub depot_given : FailingDepot → ℕ
depot_given d = d.given

abbrev pub depot_strays : FailingDepot → ℕ
depot_strays d = d.strays

-- what is seen of it: it tells all files
abbrev pub failing_depot_view : FailingDepot → DepotView
failing_depot_view d = record {
  files = Some (inner_files d);
  given = depot_given d;
  faults = depot_faults d;
  strays = depot_strays d;
}
