-- A place that is counted byte by byte.
use Rattle.std.proofs.Common.{ℕ, ◌≡◌, ◌+◌, ◌≤◌, List, drop}
use Rattle.dk_document_report.specs.declared.place.Place.{Place}
use Rattle.dk_document_report.specs.Places.{place_from}

-- the bytes that are left lead from here to where all lead, and no number is above those done
pub record CountedSoFar (start : Place) (bytes : List ℕ) (done : ℕ) (p : Place) : Type 0 where
  pub leads : place_from p (drop done bytes) ≡ place_from start bytes
  pub line : p.line ≤ done + 1
  pub column : p.column ≤ done + 1
