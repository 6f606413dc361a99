-- A table that is ready to be written.
use Rattle.std.specs.Prelude.{ℕ, ◌≡◌, [], Bool, List, Option}
use Rattle.dk_ledger.specs.declared.line.LedgerLine.{LedgerLine}
use Rattle.dk_ledger.specs.Readable.{Journal}
use Rattle.dk_groups.specs.Cutting.{Cutting, ComesNext}
use Rattle.dk_overrun_spans.specs.Marks.{AreMarks}
use Rattle.dk_overrun_spans.specs.Overruns.{overruns}

-- the reader of its groups with the first of them, and the marks of the windows that were overrun
pub record Table : Type 0 where
  pub cutting : Cutting
  pub first : Option LedgerLine
  pub marks : List Bool

-- it is that of the ledger, in this range
pub record IsTableOf (j : Journal) (lo hi : ℕ) (t : Table) : Type 0 where
  pub first : ComesNext j [] t.first t.cutting
  pub from : t.cutting.from ≡ lo
  pub to : t.cutting.to ≡ hi
  pub marks : AreMarks (overruns j.heading j.entries) t.marks
