-- What a write of a text leaves of a sink, where the ledger is read on the way.
use Rattle.std.specs.Prelude.{ℕ, ◌≡◌, ◌≤◌, List, Result, OnOk, OnErr, IsErrOf}
use Rattle.dk_outside.specs.Counts.{Rises}
use Rattle.dk_outside.specs.Views.{SinkView}
use Rattle.dk_outside.specs.Written.{Appends, AppendsPrefix}
use Rattle.dk_groups.specs.declared.write_fault.WriteFault.{WriteFault}

pub record Puts {A : Type 0} (old new : SinkView) (result : Result A WriteFault) (text : List ℕ) : Type 0 where
  -- it appends the whole text, or a prefix where it fails
  pub ok : OnOk result (Appends old.written new.written text)
  pub err : OnErr result (AppendsPrefix old.written new.written text)
  -- where the sink failed its count of faults rose, and else it stays
  pub cause : IsErrOf result WriteFault.Sink → Rises old.faults new.faults
  pub stays : ¬ IsErrOf result WriteFault.Sink → new.faults ≡ old.faults
  pub faults : old.faults ≤ new.faults
  pub same : new.capacity ≡ old.capacity
