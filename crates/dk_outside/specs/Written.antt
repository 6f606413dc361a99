-- What a write appends to what was written.
use Rattle.std.specs.Prelude.{ℕ, ◌≡◌, ◌≤◌, length, List, ◌++◌, take, Option, option_map, Result, OnOk, OnErr, IsErr}
use Rattle.dk_outside.specs.Counts.{Rises}
use Rattle.dk_outside.specs.Views.{SinkView}

-- the bytes were appended; where it isn't told what was written, it stays untold
abbrev pub Appends : Option (List ℕ) → Option (List ℕ) → List ℕ → Type 0
Appends old new bytes = new ≡ option_map (λ w. w ++ bytes) old

-- a prefix of the piece was appended
abbrev pub AppendsPrefix : Option (List ℕ) → Option (List ℕ) → List ℕ → Type 0
AppendsPrefix old new piece = (n : ℕ) × (n ≤ length piece) × Appends old new (take n piece)

-- What a write of a text leaves of a sink.
pub record Writes {A E : Type 0} (old new : SinkView) (result : Result A E) (text : List ℕ) : Type 0 where
  -- it appends the whole text, or a prefix where it fails
  pub ok : OnOk result (Appends old.written new.written text)
  pub err : OnErr result (AppendsPrefix old.written new.written text)
  -- where it fails the count of faults rises, and else stays
  pub cause : IsErr result → Rises old.faults new.faults
  pub stays : OnOk result (new.faults ≡ old.faults)
  pub faults : old.faults ≤ new.faults
  pub same : new.capacity ≡ old.capacity
