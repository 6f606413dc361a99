-- What a read of files gives and counts.
use Rattle.std.specs.Prelude.{ℕ, ◌≡◌, ◌+◌, List, take, Option, Some, None, Result, Ok, Err, if◌then◌else◌}
use Rattle.std.specs.Str.{bytes_eq}
use Rattle.dk_outside.specs.Counts.{raised}
use Rattle.dk_outside.specs.declared.depot.DepotError.{DepotError}
use Rattle.dk_outside.specs.declared.depot.DepotError.TheVariants.{Failed, NoMemory}

-- the file under the name, or its first limit + 1 bytes
abbrev pub IsReading : (List ℕ → Option (List ℕ)) → List ℕ → ℕ → List ℕ → Type 0
IsReading at name limit bytes = (file : List ℕ) × (at name ≡ Some file) × (bytes ≡ take (limit + 1) file)

-- one more stray read where the name holds no file, and as many as before where it holds one
abbrev pub CountsStray : (List ℕ → Option (List ℕ)) → List ℕ → ℕ → ℕ → Type 0
CountsStray at name old new = CountsOne (at name) old new
  where
    CountsOne : Option (List ℕ) → ℕ → ℕ → Type 0
    CountsOne None old new = new ≡ raised old
    CountsOne (Some _) old new = new ≡ old

-- one more where the outside failed, and else as before
abbrev pub CountsFailedRead : {A : Type 0} → Result A DepotError → ℕ → ℕ → Type 0
CountsFailedRead (Err Failed) old new = new ≡ raised old
CountsFailedRead (Err NoMemory) old new = new ≡ old
CountsFailedRead (Ok _) old new = new ≡ old

-- one file is set, and the others stay
abbrev pub PutsFile : (List ℕ → Option (List ℕ)) → (List ℕ → Option (List ℕ)) → List ℕ → List ℕ → Type 0
PutsFile old new name bytes = (q : List ℕ) → new q ≡ (if bytes_eq name q then Some bytes else old q)
