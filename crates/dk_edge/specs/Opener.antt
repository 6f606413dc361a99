-- What an opener tells of a file.
use Rattle.std.specs.Prelude.{ℕ, ◌≡◌, List, take, Option, Some, None}

-- what no name is told to hold
abbrev pub untold : Option (List ℕ → Option (List ℕ))
untold = None

-- the name holds a file, and all of it is still to be read
abbrev pub HasWhole : Option (List ℕ) → Option (List ℕ) → Type 0
HasWhole held left = (file : List ℕ) × (held ≡ Some file) × (left ≡ Some file)

-- the name holds a file, and these are its bytes, or the first `most` of them
abbrev pub AreFirst : Option (List ℕ) → ℕ → List ℕ → Type 0
AreFirst held most bytes = (file : List ℕ) × (held ≡ Some file) × (bytes ≡ take most file)
