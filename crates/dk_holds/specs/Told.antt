-- What it is that a thread holds a mutex.
use Rattle.std.specs.Prelude.{ℕ, ◌≡◌, false, List, ◌∷◌, ◌++◌, length, Some}
use Rattle.std.specs.List.{list_any}
use Rattle.dk_trace.specs.declared.Entry.{Entry}
use Rattle.dk_holds.specs.declared.holding.Holding.{Holding}
use Rattle.dk_holds.specs.Holds.{begun, ends}

-- an entry of the past began the hold, and none of the later ones ends it
pub record IsHeld (m : ℕ) (past : List Entry) (h : Holding) : Type 0 where
  pub later : List Entry
  pub lock : Entry
  pub earlier : List Entry
  pub parts : past ≡ later ++ lock ∷ earlier
  pub begins : begun m (length earlier) lock ≡ Some h
  pub goes_on : list_any (ends m h.thread) later ≡ false
