-- What a configuration tells beside its ledger: the names of its mutexes, and by when in each of its windows each main begins
-- and is done, in ticks from the window's start.
use Rattle.std.specs.Prelude.{ℕ, ◌≡◌, ◌≤◌, ◌<◌, List, [], length, map, Some, slice_get}
use Rattle.dk_config.specs.Configuration.{Configuration}
use Rattle.dk_config.specs.Windows.{budget}
use Rattle.dk_config.specs.Ahead.{IsEnough}
use Rattle.dk_picture.specs.declared.promise.Bound.{Bound}

-- both by their numbers
pub record Promised : Type 0 where
  pub names : List (List ℕ)
  pub bounds : List Bound

-- where there is no configuration
abbrev pub nothing_promised : Promised
nothing_promised = record { names = []; bounds = [] }

-- So many ticks of each window are enough for a tick of the main of p, and so many for its whole budget, and no fewer.
pub record IsBound (c : Configuration) (p : ℕ) (b : Bound) : Type 0 where
  pub begins : IsEnough c p 1 b.begins
  pub begins_least : (f : ℕ) → IsEnough c p 1 f → b.begins ≤ f
  pub done : IsEnough c p (budget c p) b.done
  pub done_least : (f : ℕ) → IsEnough c p (budget c p) f → b.done ≤ f

abbrev pub HasBound : Configuration → List Bound → ℕ → Type 0
HasBound c bs p = (b : Bound) × (slice_get bs p ≡ Some b) × IsBound c p b

-- what the configuration tells
pub record IsPromised (c : Configuration) (x : Promised) : Type 0 where
  pub names : x.names ≡ map (λ m. m.name) c.mutexes
  pub count : length x.bounds ≡ length c.processes
  pub bounds : (p : ℕ) → p < length c.processes → HasBound c x.bounds p
