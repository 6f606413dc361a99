-- Rows in a slab, in the order of their keys.
use Rattle.std.specs.Prelude.{◌≡◌, ◌==◌, ℕ, ◌+◌, ◌-◌, ◌≤◌, false, List, [], ◌∷◌, length, filter_map, IsSome}
use Rattle.std.specs.List.{list_any}
use Rattle.slab.specs.Slab.{Slab, get, slab_len}
use Rattle.dk_config.specs.declared.TheConstants.{MAX_CHILDREN}
use Rattle.dk_threads.specs.declared.row.ThreadRow.{ThreadRow}

abbrev pub rows_at : Slab ThreadRow → List ℕ → List ThreadRow
rows_at slab keys = filter_map (get slab) keys

-- each key has a row, and no key stands twice
abbrev pub AreKeys : Slab ThreadRow → List ℕ → Type 0
AreKeys slab [] = Unit {0}
AreKeys slab (key ∷ keys) = IsSome (get slab key) × (list_any (λ other. other == key) keys ≡ false) × AreKeys slab keys

-- the rows, with room in the slab for all that there may be
pub record IsStored (slab : Slab ThreadRow) (keys : List ℕ) : Type 0 where
  pub held : AreKeys slab keys
  pub room : slab_len slab + (MAX_CHILDREN - length keys) ≤ slab.capacity
  pub few : length keys ≤ MAX_CHILDREN
