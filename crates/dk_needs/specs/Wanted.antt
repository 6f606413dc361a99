-- What contracts see of all that a document asks for.
use Rattle.std.specs.Prelude.{List, Option}
use Rattle.dk_needs.specs.declared.needs.Tick.{Tick}
use Rattle.dk_needs.specs.declared.needs.Need.{Need}

-- how long a tick is, where the document says it, and the needs in their order
pub record Wanted : Type 0 where
  pub tick : Option Tick
  pub rows : List Need
