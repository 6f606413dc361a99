-- Names that call for no quotes.
use Rattle.std.specs.Prelude.{ℕ, List, [], slice_get}
use Rattle.std.specs.Option.{option_map_or}
use Rattle.dk_config.specs.Configuration.{Configuration}
use Rattle.dk_config.specs.Windows.{process_name}
use Rattle.dk_table.specs.Records.{IsPlain}

abbrev pub mutex_name : Configuration → ℕ → List ℕ
mutex_name c m = option_map_or (λ row. row.name) (slice_get c.mutexes m) []

-- no name of a process or of a mutex calls for quotes
pub record HasPlainNames (c : Configuration) : Type 0 where
  pub processes : (p : ℕ) → IsPlain (process_name c p)
  pub mutexes : (m : ℕ) → IsPlain (mutex_name c m)
