-- Which process is touched beside those named.
use Rattle.std.specs.Prelude.{ℕ, ◌&&◌, Bool, false, not, List, slice_get}
use Rattle.std.specs.Option.{option_map_or}
use Rattle.dk_config.specs.Configuration.{Configuration}
use Rattle.dk_config.specs.Windows.{process_name}
use Rattle.show_impact.specs.declared.row.Row.{Row}
use Rattle.show_impact.specs.Impacts.{is_named, is_same, is_there}

abbrev pub is_same_at : List Row → ℕ → Bool
is_same_at rows q = option_map_or (λ (row : Row). is_same row.impact) (slice_get rows q) false

-- process q of the new configuration is neither named nor told to be the same
abbrev pub is_touched : Configuration → List Row → List (List ℕ) → ℕ → Bool
is_touched new rows names q = not (is_named names (process_name new q)) && not (is_same_at rows q)

-- process p of the old configuration is neither named nor there still
abbrev pub is_lost : Configuration → Configuration → List (List ℕ) → ℕ → Bool
is_lost old new names p = not (is_named names (process_name old p)) && not (is_there new (process_name old p))
