-- What a profile in either form says.
use Rattle.std.specs.Prelude.{ℕ, List}
use Rattle.dk_config.specs.Configuration.{Configuration}
use Rattle.dk_profile.specs.declared.steps.Placed.{Placed}
use Rattle.dk_profile.specs.Reading.{readings_of}
use Rattle.dk_times.specs.declared.form.Form.{Form}
use Rattle.dk_times.specs.Table.{table_readings}

-- what the bytes say of process p, which has this name
abbrev pub readings_in : Configuration → Form → ℕ → List ℕ → List ℕ → List Placed
readings_in c Form.Text p name bytes = readings_of c p bytes
readings_in c Form.Table p name bytes = table_readings c.costs.call name bytes
