-- How many steps a run may take.
use Rattle.std.specs.Prelude.{ℕ, ◌+◌, ◌*◌, List, [], ◌∷◌, length}
use Rattle.dk_config.specs.Configuration.{Configuration}
use Rattle.dk_trace.specs.declared.Entry.{Entry}
use Rattle.dk_recount.specs.Counts.{moved}

-- how many the newest tick may take
abbrev pub tick_steps : Configuration → List Entry → ℕ
tick_steps c past = 16 * (length c.levels + 1) * (moved c past + 1)

-- how many the ticks of these entries may take together
abbrev pub run_steps : Configuration → List Entry → ℕ
run_steps c [] = 0
run_steps c (e ∷ past) = tick_steps c (e ∷ past) + run_steps c past
