use Rattle.std.proofs.Common.{refl}
use Rattle.dk_limits.proofs.laws.limits_are_these.Goals as goal

pub returns : goal.returns
returns c = record {
  config_bytes = refl;
  levels_of_version_1 = refl;
  levels = refl;
  processes = refl;
  mutexes = refl;
  cost = refl;
  span = refl;
  memory_words = refl;
  children = refl;
  name_bytes = refl;
  file_name_bytes = refl;
  program_bytes = refl;
  instructions = refl;
  source_bytes = refl;
  asks = refl;
  run_ticks = refl;
  ledger_bytes = refl;
  ticks = refl;
  count = refl;
}
