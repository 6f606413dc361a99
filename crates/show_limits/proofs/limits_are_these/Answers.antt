use Rattle.std.proofs.Common.{refl}
use Rattle.show_limits.proofs.limits_are_these.Goals as goal

pub returns : goal.returns
returns c = record {
  rows = refl;
  id_bytes = refl;
  percent = refl;
  amount = refl;
  always_ticks = refl;
  profile_bytes = refl;
  work = refl;
  value = refl;
  instructions = refl;
}
