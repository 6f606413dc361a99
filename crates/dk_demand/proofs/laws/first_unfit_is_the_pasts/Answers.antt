use Rattle.dk_demand.proofs.Recounts.{first-tight, fits-none}
use Rattle.dk_demand.proofs.laws.first_unfit_is_the_pasts.Goals as goal

pub returns : goal.returns
returns c = record {
  fits = fits-none c.windows_are_the_configurations.ensures.ends;
  denied = first-tight c.windows_are_the_configurations.ensures.ends;
}
