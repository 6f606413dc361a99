use Rattle.std.proofs.Common.{subst}
use Rattle.dk_config.specs.Configuration.{Configuration}
use Rattle.dk_certify.specs.Verdicts.{verdict_of}
use Rattle.dk_show.specs.Output.{IsToldOf}
use Rattle.dk_show.specs.Works.{ComesTo}
use Rattle.dk_show.proofs.telling.of_config.Goals as goal

pub returns-in-Ok-clause-comes : goal.returns-in-Ok-clause-comes
returns-in-Ok-clause-comes c =
    subst (λ (k : Configuration). ComesTo (IsToldOf c.args.telling c.args.as_csv k (verdict_of k)) c.told_of.result) c.in-Ok.ensures c.told_of.ensures.comes
