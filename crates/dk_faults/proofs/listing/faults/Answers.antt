use Rattle.std.proofs.Common.{◌≡◌, ◌∙◌, ap, arith}
use Rattle.std.specs.Prelude.{slice_get}
use Rattle.dk_config.specs.Rules.{all_tests}
use Rattle.dk_faults.specs.Faults.{broken}
use Rattle.dk_faults.proofs.Broken.{first-broken}
use Rattle.dk_faults.proofs.listing.faults.Goals as goal

pub returns-clause-first : goal.returns-clause-first
returns-clause-first c =
    let all : c.add_faults.new.found.items ≡ broken (all_tests c.args.config.now) = grind (arith, c.in_ok-add_faults.ensures) in
    ap (λ fs. slice_get fs 0) all ∙ first-broken (all_tests c.args.config.now)
