-- A configuration that breaks no rule and is accepted is a certified layout.
use Rattle.dk_show.proofs.Names.{ℕ, ◌≡◌, ◌∙◌, sym, ap, Some, None, Configuration, Verdict, verdict_of}
use Rattle.dk_certify.specs.declared.certifying.Verdict.TheVariants.{Accepted, Fails}
use Rattle.dk_certify.specs.Verdicts.{answer_of, rows_of}
use Rattle.dk_config.specs.Checked.{BreaksNoRule, IsAccepted}
use Rattle.dk_config.specs.declared.fault.ConfigFault.{ConfigFault}
use Rattle.dk_config.specs.Rules.{all_tests}
use Rattle.dk_config.specs.Tests.{first_broken}
use Rattle.dk_bound.proofs.Accepted.{no-failing}

pub no_rule : (c : Configuration) (fault : ConfigFault) → BreaksNoRule c → first_broken (all_tests c) ≡ Some fault → ⊥
no_rule c fault none some = let bad : None ≡ Some fault = sym none ∙ some in cc

pub no_fails : (c : Configuration) (level needs window : ℕ) → IsAccepted c → verdict_of c ≡ Fails level needs window → ⊥
no_fails c level needs window accepted fails =
    let accepts : verdict_of c ≡ Accepted (rows_of c) = ap (answer_of c) (no-failing c accepted) in
    let bad : Accepted (rows_of c) ≡ Fails level needs window = sym accepts ∙ fails in cc
