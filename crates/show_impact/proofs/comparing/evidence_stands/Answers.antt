use Rattle.std.proofs.Common.{subst}
use Rattle.dk_config.specs.Checked.{IsAccepted, IsChecked}
use Rattle.show_impact.proofs.Seen.{evidence}
use Rattle.show_impact.proofs.comparing.evidence_stands.Goals as goal

pub returns : goal.returns
returns c = λ p q is.
    let before = c.config-before.ensures in
    let after = c.config-after.ensures in
    evidence c.args.old.now c.args.new.now p q (subst IsChecked before.same before.checked) (subst IsAccepted before.same before.accepted)
    (subst IsChecked after.same after.checked) (subst IsAccepted after.same after.accepted) c.impact_law.ensures c.first_windows_across_law.ensures is
