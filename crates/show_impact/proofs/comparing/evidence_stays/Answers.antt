use Rattle.std.proofs.Common.{subst}
use Rattle.dk_config.specs.Checked.{IsAccepted, IsChecked}
use Rattle.show_impact.proofs.Seen.{stays}
use Rattle.show_impact.proofs.comparing.evidence_stays.Goals as goal

pub returns : goal.returns
returns c = λ p q is.
    let before = c.config-before.ensures in
    let after = c.config-after.ensures in
    stays c.args.old.now c.args.new.now p q (subst IsChecked before.same before.checked) (subst IsAccepted before.same before.accepted)
    (subst IsChecked after.same after.checked) (subst IsAccepted after.same after.accepted) c.for_ever_law.ensures c.first_windows_with_more_law.ensures is
