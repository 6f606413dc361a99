use Rattle.std.proofs.Common.{subst}
use Rattle.dk_config.specs.Checked.{IsAccepted, IsChecked}
use Rattle.show_impact.proofs.Seen.{by_windows}
use Rattle.show_impact.proofs.comparing.windows_stand.Goals as goal

pub returns : goal.returns
returns c = λ p q is.
    let before = c.config-before.ensures in
    let after = c.config-after.ensures in
    by_windows c.args.old.now c.args.new.now p q (subst IsChecked before.same before.checked) (subst IsAccepted before.same before.accepted)
    (subst IsChecked after.same after.checked) (subst IsAccepted after.same after.accepted) c.first_windows_any_period_law.ensures is
