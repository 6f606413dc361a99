use Rattle.dk_margins.proofs.Names.{◌≡◌, length, rules, subst, LimitsSwitch}
use Rattle.dk_margins.proofs.SwitchRooms.{greatest}
use Rattle.dk_margins.proofs.switches.greatest_switch.Goals as goal

pub returns-in-Accepted-clause-greatest : goal.returns-in-Accepted-clause-greatest
returns-in-Accepted-clause-greatest c =
    let same : c.deref.result.now ≡ c.args.config.now.processes = search rules in
    greatest c.args.config.now c.most_switch.result c.requires.unbroken c.in-Accepted.ensures.accepted
    (subst (λ rows. LimitsSwitch rows (length rows) c.most_switch.result) same c.most_switch.ensures.limit)
