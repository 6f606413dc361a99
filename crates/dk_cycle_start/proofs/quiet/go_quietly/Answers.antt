use Rattle.dk_cycle_start.proofs.Names.{ap, subst, arith, Configuration, IsAccepted, IsChecked, Running}
use Rattle.dk_cycle_start.proofs.AtOnce.{none-gone, same-ticks, stretched}
use Rattle.dk_cycle_start.proofs.quiet.go_quietly.Goals as goal

pub returns-in-Some : goal.returns-in-Some
returns-in-Some g c =
    let config = ap (λ (r : Running). r.config) c.in-Some.ensures.next in
    record {
      few = c.in-Some.ensures.few;
      next = c.in-Some.ensures.next;
      quiet = stretched c.args.kernel.now c.at_once.new.self c.in-Some.stretch c.in-Some.ensures.next c.in-Some.ensures.entries c.in-Some.ensures.some c.in-Some.ensures.computes;
      checked = subst (λ (z : Configuration). IsChecked z) config c.at_once.ensures.checked;
      accepted = subst (λ (z : Configuration). IsAccepted z) config c.at_once.ensures.accepted;
    }

pub returns-in-None : goal.returns-in-None
returns-in-None g c =
    let config = ap (λ (r : Running). r.config) c.in-None.ensures.next in
    record {
      few = omega arith;
      next = same-ticks c.args.kernel.now c.at_once.new.self c.in-None.ensures.next;
      quiet = none-gone c.args.kernel.now;
      checked = subst (λ (z : Configuration). IsChecked z) config c.at_once.ensures.checked;
      accepted = subst (λ (z : Configuration). IsAccepted z) config c.at_once.ensures.accepted;
    }
