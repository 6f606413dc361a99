use Rattle.std.proofs.Common.{◌≡◌, ◌-◌, sym, subst}
use Rattle.dk_config_report.specs.Pages.{IsLeast}
use Rattle.dk_needs_check.specs.Meaning.{ReactsWithin}
use Rattle.dk_needs_check.proofs.Told.{least_jitter}
use Rattle.dk_needs_check.proofs.bounds.reaction_jitter.Goals as goal

pub returns : goal.returns
returns c done are =
    let config = c.args.config.now in
    let longest = c.reaction-longest.result in
    let shortest = c.shortest_reaction-shortest.result in
    let is : c.saturating_sub.result ≡ longest - shortest = c.saturating_sub.ensures in
    subst (IsLeast (ReactsWithin config done c.args.first c.args.rest.now)) (sym is)
    (least_jitter config done c.args.first c.args.rest.now longest shortest (c.reaction-longest.ensures.reaction done are) c.shortest_reaction-shortest.ensures)
