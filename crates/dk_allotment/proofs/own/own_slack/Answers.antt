use Rattle.std.proofs.Common.{rules, ◌≡◌, ◌/◌, length, ap, subst, arith, ◌∙◌}
use Rattle.dk_config.specs.Windows.{period, main_level}
use Rattle.dk_allotment.specs.Alone.{FitsSoFar}
use Rattle.dk_allotment.proofs.Alone.{fits-start, fits-next, fits-all}
use Rattle.dk_allotment.proofs.own.own_slack.Goals as goal

pub loop-level-init : goal.loop-level-init
loop-level-init c =
    let config = c.args.config.now in
    let p = c.args.process in
    let own = c.level_of-own.ensures.own in
    let positive = c.requires.checked.positive (main_level config p) (c.requires.checked.levels p c.requires.process) in (
      fits-start config p c.level_of-own.result c.spare_of-most.result own positive c.spare_of-most.ensures.spare,
      c.spare_of-most.ensures.few,
      omega (arith, own),
    )

pub loop-level-preserved : goal.loop-level-preserved
loop-level-preserved c =
    let config = c.args.config.now in
    let p = c.args.process in
    let own = c.level_of-own.ensures.own in
    let level = c.loop-level.level in
    let windows = c.windows_in.ensures.windows ∙ ap (λ i. period config level / period config i) own in
    let so_far = c.loop-level.invariant in
    let few = so_far.1 in
    let least = c.min-most.ensures in (
      fits-next config p level c.loop-level.most c.min-most.result c.spare_of.result c.windows_in.result so_far.2 so_far.0 c.windows_in.ensures.positive c.spare_of.ensures.spare windows least,
      omega (arith, few, least),
      omega (arith, so_far.2),
    )

pub returns-clause-own : goal.returns-clause-own
returns-clause-own c =
    let config = c.args.config.now in
    let all : c.loop-level.level ≡ length config.levels = search rules in
    fits-all config c.args.process c.loop-level.most c.requires.process (subst (λ i. FitsSoFar config c.args.process i c.loop-level.most) all c.loop-level.invariant.0)

pub returns-clause-few : goal.returns-clause-few
returns-clause-few c = c.loop-level.invariant.1
