use Rattle.std.proofs.Common.{rules, ℕ, ◌≡◌, ◌+◌, ◌-◌, ◌*◌, ◌/◌, ◌<◌, ◌≤◌, ap, arith, length, ◌∙◌, false}
use Rattle.std.proofs.lemmas.Bool.Decides.{nat_tests}
use Rattle.dk_config.specs.Certification.{spare}
use Rattle.dk_config.specs.Windows.{main_level, period}
use Rattle.dk_allotment.proofs.Alone.{first-passed, last-passed}
use Rattle.dk_allotment.proofs.limiting.limiting_level.Goals as goal

pub returns-then-not-holds_each : goal.returns-then-not-holds_each
returns-then-not-holds_each c =
    let config = c.args.config.now in
    let p = c.args.process in
    let level = c.loop-level.level in
    let own = c.level_of-own.ensures.own in
    let each : (c.args.most + 1) * (period config level / period config c.level_of-own.result) ≡ (c.args.most + 1) * (period config level / period config (main_level config p)) =
    ap (λ i. (c.args.most + 1) * (period config level / period config i)) own in
    let is = c.holds_each.ensures in
    let no = c.if-not-holds_each.true in
    let passes : spare config level < (c.args.most + 1) * (period config level / period config (main_level config p)) = grind (arith, nat_tests, is, no, each) in
    first-passed config p (c.args.most + 1) c.requires.process level (search rules) (search rules) c.loop-level.invariant passes

pub returns : goal.returns
returns c =
    let config = c.args.config.now in
    let p = c.args.process in
    last-passed config p c.args.most (c.len.result - 1) c.requires.process (search rules) (search rules) c.requires.own (search rules)
