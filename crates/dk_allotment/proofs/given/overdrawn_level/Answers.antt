use Rattle.std.proofs.Common.{rules, ◌≡◌, ◌<◌, length, subst, sym}
use Rattle.dk_allotment.proofs.given.overdrawn_level.Goals as goal

pub returns : goal.returns
returns c =
    let all : c.loop-level.level ≡ length c.args.config.now.levels = search rules in
    λ j known. c.loop-level.invariant j (subst (λ n. j < n) (sym all) known)
