use Rattle.std.proofs.Common.{rules, ◌≡◌, ◌+◌, subst, sym, true, false}
use Rattle.std.specs.Prelude.{All}
use Rattle.dk_config.proofs.CheckedConfig.{within_limits}
use Rattle.dk_growth.specs.Growth.{StaysInRange, grown}
use Rattle.dk_growth.proofs.Unbroken.{unbroken-grown}
use Rattle.dk_growth.proofs.Limiting.{limits}
use Rattle.dk_growth.proofs.limits.growth_limit.Goals as goal

pub returns-then-not-all_stay_in_range : goal.returns-then-not-all_stay_in_range
returns-then-not-all_stay_in_range c =
    let rows : c.as_slice.result.now ≡ c.args.config.now.processes = search rules in
    let no : c.all_stay_in_range.result ≡ false = search rules in
    λ all.
    (let yes : c.all_stay_in_range.result ≡ true = c.all_stay_in_range.ensures.1 (subst (λ rows. All (StaysInRange (c.args.most + 1)) rows) (sym rows) all) in
    absurd (cc))

pub fails_grown-requires-clause-grown : goal.fails_grown-requires-clause-grown
fails_grown-requires-clause-grown c =
    let rows : c.as_slice.result.now ≡ c.args.config.now.processes = search rules in
    let yes : c.all_stay_in_range.result ≡ true = search rules in
    within_limits (grown c.args.config.now (c.args.most + 1))
    (unbroken-grown c.args.config.now (c.args.most + 1) c.requires.unbroken (subst (λ rows. All (StaysInRange (c.args.most + 1)) rows) rows (c.all_stay_in_range.ensures.0 yes)))

pub returns : goal.returns
returns c =
    let rows : c.as_slice.result.now ≡ c.args.config.now.processes = search rules in
    let yes : c.all_stay_in_range.result ≡ true = search rules in
    limits c.args.config.now c.args.most c.fails_grown.result (subst (λ rows. All (StaysInRange (c.args.most + 1)) rows) rows (c.all_stay_in_range.ensures.0 yes)) c.fails_grown.ensures
