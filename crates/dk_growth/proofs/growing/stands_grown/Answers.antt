use Rattle.std.proofs.Common.{rules, ◌≡◌, subst, sym, true, false}
use Rattle.std.specs.Prelude.{All}
use Rattle.dk_config.proofs.CheckedConfig.{within_limits}
use Rattle.dk_plan.proofs.Accepting.{accepted_from, certified_from}
use Rattle.dk_growth.specs.Growth.{StaysInRange, grown}
use Rattle.dk_growth.proofs.Unbroken.{stay_needed, unbroken-grown}
use Rattle.dk_growth.proofs.growing.stands_grown.Goals as goal

pub returns-then-not-all_stay_in_range-clause-fails : goal.returns-then-not-all_stay_in_range-clause-fails
returns-then-not-all_stay_in_range-clause-fails c =
    let rows : c.as_slice.result.now ≡ c.args.config.now.processes = search rules in
    let no : c.all_stay_in_range.result ≡ false = search rules in
    λ same stands.
    (let yes : c.all_stay_in_range.result ≡ true =
    c.all_stay_in_range.ensures.1 (subst (λ rows. All (StaysInRange c.args.percent) rows) (sym rows) (stay_needed c.args.config.now c.args.percent stands.unbroken)) in
    absurd (cc))

pub all_fit_grown-requires-clause-grown : goal.all_fit_grown-requires-clause-grown
all_fit_grown-requires-clause-grown c =
    let rows : c.as_slice.result.now ≡ c.args.config.now.processes = search rules in
    let yes : c.all_stay_in_range.result ≡ true = search rules in
    let stay = c.all_stay_in_range.ensures.0 yes in
    within_limits (grown c.args.config.now c.args.percent)
    (unbroken-grown c.args.config.now c.args.percent c.requires.unbroken (subst (λ rows. All (StaysInRange c.args.percent) rows) rows stay))

pub returns-clause-stands : goal.returns-clause-stands
returns-clause-stands c =
    let rows : c.as_slice.result.now ≡ c.args.config.now.processes = search rules in
    let yes : c.all_stay_in_range.result ≡ true = search rules in
    let stay = c.all_stay_in_range.ensures.0 yes in
    λ fit.
    record {
      unbroken = unbroken-grown c.args.config.now c.args.percent c.requires.unbroken (subst (λ rows. All (StaysInRange c.args.percent) rows) rows stay);
      certified = certified_from (grown c.args.config.now c.args.percent) (c.all_fit_grown.ensures.fit fit);
    }

pub returns-clause-fails : goal.returns-clause-fails
returns-clause-fails c =
    λ no stands. c.all_fit_grown.ensures.fails no (accepted_from (grown c.args.config.now c.args.percent) stands.certified)
