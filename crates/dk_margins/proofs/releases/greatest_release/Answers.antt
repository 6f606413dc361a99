use Rattle.dk_margins.proofs.Names.{arith, accepted_from, certified_from, with_release}
use Rattle.dk_margins.proofs.ReleaseRules.{accepted-each, each-accepted, range_needed, unbroken-with}
use Rattle.dk_margins.proofs.releases.greatest_release.Goals as goal

pub returns-in-None-clause-greatest : goal.returns-in-None-clause-greatest
returns-in-None-clause-greatest c =
    λ n stands. c.in-None.ensures.none n (accepted-each c.args.config.now c.args.level n (accepted_from (with_release c.args.config.now c.args.level n) stands.certified))

pub returns-in-Some-clause-greatest : goal.returns-in-Some-clause-greatest
returns-in-Some-clause-greatest c =
    let config = c.args.config.now in
    let i = c.args.level in
    let most = c.in-Some.most in
    let few = c.in-Some.ensures.few in
    let all = (c.in-Some.ensures.limit most few).1 (omega arith) in (
      record {
        unbroken = unbroken-with config i most c.requires.unbroken few;
        certified = certified_from (with_release config i most) (each-accepted config i most all);
      },
      λ n more stands.
          (let within = (c.in-Some.ensures.limit n (range_needed config i n c.requires.exists stands.unbroken)).0
          (accepted-each config i n (accepted_from (with_release config i n) stands.certified)) in
          omega (arith, within, more)),
    )
