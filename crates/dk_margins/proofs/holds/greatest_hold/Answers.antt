use Rattle.dk_margins.proofs.Names.{arith, row_at, accepted_from, certified_from, with_hold}
use Rattle.dk_margins.proofs.HoldRules.{range_needed, unbroken-with}
use Rattle.dk_margins.proofs.holds.greatest_hold.Goals as goal

pub returns-in-None-clause-greatest : goal.returns-in-None-clause-greatest
returns-in-None-clause-greatest c =
    λ n stands. c.in-None.ensures.none n (accepted_from (with_hold c.args.config.now c.args.mutex n) stands.certified)

pub returns-then-most-eq0-clause-greatest : goal.returns-then-most-eq0-clause-greatest
returns-then-most-eq0-clause-greatest c =
    let config = c.args.config.now in
    let m = c.args.mutex in
    let at = row_at config.mutexes m c.requires.exists in
    λ n stands.
    (let range = range_needed config m n at.0 at.1 stands.unbroken in
    let within = (c.in-Some.ensures.limit n range.1).0 (accepted_from (with_hold config m n) stands.certified) in
    omega (arith, within, range.0))

pub returns-else-most-eq0-clause-greatest : goal.returns-else-most-eq0-clause-greatest
returns-else-most-eq0-clause-greatest c =
    let config = c.args.config.now in
    let m = c.args.mutex in
    let at = row_at config.mutexes m c.requires.exists in
    let most = c.in-Some.most in
    let few = c.in-Some.ensures.few in
    let accepted = (c.in-Some.ensures.limit most few).1 (omega arith) in (
      record {
        unbroken = unbroken-with config m most c.requires.unbroken (omega arith) few;
        certified = certified_from (with_hold config m most) accepted;
      },
      λ n more stands.
          (let range = range_needed config m n at.0 at.1 stands.unbroken in
          let within = (c.in-Some.ensures.limit n range.1).0 (accepted_from (with_hold config m n) stands.certified) in
          omega (arith, within, more)),
    )
