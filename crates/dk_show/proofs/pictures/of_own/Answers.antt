use Rattle.dk_show.proofs.Names.{inl, inr, refl, subst, sym, Heading, IsOwnHeading, IsPicture, IsPictureUnder}
use Rattle.dk_show.proofs.Coming.{comes_wider}
use Rattle.dk_show.proofs.pictures.of_own.Goals as goal

pub returns-then-not-is_own_heading-clause-comes : goal.returns-then-not-is_own_heading-clause-comes
returns-then-not-is_own_heading-clause-comes c = λ j shown told.
    inr (record {
      other = λ own. let is = c.is_own_heading.ensures.1 (subst (λ (h : Heading). IsOwnHeading c.args.config.now h) shown.heading own) in let no = c.if-not-is_own_heading.true in absurd (cc);
      says = (refl, refl);
    })

pub returns-clause-comes : goal.returns-clause-comes
returns-clause-comes c = λ j shown.
    let own = c.is_own_heading.ensures.0 c.if-not-is_own_heading.false in
    comes_wider (IsPicture c.in_ok-promise.promise c.args.range j) (IsPictureUnder c.args.config.now c.args.range j)
    (λ t s drawn. inl (record {
      own = subst (λ (h : Heading). IsOwnHeading c.args.config.now h) (sym shown.heading) own;
      promised = c.in_ok-promise.promise;
      promise = c.in_ok-promise.ensures;
      drawn = drawn;
    })) c.within.result (c.within.ensures.comes j shown)
