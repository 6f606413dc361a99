use Rattle.dk_show.proofs.Names.{List, inl, inr, refl, subst, Mutex, AreHoldsTold, IsHeldUnder, ComesTo}
use Rattle.dk_show.proofs.Coming.{comes_wider}
use Rattle.dk_show.proofs.holds.of_own.Goals as goal

pub returns-then-not-is_own-clause-comes : goal.returns-then-not-is_own-clause-comes
returns-then-not-is_own-clause-comes c = λ told.
    inr (record {
      other = λ own. let is = c.is_own.ensures.1 own in let no = c.if-not-is_own.true in absurd (cc);
      says = (refl, refl);
    })

pub returns-clause-comes : goal.returns-clause-comes
returns-clause-comes c =
    let config = c.args.config.now in
    let j = c.args.ledger.now in
    let comes = subst (λ (rows : List Mutex). ComesTo (AreHoldsTold rows j) c.told_holds.result) c.mutex_rows.ensures c.told_holds.ensures.comes in
    comes_wider (AreHoldsTold config.mutexes j) (IsHeldUnder config j)
    (λ t s told. inl (record { own = c.is_own.ensures.0 c.if-not-is_own.false; told = told })) c.told_holds.result comes
