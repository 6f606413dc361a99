use Rattle.dk_threads.proofs.Names.{◌∙◌, ap, sym, family_ended}
use Rattle.dk_threads.proofs.Families.{one-more}
use Rattle.dk_threads.proofs.threads.end_all.Goals as goal

pub loop-family-preserved : goal.loop-family-preserved
loop-family-preserved c =
    one-more (family_ended c.args.now) c.deref_mut-family-items.result.now c.loop-family.family-items c.loop-family.family-index c.family-item.result c.end_due.new.self
    c.loop-family-test.true c.loop-family.invariant c.family-item.is
    (c.end_due.ensures ∙ ap (family_ended c.args.now) (sym c.family-item.is))
