use Rattle.dk_threads.proofs.Names.{◌∙◌, ap, sym, family_started}
use Rattle.dk_threads.proofs.Families.{one-more}
use Rattle.dk_threads.proofs.threads.start_all.Goals as goal

pub loop-family-preserved : goal.loop-family-preserved
loop-family-preserved c =
    one-more (family_started c.args.now) c.deref_mut-family-items.result.now c.loop-family.family-items c.loop-family.family-index c.family-item.result c.start_due.new.self
    c.loop-family-test.true c.loop-family.invariant c.family-item.is
    (c.start_due.ensures ∙ ap (family_started c.args.now) (sym c.family-item.is))
