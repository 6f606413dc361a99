use Rattle.dk_audit.proofs.Names.{◌∙◌, subst, sym, MayHave, work_of}
use Rattle.dk_audit.proofs.Events.{no-event}
use Rattle.dk_audit.proofs.booking.owner_of.Goals as goal

pub unreachable-requires : goal.unreachable-requires
unreachable-requires c =
    no-event c.args.entry.label c.args.event (sym c.thread.ensures ∙ c.in-None.is) (subst (MayHave (work_of c.args.entry.label)) c.requires.ends c.requires.may)
