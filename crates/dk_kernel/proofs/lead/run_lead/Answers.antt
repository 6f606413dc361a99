use Rattle.dk_kernel.proofs.Names.{◌∙◌, sym, ne_eqb, held_by, context_at, outcome_at}
use Rattle.dk_kernel.proofs.Turned.{breaks-not}
use Rattle.dk_kernel.proofs.lead.run_lead.Goals as goal

pub take_turn-requires-clause-breaks : goal.take_turn-requires-clause-breaks
take_turn-requires-clause-breaks g c =
    let p = c.args.tables.now.past in
    let x = c.args.executor in
    sym (ne_eqb c.args.left 1 c.if-left-eq1.false)
    ∙ breaks-not p.config (held_by x.thread p.entries) (context_at c.args.image.now x.slot) (outcome_at x c.args.image.now) c.args.left
    c.requires.left c.if-left-eq1.false
