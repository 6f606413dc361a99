use Rattle.dk_kernel.proofs.Names.{◌∙◌, ap, label_of, work_done, outcome_at}
use Rattle.dk_kernel.proofs.Turned.{ending, may-effect, turned-broken, turned-whole}
use Rattle.dk_kernel.proofs.turn.take_turn.Goals as goal

pub stop-requires : goal.stop-requires
stop-requires g c =
    let x = c.args.turn.executor in
    ending x c.args.tables.now c.charge.new.self c.args.image.now c.requires.may c.charge.ensures.past c.args.breaks c.requires.breaks c.label-entry.result
    (c.label-entry.ensures ∙ ap (label_of c.args.turn.choice) c.work_to_come.ensures ∙ ap (λ z. label_of z (work_done (outcome_at x c.args.image.now))) c.requires.chosen)
    c.if-breaks.true

pub returns-then-breaks : goal.returns-then-breaks
returns-then-breaks g c =
    let x = c.args.turn.executor in
    turned-broken x c.args.tables.now c.charge.new.self c.args.image.now c.requires.may c.charge.ensures.past c.args.breaks c.requires.breaks
    c.label-entry.result c.stop.new.self c.args.steps.now c.charge.new.steps c.stop.new.steps
    (c.label-entry.ensures ∙ ap (label_of c.args.turn.choice) c.work_to_come.ensures ∙ ap (λ z. label_of z (work_done (outcome_at x c.args.image.now))) c.requires.chosen)
    c.if-breaks.true c.charge.ensures.rows c.charge.ensures.steps c.stop.ensures.past c.stop.ensures.rows c.stop.ensures.steps

pub execute-requires-clause-may : goal.execute-requires-clause-may
execute-requires-clause-may g c =
    may-effect c.args.turn.executor c.args.tables.now c.charge.new.self c.args.image.now c.requires.may c.charge.ensures.past c.args.breaks c.requires.breaks
    c.if-breaks.false

pub returns-else-breaks : goal.returns-else-breaks
returns-else-breaks g c =
    turned-whole c.args.turn.executor c.args.tables.now c.charge.new.self c.args.image.now c.requires.may c.charge.ensures.past c.args.breaks c.requires.breaks
    c.execute.new.entry.label c.execute.new.entry.event c.execute.new.tables c.execute.new.image c.args.steps.now c.charge.new.steps c.execute.new.steps
    c.if-breaks.false c.execute.ensures.label c.charge.ensures.rows c.charge.ensures.steps c.execute.ensures.did
