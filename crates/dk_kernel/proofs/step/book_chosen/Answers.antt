use Rattle.dk_kernel.proofs.Names.{◌≡◌, ◌∙◌, Some, ap, sym, get_or_default, executes, choice_at, Executor, breaks_at}
use Rattle.dk_kernel.proofs.Stepped.{may-turn, turn-booked, within}
use Rattle.dk_kernel.proofs.step.book_chosen.Goals as goal

pub take_turn-requires-clause-may : goal.take_turn-requires-clause-may
take_turn-requires-clause-may g c =
    let x : Executor = record { thread = c.in-Some.thread; slot = c.slot_of-slot.result; cost = c.args.cost } in
    let runs : executes (choice_at c.args.tables.now.past) ≡ Some x.thread =
    ap executes (sym c.choose-choice.ensures.chosen) ∙ sym c.who_executes.ensures ∙ c.in-Some.is in
    may-turn x c.args.tables.now c.args.images.now c.index-images-process-in-Some.result c.requires c.entries_follow.ensures c.step_law.ensures runs c.slot_of-slot.ensures

pub take_turn-requires-clause-breaks : goal.take_turn-requires-clause-breaks
take_turn-requires-clause-breaks g c =
    let x : Executor = record { thread = c.in-Some.thread; slot = c.slot_of-slot.result; cost = c.args.cost } in
    let runs : executes (choice_at c.args.tables.now.past) ≡ Some x.thread =
    ap executes (sym c.choose-choice.ensures.chosen) ∙ sym c.who_executes.ensures ∙ c.in-Some.is in
    let first = c.index-images-process.result in
    let second = c.index-images-process-in-Some.result in
    let below = within x c.args.tables.now c.args.images.now first c.requires c.entries_follow.ensures c.step_law.ensures runs c.slot_of-slot.ensures in
    c.breaks_hold-breaks.ensures
    ∙ ap (breaks_at x c.args.tables.now.past) (get_or_default c.args.images.now x.thread.process first second below)

pub returns-in-Some : goal.returns-in-Some
returns-in-Some g c =
    let x : Executor = record { thread = c.in-Some.thread; slot = c.slot_of-slot.result; cost = c.args.cost } in
    let runs : executes (choice_at c.args.tables.now.past) ≡ Some x.thread =
    ap executes (sym c.choose-choice.ensures.chosen) ∙ sym c.who_executes.ensures ∙ c.in-Some.is in
    turn-booked x c.args.tables.now c.args.images.now c.index-images-process-in-Some.result c.requires c.entries_follow.ensures c.step_law.ensures runs c.slot_of-slot.ensures
    c.take_turn.new.tables c.take_turn.new.image c.take_turn.new.entry c.args.steps.now c.choose-choice.new.steps c.take_turn.new.steps
    c.choose-choice.ensures.steps c.take_turn.ensures
