use Rattle.dk_kernel.proofs.Stepped.{few-in-all, is-shut, runs-on}
use Rattle.dk_kernel.proofs.step.take_tick.Goals as goal

pub open-requires : goal.open-requires
open-requires g c = is-shut c.book.new.entry c.book.new.tables c.close.new.self c.close.ensures.past

pub returns-clause-running : goal.returns-clause-running
returns-clause-running g c =
    runs-on c.args.tables.now c.book.new.tables c.close.new.self c.open.new.self c.args.images.now c.book.new.images c.book.new.entry c.args.steps.now c.book.new.steps
    c.requires.running c.book.ensures c.close.ensures.past c.open.ensures.past c.close.ensures.rows c.open.ensures.rows

pub returns-clause-few : goal.returns-clause-few
returns-clause-few g c =
    few-in-all c.args.tables.now c.book.new.tables c.close.new.self c.open.new.self c.args.images.now c.book.new.images c.book.new.entry c.args.steps.now c.book.new.steps
    c.requires.running c.book.ensures c.close.ensures.past c.open.ensures.past c.open.new.steps c.open.ensures.steps
