use Rattle.dk_cycle_start.proofs.Names.{rules, ◌≡◌, true, false}
use Rattle.dk_cycle_start.proofs.Walking.{answered, comparable, shut-now}
use Rattle.dk_cycle_start.proofs.walk.stands_again.Goals as goal

pub returns-then-not-is_open : goal.returns-then-not-is_open
returns-then-not-is_open c =
    let shut : c.is_open.result ≡ false = search rules in
    let ruled = c.dispatcher.ensures.ruled in
    shut-now c.args.early.now c.args.late.now c.args.cycle c.args.search.now c.now.result c.now-2.result c.now.ensures.ticks c.now-2.ensures.ticks c.requires.later
    c.requires.is c.requires.has ruled.checked ruled.accepted c.requires.cycle (c.is_open.ensures.shuts shut)

pub are_alike-requires-clause-comparable : goal.are_alike-requires-clause-comparable
are_alike-requires-clause-comparable c =
    let is-open : c.is_open.result ≡ true = search rules in
    comparable c.args.early.now c.args.late.now c.args.cycle c.args.search.now c.now.result c.now-2.result c.now.ensures.ticks c.now-2.ensures.ticks c.requires.later
    c.requires.is c.requires.has (c.is_open.ensures.opens is-open)

pub returns : goal.returns
returns c =
    let is-open : c.is_open.result ≡ true = search rules in
    answered c.args.early.now c.args.late.now c.args.cycle c.args.search.now c.now.result c.now-2.result c.now.ensures.ticks c.now-2.ensures.ticks c.requires.later c.requires.is
    c.requires.has c.requires.cycle (c.is_open.ensures.opens is-open) c.are_alike.result c.are_alike.ensures.same c.are_alike.ensures.only
