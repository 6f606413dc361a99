use Rattle.std.proofs.Common.{rules, ◌≡◌, ◌+◌, ◌≤◌, true, false, arith}
use Rattle.dk_growth.proofs.Searching.{at_first, each_less, found, none_grows, not_as_it_is}
use Rattle.dk_growth.proofs.growing.greatest_growth.Goals as goal

pub returns-then-not-stands_grown-clause-greatest : goal.returns-then-not-stands_grown-clause-greatest
returns-then-not-stands_grown-clause-greatest c =
    let no : c.stands_grown.result ≡ false = search rules in
    none_grows c.args.config.now c.requires.unbroken (c.stands_grown.ensures.fails no)

pub returns-then-not-stands_grown-clause-none : goal.returns-then-not-stands_grown-clause-none
returns-then-not-stands_grown-clause-none c =
    let no : c.stands_grown.result ≡ false = search rules in
    not_as_it_is c.args.config.now c.requires.unbroken (c.stands_grown.ensures.fails no)

pub loop-most-init : goal.loop-most-init
loop-most-init c =
    let yes : c.stands_grown.result ≡ true = search rules in
    at_first c.args.config.now c.requires.unbroken (c.stands_grown.ensures.stands yes)

pub returns-clause-greatest : goal.returns-clause-greatest
returns-clause-greatest c =
    let last : c.loop-most.too_many ≤ c.loop-most.most + 1 = omega arith in
    found c.args.config.now c.requires.unbroken c.loop-most.most c.loop-most.too_many c.loop-most.invariant last

pub returns-clause-each : goal.returns-clause-each
returns-clause-each c =
    each_less c.args.config.now c.requires.unbroken c.loop-most.most c.loop-most.too_many c.loop-most.invariant
