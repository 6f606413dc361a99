use Rattle.dk_repeat_search.proofs.Names.{◌≡◌, ◌∙◌, ◌-◌, ◌%◌, ap}
use Rattle.dk_repeat_search.proofs.Looking.{done-for, looked-for, wait-same, waits-for}
use Rattle.dk_repeat_search.proofs.search.look_at.Goals as goal

pub returns-then-is_done-clause-looked : goal.returns-then-is_done-clause-looked
returns-then-is_done-clause-looked c =
    done-for c.args.kernel.now c.args.search.now c.found_law.ensures.later c.requires.own _ (c.is_done.ensures c.if-is_done.true)

pub returns-then-wait-search-clause-looked : goal.returns-then-wait-search-clause-looked
returns-then-wait-search-clause-looked c =
    let k = c.args.kernel.now in
    let old = c.args.search.now in
    let new = c.look_now.new.search in
    let wait-is : c.wait-wait.result ≡ old.period - k.ticks % old.period = c.wait-wait.ensures.is ∙ ap (λ n. old.period - n % old.period) c.requires.tick in
    looked-for k new c.found_law.ensures.later c.in_ok-look_now.ensures.own c.wait-wait.result
    (wait-same k old new c.wait-wait.result c.requires.own c.in_ok-look_now.ensures.own c.in_ok-look_now.ensures.same wait-is) c.in_ok-look_now.ensures.looked

pub returns-clause-looked : goal.returns-clause-looked
returns-clause-looked c =
    let k = c.args.kernel.now in
    let old = c.args.search.now in
    let wait-is : c.wait-wait.result ≡ old.period - k.ticks % old.period = c.wait-wait.ensures.is ∙ ap (λ n. old.period - n % old.period) c.requires.tick in
    waits-for k old c.found_law.ensures.later c.requires.own c.wait-wait.result wait-is c.if-wait-search.false c.requires.looked
