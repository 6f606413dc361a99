use Rattle.dk_repeat_search.proofs.Names.{◌≡◌, ◌+◌, ◌%◌, sym, subst, arith, IsMainState, IsOwnSearch, HasLooked}
use Rattle.dk_repeat_search.proofs.Looking.{passes}
use Rattle.dk_repeat_search.proofs.search.look_now.Goals as goal

pub returns-then-not-is_worth-clause-looked : goal.returns-then-not-is_worth-clause-looked
returns-then-not-is_worth-clause-looked c =
    passes c.args.kernel.now c.args.search.now c.found_law.ensures.past c.requires.own (c.is_worth.ensures c.if-not-is_worth.true) c.requires.looked

pub returns-in-None-clause-looked : goal.returns-in-None-clause-looked
returns-in-None-clause-looked c =
    let k = c.args.kernel.now in
    let known = c.requires.own.known in
    let each = c.requires.each in
    let some = rw c.in-None.is at (c.in_ok-main_state.ensures.there (omega (arith, known, each))) in
    absurd (cc)

pub returns-in-Some-clause-looked : goal.returns-in-Some-clause-looked
returns-in-Some-clause-looked c =
    let k = c.args.kernel.now in
    let old = c.args.search.now in
    let now = c.in-Some.now in
    let ruled = c.dispatcher.ensures.ruled in
    let tick : now.tick ≡ k.ticks = rw c.in-Some.is at c.in_ok-main_state.ensures.tick in
    let state : IsMainState k.config k.programs old.process now = rw c.in-Some.is at c.in_ok-main_state.ensures.is in
    let begins : k.ticks % old.period ≡ 0 = subst (λ n. n % old.period ≡ 0) c.requires.tick c.requires.begins in
    subst (λ n. HasLooked k.config k.programs (n + 1) c.look.new.self) tick
    (c.look.ensures.looked k.config k.programs ruled.checked ruled.accepted (subst (λ n. IsOwnSearch k.config k.programs n old) (sym tick) c.requires.own) state
    (subst (λ n. n % old.period ≡ 0) (sym tick) begins) (subst (λ n. HasLooked k.config k.programs n old) (sym tick) c.requires.looked))
