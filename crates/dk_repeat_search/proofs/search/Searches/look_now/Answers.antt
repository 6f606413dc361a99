use Rattle.dk_repeat_search.proofs.Names.{◌≡◌, ◌∙◌, ◌+◌, ◌%◌, length, sym, subst, arith, rules, IsRunSearch, IsWholeState, HasLookedAtRun}
use Rattle.dk_repeat_search.proofs.Looking.{run-passes}
use Rattle.dk_repeat_search.proofs.Places.{many-own}
use Rattle.dk_repeat_search.proofs.search.Searches.look_now.Goals as goal

pub overflow_cast-processes : goal.overflow_cast-processes
overflow_cast-processes c =
    let k = c.args.kernel.now in
    let counted : c.len-processes.result ≡ length c.args.self.now.own.items = search rules in
    let many = many-own k.config k.programs k.ticks c.args.self.now.own.items c.requires.is.own in
    let few = c.dispatcher.ensures.ruled.limits.few_processes in
    omega (arith, counted, many, few)

pub is_worth-requires-clause-all : goal.is_worth-requires-clause-all
is_worth-requires-clause-all c =
    let k = c.args.kernel.now in
    let counted : c.len-processes.result ≡ length c.args.self.now.own.items = search rules in
    counted ∙ many-own k.config k.programs k.ticks c.args.self.now.own.items c.requires.is.own

pub run_state-requires : goal.run_state-requires
run_state-requires c =
    let k = c.args.kernel.now in
    let counted : c.len-processes.result ≡ length c.args.self.now.own.items = search rules in
    counted ∙ many-own k.config k.programs k.ticks c.args.self.now.own.items c.requires.is.own

pub returns-then-not-is_worth-clause-looked : goal.returns-then-not-is_worth-clause-looked
returns-then-not-is_worth-clause-looked c =
    let ruled = c.dispatcher.ensures.ruled in
    run-passes c.args.kernel.now c.args.self.now.run c.found_law.ensures.run_past c.found_law.ensures.process_past ruled.checked ruled.accepted
    (c.is_worth.ensures c.if-not-is_worth.true) c.requires.looked

pub returns-in-None-clause-looked : goal.returns-in-None-clause-looked
returns-in-None-clause-looked c =
    let k = c.args.kernel.now in
    let counted : c.len-processes.result ≡ length c.args.self.now.own.items = search rules in
    let many = many-own k.config k.programs k.ticks c.args.self.now.own.items c.requires.is.own in
    let each = c.requires.is.each in
    let some = rw c.in-None.is at (c.in_ok-run_state.ensures.there (omega (arith, counted, many, each))) in
    absurd (cc)

pub returns-in-Some-clause-looked : goal.returns-in-Some-clause-looked
returns-in-Some-clause-looked c =
    let k = c.args.kernel.now in
    let old = c.args.self.now.run in
    let now = c.in-Some.now in
    let ruled = c.dispatcher.ensures.ruled in
    let tick : now.tick ≡ k.ticks = rw c.in-Some.is at c.in_ok-run_state.ensures.tick in
    let state : IsWholeState k.config k.programs now = rw c.in-Some.is at c.in_ok-run_state.ensures.is in
    let begins : k.ticks % old.longest ≡ 0 = subst (λ n. n % old.longest ≡ 0) c.requires.tick c.requires.begins in
    subst (λ n. HasLookedAtRun k.config k.programs n (n + 1) c.look.new.self) tick
    (c.look.ensures.looked k.config k.programs ruled.checked ruled.accepted (subst (λ n. IsRunSearch k.config k.programs n old) (sym tick) c.requires.is.run) state
    (subst (λ n. n % old.longest ≡ 0) (sym tick) begins) (subst (λ n. HasLookedAtRun k.config k.programs n n old) (sym tick) c.requires.looked))
