use Rattle.dk_repeat_search.proofs.Names.{◌≡◌, ◌∙◌, true, false, Option, None, sym, subst, rules, is_some, ThreadState, IsThereIn, IsThreadAt}
use Rattle.dk_repeat_search.proofs.Shown.{thread-none, thread-some, thread-stopped}
use Rattle.dk_repeat_search.proofs.states.thread_at.Goals as goal

pub returns-in_err-row : goal.returns-in_err-row
returns-in_err-row c =
    let k = c.args.kernel.now in
    let none : c.from_residual.result ≡ None = search rules in
    subst (λ (o : Option ThreadState). IsThreadAt k c.args.process c.args.place o) (sym none) (thread-none k c.args.process c.args.place c.in_err-row.ensures.row)

pub returns-then-is_stopped : goal.returns-then-is_stopped
returns-then-is_stopped c =
    thread-stopped c.args.kernel.now c.args.process c.args.place c.in_ok-row.row c.in_ok-row.ensures.row (sym c.is_stopped.ensures ∙ c.if-is_stopped.true)

pub returns-in_err-context : goal.returns-in_err-context
returns-in_err-context c =
    let there : IsThereIn c.args.kernel.now c.args.process c.in_ok-row.row.id = c.in_ok-row.ensures.there in
    let some : is_some c.context.result ≡ true = c.context.ensures.there ∙ there.there in
    let none : is_some c.context.result ≡ false = search rules in
    absurd (cc)

pub returns : goal.returns
returns c =
    let there : IsThereIn c.args.kernel.now c.args.process c.in_ok-row.row.id = c.in_ok-row.ensures.there in
    thread-some c.args.kernel.now c.args.process c.args.place c.in_ok-row.row c.in_ok-context.context c.in_ok-row.ensures.row there.process c.in_ok-context.ensures.context
    (sym c.is_stopped.ensures ∙ c.if-is_stopped.false)
