use Rattle.dk_repeat_search.proofs.Names.{◌≡◌, ◌∙◌, subst, IfSome, ThreadId, trace_of, world_of}
use Rattle.dk_repeat_search.proofs.Shown.{main-row, main-there}
use Rattle.dk_repeat_search.proofs.states.main_context.Goals as goal

pub returns-in-None-clause-there : goal.returns-in-None-clause-there
returns-in-None-clause-there c =
    let k = c.args.kernel.now in
    let p = c.args.process in
    let ruled = c.dispatcher.ensures.ruled in
    let stands = c.rows_law.ensures.families k.config (trace_of k) ruled.checked ruled.accepted ruled.audited p c.requires in
    absurd (main-there k p stands c.in-None.ensures.row)

pub returns-in-Some-clause-is : goal.returns-in-Some-clause-is
returns-in-Some-clause-is c =
    let k = c.args.kernel.now in
    let p = c.args.process in
    let ruled = c.dispatcher.ensures.ruled in
    let stands = c.rows_law.ensures.families k.config (trace_of k) ruled.checked ruled.accepted ruled.audited p c.requires in
    subst (λ (x : ThreadId). IfSome c.context.result (λ z. z ≡ ((world_of k).images x.process).contexts x.serial)) (main-row k p c.in-Some.row stands c.in-Some.ensures.row)
    c.context.ensures.context

pub returns-in-Some-clause-there : goal.returns-in-Some-clause-there
returns-in-Some-clause-there c = c.context.ensures.there ∙ c.in-Some.ensures.there.there
