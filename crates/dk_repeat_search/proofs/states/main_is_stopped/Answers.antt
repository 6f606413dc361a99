use Rattle.dk_repeat_search.proofs.Names.{◌∙◌, trace_of}
use Rattle.dk_repeat_search.proofs.Shown.{main-state, main-there}
use Rattle.dk_repeat_search.proofs.states.main_is_stopped.Goals as goal

pub returns-in-None-clause-there : goal.returns-in-None-clause-there
returns-in-None-clause-there c =
    let k = c.args.kernel.now in
    let p = c.args.process in
    let ruled = c.dispatcher.ensures.ruled in
    let stands = c.rows_law.ensures.families k.config (trace_of k) ruled.checked ruled.accepted ruled.audited p c.requires in
    absurd (main-there k p stands c.in-None.ensures.row)

pub returns-in-Some-clause-is : goal.returns-in-Some-clause-is
returns-in-Some-clause-is c =
    let k = c.args.kernel.now in
    let p = c.args.process in
    let ruled = c.dispatcher.ensures.ruled in
    let stands = c.rows_law.ensures.families k.config (trace_of k) ruled.checked ruled.accepted ruled.audited p c.requires in
    c.is_stopped.ensures ∙ main-state k p c.in-Some.row stands c.in-Some.ensures.row
