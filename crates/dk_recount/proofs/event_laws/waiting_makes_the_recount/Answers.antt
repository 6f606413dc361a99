use Rattle.dk_recount.proofs.Names.{Laws}
use Rattle.dk_recount.proofs.Call.Wait.{waits}
use Rattle.dk_recount.proofs.event_laws.waiting_makes_the_recount.Goals as goal

pub returns : goal.returns
returns c =
    let shared : Laws = c.stopping_laws.ensures in
    waits (record {
      caller = c.caller_laws.ensures;
      shared = shared;
      nest = c.nesting_law.ensures;
      one = c.event_cases_law.ensures.one;
      cells = c.call_keeps_the_recount.ensures;
      innermost = c.holds_are_the_pasts.ensures.innermost;
    })
