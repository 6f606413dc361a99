use Rattle.dk_cycle_start.proofs.Names.{◌≡◌, ◌∙◌, false, sym, is_stopped}
use Rattle.dk_cycle_start.proofs.Threads.{other-at, runs-at, there-later}
use Rattle.dk_cycle_start.proofs.alike.same_at.Goals as goal

pub same_contexts-requires-clause-late : goal.same_contexts-requires-clause-late
same_contexts-requires-clause-late c =
    let k = c.args.early.now in
    let p = c.args.process in
    let row = c.in-Some.row in
    let runs : is_stopped row.state ≡ false = sym c.is_stopped.ensures ∙ c.if-is_stopped.false in
    there-later k c.args.late.now p c.args.place row.id c.requires.comparable c.requires.known (runs-at k p c.args.place row c.in-Some.ensures.row runs) c.in-Some.ensures.there.process

pub returns-clause-only : goal.returns-clause-only
returns-clause-only c = λ no.
    let k = c.args.early.now in
    let p = c.args.process in
    let row = c.in-Some.row in
    let runs : is_stopped row.state ≡ false = sym c.is_stopped.ensures ∙ c.if-is_stopped.false in
    other-at k c.args.late.now p c.args.place row.id (runs-at k p c.args.place row c.in-Some.ensures.row runs) c.in-Some.ensures.there.process
    (λ same. let yes = c.same_contexts.ensures.only same in cc)
