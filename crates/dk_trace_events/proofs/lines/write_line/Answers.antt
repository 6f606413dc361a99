use Rattle.std.proofs.Common.{refl, rules}
use Rattle.std.specs.Prelude.{IsErr}
use Rattle.dk_outside.proofs.WrittenLemmas.{first_fails, second_ends}
use Rattle.dk_trace_events.specs.Behind.{line_text, past_of}
use Rattle.dk_trace_events.specs.HoldSlices.{ended_holds}
use Rattle.dk_trace_events.specs.Names.{made_name}
use Rattle.dk_trace_events.proofs.lines.write_line.Goals as goal

pub returns-in_err-write_made : goal.returns-in_err-write_made
returns-in_err-write_made g c = λ before holders.
    let h = c.args.header.now in
    let l = c.args.line in
    let fails : IsErr c.from_residual.result = search rules in
    first_fails (made_name h l) (ended_holds h c.args.from (past_of before) l) (line_text h c.args.from before l) refl
    _ _ _ c.from_residual.result fails c.in_err-write_made.ensures

pub returns : goal.returns
returns g c = λ before holders.
    let h = c.args.header.now in
    let l = c.args.line in
    second_ends (made_name h l) (ended_holds h c.args.from (past_of before) l) (line_text h c.args.from before l) refl
    _ _ _ _ c.write_ended_holds.result c.in_ok-write_made.ensures (c.write_ended_holds.ensures (past_of before) holders)
