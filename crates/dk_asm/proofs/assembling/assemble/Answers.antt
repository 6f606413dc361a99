use Rattle.dk_asm.proofs.Imports.{◌+◌, Outcome}
use Rattle.dk_asm.proofs.Outcomes.{one_outcome}
use Rattle.dk_asm.proofs.Sizes.{program_size}
use Rattle.dk_asm.proofs.assembling.assemble.Goals as goal

pub returns-in-Ok-clause-only : goal.returns-in-Ok-clause-only
returns-in-Ok-clause-only c = λ outcome is.
    let given = rw c.in-Ok.is at c.in_ok-code.ensures.outcome in
    one_outcome c.args.text.now (Outcome.program c.in-Ok.code.items) outcome given is

pub returns-in-Ok-clause-size : goal.returns-in-Ok-clause-size
returns-in-Ok-clause-size c =
    let given = rw c.in-Ok.is at c.in_ok-code.ensures.outcome in
    program_size c.args.text.now c.in-Ok.code.items given

pub returns-in-Ok-clause-one : goal.returns-in-Ok-clause-one
returns-in-Ok-clause-one c = one_outcome c.args.text.now

pub returns-in-Err-clause-only : goal.returns-in-Err-clause-only
returns-in-Err-clause-only c = λ outcome is.
    let given = rw c.in-Err.is at c.in_ok-code.ensures.outcome in
    one_outcome c.args.text.now (Outcome.fault (c.in-Err.line + 1) c.in-Err.cause) outcome given is

pub returns-in-Err-clause-one : goal.returns-in-Err-clause-one
returns-in-Err-clause-one c = one_outcome c.args.text.now

pub returns-in_err-code-clause-one : goal.returns-in_err-code-clause-one
returns-in_err-code-clause-one c = one_outcome c.args.text.now
