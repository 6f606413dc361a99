use Rattle.dk_command.proofs.Names.{refl, rules}
use Rattle.dk_command.proofs.auditing.audit_work.Goals as goal

pub returns-in-Err-Line-clause-does : goal.returns-in-Err-Line-clause-does
returns-in-Err-Line-clause-does c =
    let wrong = c.audit_bytes.ensures.line c.in-Err-Line.line (search rules) in
    (refl, λ quiet. rw (← c.in-Err-Line.line-is) at wrong)
