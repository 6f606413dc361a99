use Rattle.dk_needs_run.proofs.auditing.audit_in.Goals as goal

pub returns-in-Ok-Passed-clause-found : goal.returns-in-Ok-Passed-clause-found
returns-in-Ok-Passed-clause-found c = rw c.in-Ok-Passed.field-0-is at c.in-Ok-Passed.ensures.finding

pub returns-in-Ok-Label-clause-found : goal.returns-in-Ok-Label-clause-found
returns-in-Ok-Label-clause-found c = rw c.in-Ok-Label.field-0-is at c.in-Ok-Label.ensures.finding

pub returns-in-Ok-Event-clause-found : goal.returns-in-Ok-Event-clause-found
returns-in-Ok-Event-clause-found c = rw c.in-Ok-Event.field-0-is at c.in-Ok-Event.ensures.finding

pub returns-in-Ok-Header-clause-fault : goal.returns-in-Ok-Header-clause-fault
returns-in-Ok-Header-clause-fault c = rw c.in-Ok-Header.field-0-is at c.in-Ok-Header.ensures.finding

pub returns-in-Err-Line-clause-fault : goal.returns-in-Err-Line-clause-fault
returns-in-Err-Line-clause-fault c = c.audit_bytes.ensures.line c.in-Err-Line.line (cc)
