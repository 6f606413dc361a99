use Rattle.dk_review.proofs.running.windows_in.Goals as goal

pub returns-in-Err-Line-clause-fault : goal.returns-in-Err-Line-clause-fault
returns-in-Err-Line-clause-fault c = c.windows_of.ensures.line c.in-Err-Line.line (cc)
