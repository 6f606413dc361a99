use Rattle.dk_needs_run.proofs.reading.report_of.Goals as goal

pub returns-in-Err-Line-clause-fault : goal.returns-in-Err-Line-clause-fault
returns-in-Err-Line-clause-fault c = c.of.ensures.line c.in-Err-Line.line (cc)
