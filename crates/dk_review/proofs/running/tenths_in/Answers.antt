use Rattle.dk_review.proofs.running.tenths_in.Goals as goal

pub returns-in-Err-Line-clause-fault : goal.returns-in-Err-Line-clause-fault
returns-in-Err-Line-clause-fault c = c.tenths_csv.ensures.line c.in-Err-Line.line (cc)
