use Rattle.dk_command.proofs.Names.{refl, rules}
use Rattle.dk_command.proofs.ledgers.ledger_work.Goals as goal

pub returns-in-Err-Line-clause-does : goal.returns-in-Err-Line-clause-does
returns-in-Err-Line-clause-does c =
    let wrong = c.text_of_ledger.ensures.line c.in-Err-Line.line (search rules) in
    (refl, λ quiet. wrong)
