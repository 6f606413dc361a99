use Rattle.dk_show.proofs.Names.{inl, rules}
use Rattle.dk_show.proofs.reactions.of_bytes.Goals as goal

pub returns-in-Err-Line-clause-comes : goal.returns-in-Err-Line-clause-comes
returns-in-Err-Line-clause-comes c = λ told.
    let n = c.in-Err-Line.line in
    let found = c.read_ledger.ensures.line n (cc) in
    inl (record { line = n; wrong = found.0; none = found.1; says = search rules })
