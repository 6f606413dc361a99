use Rattle.dk_show.proofs.Names.{inl, inr, rules, IsHeldUnder, IsOfOwnHolds}
use Rattle.dk_show.proofs.Coming.{comes_wider}
use Rattle.dk_show.proofs.holds.of_own_bytes.Goals as goal

pub returns-in-Ok-clause-comes : goal.returns-in-Ok-clause-comes
returns-in-Ok-clause-comes c =
    let j = c.in-Ok.ledger in
    let read = c.in-Ok.ensures.ok in
    comes_wider (IsHeldUnder c.args.config.now j) (IsOfOwnHolds c.args.config.now c.args.bytes.now)
    (λ t s told. inr (record { ledger = j; readable = read.0; bytes_are = read.1; told = told })) c.of_own.result c.of_own.ensures.comes

pub returns-in-Err-Line-clause-comes : goal.returns-in-Err-Line-clause-comes
returns-in-Err-Line-clause-comes c = λ told.
    let n = c.in-Err-Line.line in
    let found = c.read_ledger.ensures.line n (cc) in
    inl (record { line = n; wrong = found.0; none = found.1; says = search rules })
