use Rattle.std.proofs.Common.{ℕ, subst, sym}
use Rattle.dk_ledger.specs.Readable.{IsNoText, IsWrongLine}
use Rattle.dk_review.proofs.running.run_of.Goals as goal

pub returns-in-Err-Line-clause-fault : goal.returns-in-Err-Line-clause-fault
returns-in-Err-Line-clause-fault c =
    let bytes = c.args.bytes.now in
    subst (λ (n : ℕ). IsWrongLine n bytes × IsNoText bytes) (sym c.in-Err-Line.line-is) (c.audit_bytes.ensures.line c.in-Err-Line.line (cc))
