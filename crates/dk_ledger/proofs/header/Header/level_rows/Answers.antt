use Rattle.dk_ledger.proofs.Names.{◌≡◌, ◌∙◌, ap, length, take, arith, nat_tests}
use Rattle.dk_ledger.proofs.NameLemmas.{take_all}
use Rattle.dk_ledger.proofs.header.Header.level_rows.Goals as goal

pub loop-level-preserved : goal.loop-level-preserved
loop-level-preserved c = grind (arith, nat_tests)

pub returns : goal.returns
returns c =
    let all : c.loop-level.level ≡ length c.args.table.now = omega arith in
    c.loop-level.invariant ∙ ap (λ n. take n c.args.table.now) all ∙ take_all c.args.table.now
