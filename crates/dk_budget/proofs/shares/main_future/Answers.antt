use Rattle.dk_budget.proofs.Names.{◌≡◌, ◌∙◌, ap, sym, true, false, arith, nat_le, if◌then◌else◌, nat_tests, main_share, sum_starts}
use Rattle.dk_budget.proofs.Counting.{over-starts}
use Rattle.dk_budget.proofs.Finding.{period-short}
use Rattle.dk_budget.proofs.shares.main_future.Goals as goal

pub returns-then-lender-last-clause-sum : goal.returns-then-lender-last-clause-sum
returns-then-lender-last-clause-sum c =
    let x = c.args.lender.now in
    let slower : nat_le x.level c.args.last ≡ false = grind (arith, nat_tests) in
    sym (ap (λ b. if b then sum_starts c.args.windows.now x.level c.args.last (main_share x) else 0) slower)

pub to_come-requires-clause-short : goal.to_come-requires-clause-short
to_come-requires-clause-short c = period-short c.args.windows.now.periods c.args.last c.requires.periods c.requires.last

pub main_over-requires-clause-short : goal.main_over-requires-clause-short
main_over-requires-clause-short c =
    omega (arith, c.requires.sound.short, period-short c.args.windows.now.periods c.args.lender.now.level c.requires.periods c.requires.sound.level)

pub returns-clause-sum : goal.returns-clause-sum
returns-clause-sum c =
    let x = c.args.lender.now in
    let w = c.args.windows.now in
    let inside : nat_le x.level c.args.last ≡ true = grind (arith, nat_tests) in
    c.main_over.ensures.sum
    ∙ over-starts c.to_come.result w x.level c.args.last (main_share x) c.to_come.ensures.first c.to_come.ensures.period c.to_come.ensures.count
    ∙ sym (ap (λ b. if b then sum_starts w x.level c.args.last (main_share x) else 0) inside)
