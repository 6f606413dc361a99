use Rattle.dk_budget.proofs.Names.{◌≡◌, ◌≤◌, ◌*◌, ◌∙◌, ap, sym, subst, true, false, ℕ, List, arith, mul-le-mul, nat_le, if◌then◌else◌, nat_tests, MAX_SPAN, quota_at, child_share, sum_starts, period_in}
use Rattle.dk_budget.proofs.Finding.{period-short, share-few}
use Rattle.dk_budget.proofs.Counting.{amount-times, over-starts}
use Rattle.dk_budget.proofs.shares.child_future.Goals as goal

pub overflow_mul-result : goal.overflow_mul-result
overflow_mul-result c =
    let share : c.quota_at.result ≤ MAX_SPAN = subst (λ n. n ≤ MAX_SPAN) (sym c.quota_at.ensures)
    (share-few c.args.periods.now.items c.args.main c.args.loan.now.level c.args.loan.now.quota c.requires.periods c.requires.main c.requires.level c.requires.short) in
    let times : c.in_force.result ≤ MAX_SPAN = omega arith in
    omega (arith, mul-le-mul share times)

pub returns-clause-few : goal.returns-clause-few
returns-clause-few c =
    let share : c.quota_at.result ≤ MAX_SPAN = subst (λ n. n ≤ MAX_SPAN) (sym c.quota_at.ensures)
    (share-few c.args.periods.now.items c.args.main c.args.loan.now.level c.args.loan.now.quota c.requires.periods c.requires.main c.requires.level c.requires.short) in
    let times : c.in_force.result ≤ MAX_SPAN = omega arith in
    omega (arith, mul-le-mul share times)

pub returns-clause-sum : goal.returns-clause-sum
returns-clause-sum c =
    let starts = c.to_come-starts.result in
    let l = c.args.loan.now in
    let amount = quota_at c.args.periods.now.items c.args.main l.level l.quota in
    let inside : nat_le l.level c.args.last ≡ true = grind (arith, nat_tests) in
    let shares = child_share c.args.periods.now.items c.args.main l in
    ap (λ n. n * c.in_force.result) c.quota_at.ensures
    ∙ ap (λ n. amount * n) c.in_force.ensures.sum
    ∙ sym (amount-times starts amount l)
    ∙ over-starts starts c.args.windows.now l.level c.args.last shares c.to_come-starts.ensures.first c.to_come-starts.ensures.period c.to_come-starts.ensures.count
    ∙ sym (ap (λ b. if b then sum_starts c.args.windows.now l.level c.args.last shares else 0) inside)

pub returns-then-loan-last-clause-sum : goal.returns-then-loan-last-clause-sum
returns-then-loan-last-clause-sum c =
    let l = c.args.loan.now in
    let slower : nat_le l.level c.args.last ≡ false = grind (arith, nat_tests) in
    let shares = child_share c.args.periods.now.items c.args.main l in
    sym (ap (λ b. if b then sum_starts c.args.windows.now l.level c.args.last shares else 0) slower)

pub to_come-starts-requires-clause-short : goal.to_come-starts-requires-clause-short
to_come-starts-requires-clause-short c =
    let periods = c.args.periods.now.items in
    subst (λ (ps : List ℕ). period_in ps c.args.last ≤ MAX_SPAN) (sym c.requires.same_levels) (period-short periods c.args.last c.requires.periods c.requires.last)
