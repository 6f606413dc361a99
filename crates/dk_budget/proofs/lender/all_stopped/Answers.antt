use Rattle.dk_budget.proofs.Names.{option_to_list, length, take, ap, arith, filter_map, append-nil, ArrayVec, Loan, stopped}
use Rattle.dk_budget.proofs.Kept.{filter_map_more, no_loan}
use Rattle.dk_budget.proofs.lender.all_stopped.Goals as goal
use Rattle.dk_budget.proofs.lender.all_stopped.Goals.{in-Some, in_default}

pub loop-loan-preserved : goal.loop-loan-preserved
loop-loan-preserved c =
    let loans = c.as_slice-loan-items.result.now in
    let more = filter_map_more (stopped c.args.windows.now) loans c.loop-loan.loan-index no_loan c.loop-loan-test.true in
    elim c.match-stopped.branch [
      | in-Some w ↦
          let kept = ap option_to_list w.in-Some.ensures in
          let size = ap (λ (v : ArrayVec Loan). length v.items) w.rest-is in
          record { part = cc; few = omega (arith, size) }
      | in_default w ↦
          let size = ap (λ (v : ArrayVec Loan). length v.items) w.rest-is in
          let none = ap option_to_list w.in_default.ensures in
          let all = append-nil (filter_map (stopped c.args.windows.now) (take c.loop-loan.loan-index loans)) in
          record { part = cc; few = omega (arith, size) }
    ]
