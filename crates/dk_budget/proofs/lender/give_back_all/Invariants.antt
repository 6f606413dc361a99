use Rattle.dk_budget.proofs.Names.{◌≡◌, ◌++◌, map, take, drop, given_back}
use Rattle.dk_budget.proofs.lender.give_back_all.Given as goal

abbrev pub invariant-loop-lender : goal.invariant-loop-lender
invariant-loop-lender l = l.lenders ≡ map (given_back l.tick) (take l.lender-index l.initial.lenders) ++ drop l.lender-index l.initial.lenders
