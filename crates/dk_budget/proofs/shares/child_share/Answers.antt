use Rattle.dk_budget.proofs.Names.{◌≤◌, sym, subst, ℕ, MAX_SPAN}
use Rattle.dk_budget.proofs.Finding.{share-few}
use Rattle.dk_budget.proofs.shares.child_share.Goals as goal

pub returns-then-is_in_force-clause-few : goal.returns-then-is_in_force-clause-few
returns-then-is_in_force-clause-few c =
    subst (λ (n : ℕ). n ≤ MAX_SPAN) (sym c.quota_at.ensures)
    (share-few c.args.periods.now.items c.args.main c.args.loan.now.level c.args.loan.now.quota c.requires.periods c.requires.main c.requires.level c.requires.short)
