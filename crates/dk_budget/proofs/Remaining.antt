-- Loans of which none ends stay as they are.
use Rattle.dk_budget.proofs.Names.{◌≡◌, ℕ, false, List, [], ◌∷◌, refl, list_any, Loan, is_ended_at, not_ended_at, nat_tests, arith}

pub none-ends : (now : ℕ) (loans : List Loan) → list_any (is_ended_at now) loans ≡ false → not_ended_at now loans ≡ loans
none-ends now [] none = refl
none-ends now (loan ∷ loans) none = grind (arith, nat_tests, none-ends now loans)
