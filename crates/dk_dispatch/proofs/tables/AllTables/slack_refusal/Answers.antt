use Rattle.dk_dispatch.proofs.Names.{ℕ, ◌≡◌, ◌≤◌, ◌∙◌, true, false, None, Some, eqb, ltb, rules, sym, refl, arith, nat_tests, ThreadId, Refusal, Tables, has_right, slack_refusal_in}
use Rattle.dk_dispatch.proofs.tables.AllTables.slack_refusal.Goals as goal

not-refused : (d : Tables) (x : ThreadId) (amount : ℕ) → has_right d x.process ≡ true → (amount ≡ 0 → ⊥) → amount ≤ 1000000 → slack_refusal_in d x amount ≡ None
not-refused d x amount right some few =
    let zero : eqb amount 0 ≡ false = grind (arith, nat_tests) in
    let above : ltb 1000000 amount ≡ false = grind (arith, nat_tests) in
    rw (right, zero, above) refl

no-right : (d : Tables) (x : ThreadId) (amount : ℕ) → has_right d x.process ≡ false → slack_refusal_in d x amount ≡ Some Refusal.NoRight
no-right d x amount none = rw none refl

pub returns-then-not-has_right : goal.returns-then-not-has_right
returns-then-not-has_right c =
    sym (no-right c.args.self.now c.args.id c.args.amount (sym c.has_right.ensures ∙ c.if-not-has_right.true))

pub returns-else-amount-gt-MAX_SPAN : goal.returns-else-amount-gt-MAX_SPAN
returns-else-amount-gt-MAX_SPAN c =
    let right : has_right c.args.self.now c.args.id.process ≡ true = sym c.has_right.ensures ∙ c.if-not-has_right.false in
    sym (not-refused c.args.self.now c.args.id c.args.amount right (search rules) (search rules))
