use Rattle.dk_dispatch.proofs.Names.{ℕ, zero, suc, ◌≡◌, ◌<◌, Bool, true, false, None, [], ◌∷◌, sym, refl, arith, ◌==◌, ◌||◌, nat_lt, Refusal, first_refusal, has_right}
use Rattle.std.specs.Prelude.{not}
use Rattle.dk_dispatch.proofs.tables.AllTables.ask.Goals as goal

-- who asks for nothing is refused
some-asked : (right : Bool) (amount : ℕ)
    → first_refusal ((not right, Refusal.NoRight) ∷ ((amount == 0) || nat_lt 1000000 amount, Refusal.Amount) ∷ []) ≡ None → 0 < amount
some-asked false amount none = absurd (cc)
some-asked true zero none = absurd (cc)
some-asked true (suc n) none = omega arith

pub wish-requires-clause-may : goal.wish-requires-clause-may
wish-requires-clause-may g c = c.requires (sym c.in-None.ensures)

pub wish-requires-clause-some : goal.wish-requires-clause-some
wish-requires-clause-some g c = some-asked (has_right c.args.self.now c.args.id.process) c.args.amount (sym c.in-None.ensures)

pub returns-in-None-clause-answer : goal.returns-in-None-clause-answer
returns-in-None-clause-answer g c = (sym c.in-None.ensures, c.wish.ensures.tables)

pub returns-in-Some-clause-answer : goal.returns-in-Some-clause-answer
returns-in-Some-clause-answer g c = (sym c.in-Some.ensures, refl)
