-- The test of an accepted configuration finds no level that fails.
use Rattle.dk_audit.proofs.Names.{◌≡◌, ◌∙◌, ap, ℕ, ◌+◌, length, arith, Configuration, period, level_demand, level_blocking, fails_at, IsAccepted, first_of-none, answer_of, rows_of, verdict_of, Accepted, Fails, passes}

pub not-fails : (c : Configuration) → IsAccepted c → (level needs window : ℕ) → Fails level needs window ≡ verdict_of c → ⊥
not-fails c accepted level needs window fails =
    let none = first_of-none (fails_at c) 0 (length c.levels) (λ j h. passes j (period c j) (level_demand c j + level_blocking c j) (accepted j (omega arith))) in
    let never : Fails level needs window ≡ Accepted (rows_of c) = fails ∙ ap (answer_of c) none in
    absurd (cc)
