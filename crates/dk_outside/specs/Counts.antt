-- Counts that are kept in 64 bits, and stay at the last value.
use Rattle.std.specs.Prelude.{ℕ, ◌≡◌, ◌+◌, ◌<◌, min, Result, Ok, Err}
use Rattle.dk_outside.specs.declared.TheConstants.{MAX_COUNT}

-- one more, up to the last value
abbrev pub raised : ℕ → ℕ
raised n = min (n + 1) MAX_COUNT

-- the count is greater after the call than before, or stands at the last value
abbrev pub Rises : ℕ → ℕ → Type 0
Rises old new = new < MAX_COUNT → old < new

-- one more where the call failed, and else as before
abbrev pub CountsFailure : {A E : Type 0} → Result A E → ℕ → ℕ → Type 0
CountsFailure (Ok _) old new = new ≡ old
CountsFailure (Err _) old new = new ≡ raised old
