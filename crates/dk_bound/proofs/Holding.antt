-- What is true of the holders of mutexes at each moment of a past that follows the rules: the invariant of the induction.
use Rattle.dk_bound.proofs.Names.{Configuration, is_user, ThreadId, Entry, Thread, threads, job, thread_body_left, Hold, held_by, is_holding, hold_left, effective_level, is_holder, Has}
use Rattle.std.specs.Prelude.{ℕ, suc, ◌≡◌, ◌≤◌, ◌<◌, ◌⊎◌, true, List, [], ◌∷◌}

-- the innermost hold has at least low left, each further one more than the one inside it, and none more than high
abbrev pub Rising : Configuration → ℕ → ℕ → List Hold → Type 0
Rising c low high [] = Unit {0}
Rising c low high (h ∷ held) = (low ≤ hold_left c h) × (hold_left c h ≤ high) × Rising c (suc (hold_left c h)) high held

-- the process is a user of each mutex
abbrev pub Users : Configuration → ℕ → List Hold → Type 0
Users c p [] = Unit {0}
Users c p (h ∷ held) = (is_user c h.mutex p ≡ true) × Users c p held

-- Whoever holds has a row, and time left in its body for all that it holds. Windows are read at tick now.
pub record Holder (c : Configuration) (now : ℕ) (past : List Entry) (x : ThreadId) : Type 0 where
  pub row : Thread
  pub among : Has (threads c past) row
  pub same : row.id ≡ x
  pub nested : Rising c 1 (thread_body_left c now past row) (held_by x past)
  pub users : Users c x.process (held_by x past)
  -- it has been switched in
  pub entered : c.costs.switch ≤ (job c now past row).used

pub record HoldersFit (c : Configuration) (now : ℕ) (past : List Entry) : Type 0 where
  pub holder : (x : ThreadId) → is_holding (held_by x past) ≡ true → Holder c now past x
  -- of two holders one is of a level before that at which the other runs
  pub order : (x y : Thread) → Has (threads c past) x → Has (threads c past) y → (x.id ≡ y.id → ⊥)
      → is_holder past x ≡ true → is_holder past y ≡ true
      → (x.level < effective_level c past y) ⊎ (y.level < effective_level c past x)
