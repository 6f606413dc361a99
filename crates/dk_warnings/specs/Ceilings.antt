-- The configuration with another ceiling of a mutex.
use Rattle.std.specs.Prelude.{ℕ, zero, suc, ◌≡◌, ◌<◌, ◌≤◌, true, List, [], ◌∷◌, length}
use Rattle.dk_config.specs.Configuration.{Configuration}
use Rattle.dk_config.specs.Mutex.{Mutex}
use Rattle.dk_config.specs.Windows.{ceiling, main_level}
use Rattle.dk_config.specs.Certification.{is_user, level_blocking}
use Rattle.dk_config.specs.Checked.{IsAccepted, IsChecked}

-- the rows, with this ceiling in the one of this number
abbrev pub rows_with_ceiling : List Mutex → ℕ → ℕ → List Mutex
rows_with_ceiling [] mutex ceiling = []
rows_with_ceiling (row ∷ rows) zero ceiling = record row { ceiling = ceiling } ∷ rows
rows_with_ceiling (row ∷ rows) (suc mutex) ceiling = row ∷ rows_with_ceiling rows mutex ceiling

-- the configuration with this ceiling for the mutex, and else as it is
abbrev pub with_ceiling : Configuration → ℕ → ℕ → Configuration
with_ceiling c mutex ceiling = record c { mutexes = rows_with_ceiling c.mutexes mutex ceiling }

-- The ceiling can be at this level as well: no user is faster, and no level waits longer than now. Of the levels that are
-- as fast as each user it is the slowest.
pub record CertifiesToo (c : Configuration) (m level : ℕ) : Type 0 where
  pub slower : ceiling c m < level
  pub users : (p : ℕ) → is_user c m p ≡ true → level ≤ main_level c p
  pub slowest : (l : ℕ) → l ≤ length c.levels → ((p : ℕ) → is_user c m p ≡ true → l ≤ main_level c p) → l ≤ level
  pub checked : IsChecked (with_ceiling c m level)
  pub accepted : IsAccepted (with_ceiling c m level)
  pub waits : (j : ℕ) → level_blocking (with_ceiling c m level) j ≤ level_blocking c j
