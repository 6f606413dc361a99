-- What each need has that is read.
use Rattle.std.specs.Prelude.{ℕ, ◌≡◌, ◌≤◌, true, length, List}
use Rattle.std.specs.List.{list_all}
use Rattle.dk_config.specs.declared.TheConstants.{MAX_PROCESSES}
use Rattle.dk_config.specs.Rules.{is_name}
use Rattle.dk_needs.specs.declared.needs.Need.{Need}
use Rattle.dk_needs.specs.declared.needs.What.{What}
use Rattle.dk_needs.specs.Fitting.{is_id}

-- 1 to 32 names
pub record AreNames (names : List (List ℕ)) : Type 0 where
  pub some : 1 ≤ length names
  pub few : length names ≤ MAX_PROCESSES
  pub spelled : list_all is_name names ≡ true

-- the names that it tells are spelled as those of a configuration
abbrev pub HasNames : What → Type 0
HasNames (What.Deadline process within) = is_name process ≡ true
HasNames (What.Chain processes reaction age) = AreNames processes
HasNames (What.Jitter process begins whole) = is_name process ≡ true
HasNames (What.ChainJitter processes reaction) = AreNames processes
HasNames (What.Budget process budget) = is_name process ≡ true
HasNames (What.Hold mutex hold) = is_name mutex ≡ true
HasNames (What.Slack process each within) = is_name process ≡ true
HasNames (What.Always process) = is_name process ≡ true
HasNames _ = Unit {0}

pub record IsFit (n : Need) : Type 0 where
  pub id : is_id n.id ≡ true
  pub names : HasNames n.what
