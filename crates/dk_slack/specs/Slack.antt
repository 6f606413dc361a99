-- What contracts see of a table of slack.
use Rattle.std.specs.Prelude.{ℕ, ◌*◌, List, [], length, replicate}
use Rattle.dk_config.specs.declared.TheConstants.{MAX_THREADS}
use Rattle.dk_config.specs.Configuration.{Configuration}
use Rattle.dk_slack.specs.Wishes.{Wish}

-- the number of nodes, the cost of a switch, the wishes of each level, the oldest call first, the ticks of each level's
-- window that no level up to it claimed, and each level's spare
pub record Slack : Type 0 where
  pub nodes : ℕ
  pub switch : ℕ
  pub wishes : List (List Wish)
  pub unclaimed : List ℕ
  pub spares : List ℕ

-- nobody asks for slack, at tick 0
abbrev pub at_start : Configuration → List ℕ → Slack
at_start c spares = record {
  nodes = MAX_THREADS * length c.processes;
  switch = c.costs.switch;
  wishes = replicate (length c.levels) [];
  unclaimed = replicate (length c.levels) 0;
  spares = spares;
}
