-- What holds of the fields of every rail.
use Rattle.std.specs.Prelude.{ℕ, ◌^◌, ◌<◌, List}
use Rattle.dk_rail.specs.Links.{IsLinked, list_at}

pub record IsSound (c : List ℕ) (n q : ℕ) : Type 0 where
  pub nodes : n < 2 ^ 32
  pub queues : q < 2 ^ 32
  pub linked : IsLinked c n q (list_at c n)
