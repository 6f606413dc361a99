-- What a contract sees of a sink and of a depot.
use Rattle.std.specs.Prelude.{ℕ, List, Option}

pub record SinkView : Type 0 where
  -- what was written so far, where the sink tells it
  pub written : Option (List ℕ)
  -- how many writes the outside let fail
  pub faults : ℕ
  -- how many bytes it has room for in all, where that is known
  pub capacity : Option ℕ

pub record DepotView : Type 0 where
  -- what each name holds, where the depot tells it
  pub files : Option (List ℕ → Option (List ℕ))
  -- how many bytes were handed out
  pub given : ℕ
  -- how many reads the outside let fail
  pub faults : ℕ
  -- how many reads were of names that hold no file, where the files are told
  pub strays : ℕ
