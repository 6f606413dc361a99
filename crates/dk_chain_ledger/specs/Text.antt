-- The line that tells the reactions of a chain in a ledger.
use Rattle.std.specs.Prelude.{ℕ, List, ◌++◌, codes, decimal, Option, Some, None}
use Rattle.dk_chain_ledger.specs.declared.reactions.Reactions.{Reactions}

abbrev pub reactions_line : Option Reactions → List ℕ
reactions_line None = codes "ledger reaction none\n"
reactions_line (Some seen) =
    codes "ledger reaction shortest " ++ (decimal seen.shortest ++ (codes " longest " ++ (decimal seen.longest ++ (codes " from " ++ (decimal seen.event ++ codes "\n")))))
