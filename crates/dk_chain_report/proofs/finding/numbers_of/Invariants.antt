use Rattle.std.proofs.Common.{◌≡◌, ◌++◌, drop}
use Rattle.std.specs.Prelude.{map}
use Rattle.dk_chain_report.specs.Finding.{number_of}
use Rattle.dk_chain_report.proofs.finding.numbers_of.Given as goal

-- the numbers so far, before those of the names that are left
abbrev pub invariant-loop-name : goal.invariant-loop-name
invariant-loop-name l =
    l.chain.items ++ map (number_of l.config) (drop l.name-index l.names) ≡ map (number_of l.config) l.names
