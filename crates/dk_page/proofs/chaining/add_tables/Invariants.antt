use Rattle.std.proofs.Common.{◌≡◌, ◌++◌, drop, flat_map}
use Rattle.dk_page.specs.More.{chain_told}
use Rattle.dk_page.proofs.chaining.add_tables.Given as goal

-- the tables so far, before those of the chains that are left
abbrev pub invariant-loop-chain : goal.invariant-loop-chain
invariant-loop-chain l =
    l.out.items ++ flat_map chain_told (drop l.chain-index l.chains) ≡ l.initial.out.items ++ flat_map chain_told l.chains
