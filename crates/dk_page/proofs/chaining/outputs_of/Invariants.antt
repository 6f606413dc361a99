use Rattle.std.proofs.Common.{◌≡◌, ◌++◌, drop}
use Rattle.dk_page.specs.More.{chains_outputs}
use Rattle.dk_page.proofs.chaining.outputs_of.Given as goal

-- the outputs so far, before those of the chains that are left
abbrev pub invariant-loop-chain : goal.invariant-loop-chain
invariant-loop-chain l = l.out.items ++ chains_outputs l.fn.file (drop l.chain-index l.chains) ≡ chains_outputs l.fn.file l.chains
