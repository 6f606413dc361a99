use Rattle.dk_request.proofs.Names.{◌≡◌, ◌++◌, drop, map, asks_in}
use Rattle.std.proofs.Common.{option_map}
use Rattle.dk_request.proofs.asks.asks_in.Given as goal

-- the asks so far, before those of the words that are left
abbrev pub invariant-loop-word : goal.invariant-loop-word
invariant-loop-word l = option_map (λ more. l.asks.items ++ more) (asks_in (drop l.word-index (map (λ w. w.now) l.words))) ≡ asks_in (map (λ w. w.now) l.words)
