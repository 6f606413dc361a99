-- No event waits longer in a ledger than the chain promises.
use Rattle.std.specs.Prelude.{ℕ, ◌≡◌, ◌≤◌, List, ◌∷◌, reverse, Some}
use Rattle.dk_config.specs.Configuration.{Configuration}
use Rattle.dk_trace.specs.declared.Entry.{Entry}
use Rattle.dk_chain.specs.Chain.{AreDone, AreThere, IsReaction}
use Rattle.dk_chain_ledger.specs.Reactions.{reaction_in}

-- Each reaction that the ledger of these entries, the newest first, has is at most the chain's reaction time.
abbrev pub ReactsWithin : Configuration → List Entry → Type 0
ReactsWithin c past =
    (done : ℕ → ℕ) (p : ℕ) (rest : List ℕ) (reaction t d : ℕ) → AreDone c done → AreThere c (p ∷ rest)
    → IsReaction c done (p ∷ rest) reaction → reaction_in c (reverse past) p rest t ≡ Some d → d ≤ reaction
