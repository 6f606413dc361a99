-- What is told of a chain of processes, and of its reactions in a ledger.
use Rattle.std.specs.Prelude.{ℕ, ◌≡◌, ◌<◌, ◌∷◌, ◌⊎◌, List, [], length, Option, Some, None, Result, Ok, Err}
use Rattle.dk_config.specs.Checked.{IsAccepted, IsChecked, IsWithinLimits}
use Rattle.dk_config.specs.declared.TheConstants.{MAX_PROCESSES}
use Rattle.dk_config.specs.Configuration.{Configuration}
use Rattle.dk_chain.specs.Chain.{AreThere}
use Rattle.dk_chain_ledger.specs.declared.reactions.Reactions.{Reactions}
use Rattle.dk_chain_ledger.specs.Reactions.{TellsReactions, reaction_in}
use Rattle.dk_chain_ledger.specs.Text.{reactions_line}
use Rattle.dk_chain_report.specs.Finding.{processes_named}
use Rattle.dk_chain_report.specs.Report.{IsChainText}
use Rattle.dk_ledger.specs.Readable.{Journal, IsReadable, text_of}
use Rattle.dk_audit.specs.Findings.{IsOwnHeading}
use Rattle.dk_show.specs.declared.refusal.Refusal.{Refusal}
use Rattle.dk_show.specs.declared.refusal.Refusal.TheVariants as why
use Rattle.dk_show.specs.declared.status.Status.{Status}
use Rattle.dk_show.specs.declared.status.Status.TheVariants as status
use Rattle.dk_show.specs.Answers.{Files, IsWrong, Says}
use Rattle.dk_show_request.specs.Chain.{ChainAsk}
use Rattle.dk_show.specs.Loading.{certified_at}

-- a certified configuration, and the processes of a chain in it
pub record ChainIn : Type 0 where
  pub config : Configuration
  pub first : ℕ
  pub rest : List ℕ

abbrev pub chain_of : Configuration → Option (List ℕ) → Result ChainIn Refusal
chain_of c (Some (first ∷ rest)) = Ok (record { config = c; first = first; rest = rest })
chain_of c _ = Err why.NoProcess

-- the chain of these names, where the configuration is certified
abbrev pub chain_named : ChainAsk → Result Configuration Refusal → Result ChainIn Refusal
chain_named r (Ok c) = chain_of c (processes_named c (r.first ∷ r.rest))
chain_named r (Err e) = Err e

abbrev pub chain_at : Files → ChainAsk → Result ChainIn Refusal
chain_at at r = chain_named r (certified_at (at r.file))

-- what holds of each chain that was found
pub record IsCertifiedChain (chain : ChainIn) : Type 0 where
  pub checked : IsChecked chain.config
  pub accepted : IsAccepted chain.config
  pub limits : IsWithinLimits chain.config
  pub there : AreThere chain.config (chain.first ∷ chain.rest)
  pub few : length chain.rest < MAX_PROCESSES

-- what is said of a chain
abbrev pub IsChainTold : ChainIn → List ℕ → Status → Type 0
IsChainTold chain text ended = IsChainText chain.config chain.first chain.rest [] text × (ended ≡ status.Done)

-- what is said of the chain, and of its reactions in the ledger
pub record AreReactionsTold (chain : ChainIn) (j : Journal) (text : List ℕ) (ended : Status) : Type 0 where
  pub own : IsOwnHeading chain.config j.heading
  pub seen : Option Reactions
  pub exact : TellsReactions (reaction_in chain.config j.entries chain.first chain.rest) seen
  pub told : IsChainText chain.config chain.first chain.rest (reactions_line seen) text
  pub done : ended ≡ status.Done

-- the ledger is that of another configuration
pub record IsOfOther (chain : ChainIn) (j : Journal) (text : List ℕ) (ended : Status) : Type 0 where
  pub other : IsOwnHeading chain.config j.heading → ⊥
  pub says : Says why.OtherLedger text ended

-- the ledger in these bytes, and what is told of it
pub record AreReactionsIn (chain : ChainIn) (bytes text : List ℕ) (ended : Status) : Type 0 where
  pub ledger : Journal
  pub readable : IsReadable ledger
  pub bytes_are : text_of ledger ≡ bytes
  pub told : AreReactionsTold chain ledger text ended ⊎ IsOfOther chain ledger text ended

-- what the bytes of a ledger come to
abbrev pub IsOfReactions : ChainIn → List ℕ → List ℕ → Status → Type 0
IsOfReactions chain bytes text ended = IsWrong bytes text ended ⊎ AreReactionsIn chain bytes text ended
