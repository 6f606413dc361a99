-- What is said of a chain of processes.
use Rattle.std.specs.Prelude.{ℕ, suc, ◌≡◌, ◌+◌, List, ◌∷◌, ◌++◌, codes, length}
use Rattle.dk_config.specs.Configuration.{Configuration}
use Rattle.dk_chain.specs.Chain.{AreDone, answered}
use Rattle.dk_config_report.specs.Pages.{AreLines}
use Rattle.dk_chain_report.specs.declared.latency.Latency.{Latency}
use Rattle.dk_chain_report.specs.Steps.{IsStepLine}
use Rattle.dk_chain_report.specs.declared.latency.Span.{Span}
use Rattle.dk_chain_report.specs.Changes.{IsLatency, IsEarlierLine, IsFasterLine}
use Rattle.dk_chain_report.specs.Spans.{IsSpan, reaction_lines}

-- an event that has to wait for the whole reaction time
abbrev pub IsWorst : Configuration → ℕ → List ℕ → ℕ → ℕ → Type 0
IsWorst c first rest reaction event =
    (done : ℕ → ℕ) → AreDone c done → answered c done (first ∷ rest) event ≡ event + reaction

-- the whole text, in which these lines tell what was measured
pub record IsChainText (c : Configuration) (first : ℕ) (rest measured text : List ℕ) : Type 0 where
  pub latency : Latency
  pub is : IsLatency c first rest latency
  pub span : Span
  pub spans : IsSpan c first rest latency span
  pub event : ℕ
  pub worst : IsWorst c first rest latency.reaction event
  pub steps : List ℕ
  pub earlier : List ℕ
  pub faster : List ℕ
  pub step_lines : AreLines (IsStepLine c first rest event) (suc (length rest)) steps
  pub earlier_lines : AreLines (IsEarlierLine c first rest latency.reaction) (length c.processes) earlier
  pub faster_lines : AreLines (IsFasterLine c first rest latency.reaction) (length c.processes) faster
  pub whole : text ≡ steps ++ ((reaction_lines latency span ++ measured) ++ (earlier ++ (faster ++ codes "end\n")))
