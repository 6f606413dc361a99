-- How soon a chain can have answered an event, and by how much that may vary.
use Rattle.std.specs.Prelude.{ℕ, ◌≡◌, ◌-◌, List, ◌++◌, codes, decimal}
use Rattle.dk_config.specs.Configuration.{Configuration}
use Rattle.dk_chain.specs.Least.{IsShortest}
use Rattle.dk_chain_report.specs.declared.latency.Latency.{Latency}
use Rattle.dk_chain_report.specs.declared.latency.Span.{Span}
use Rattle.dk_chain_report.specs.Changes.{latency_part}

-- the shortest reaction time, and by how much the longest is longer
pub record IsSpan (c : Configuration) (first : ℕ) (rest : List ℕ) (l : Latency) (s : Span) : Type 0 where
  pub shortest : IsShortest c first rest s.shortest
  pub jitter : s.jitter ≡ l.reaction - s.shortest

abbrev pub span_part : Span → List ℕ
span_part s = codes "shortest " ++ (decimal s.shortest ++ (codes " jitter " ++ (decimal s.jitter ++ codes "\n")))

-- the lines of the whole chain
abbrev pub reaction_lines : Latency → Span → List ℕ
reaction_lines l s = latency_part l ++ span_part s
