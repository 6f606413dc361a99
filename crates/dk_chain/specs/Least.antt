-- How long a chain of processes takes at least, where each of its jobs has its whole budget.
use Rattle.std.specs.Prelude.{ℕ, ◌≡◌, ◌+◌, ◌-◌, ◌%◌, ◌<◌, ◌≤◌, List, [], ◌∷◌, length, sum_by}
use Rattle.dk_config.specs.Configuration.{Configuration}
use Rattle.dk_config.specs.Windows.{budget}
use Rattle.dk_trace.specs.declared.Entry.{Entry}
use Rattle.dk_trace.specs.Threads.{main_thread}
use Rattle.dk_trace.specs.Guarantees.{past_at, job_from}
use Rattle.dk_when.specs.Earliest.{MayHave}
use Rattle.dk_chain.specs.Chain.{AreDone, IsReaction, window_length}
use Rattle.dk_chain.specs.Sooner.{IsUnbegun}

-- at tick u the main of p has had its whole budget in its window from s
abbrev pub HasWhole : Configuration → List Entry → ℕ → ℕ → ℕ → Type 0
HasWhole c past u p s = budget c p ≤ (job_from c (past_at past u) (main_thread c p) s).used

-- A chain of jobs goes through from tick u to tick end: the job of p in the window from s has not begun at u and has its whole budget
-- at a tick, at which the next one has not begun, and so on; the last has it at end.
abbrev pub GoesThrough : Configuration → List Entry → ℕ → ℕ → ℕ → ℕ → List ℕ → Type 0
GoesThrough c past end u p s [] = (u ≤ end) × IsUnbegun c past u p s × HasWhole c past end p s
GoesThrough c past end u p s (q ∷ rest) =
    (v : ℕ) × (u ≤ v) × IsUnbegun c past u p s × HasWhole c past v p s
    × (r : ℕ) × (r % window_length c q ≡ 0) × GoesThrough c past end v q r rest

-- It takes at least the sum of their budgets.
abbrev pub TakesAtLeast : Configuration → List Entry → Type 0
TakesAtLeast c past =
    (end u p s : ℕ) (rest : List ℕ) → end ≤ length past → s % window_length c p ≡ 0 → GoesThrough c past end u p s rest
    → u + sum_by (budget c) (p ∷ rest) ≤ end

-- The shortest reaction time of a chain: the least number of ticks of its window with which the first process may have its whole
-- budget, and the budgets of the others.
pub record IsShortest (c : Configuration) (p : ℕ) (rest : List ℕ) (shortest : ℕ) : Type 0 where
  pub from : ℕ
  pub first : MayHave c p (budget c p) from
  pub least : (f : ℕ) → MayHave c p (budget c p) f → from ≤ f
  pub is : shortest ≡ from + sum_by (budget c) rest

-- the chain answers the event at tick t by tick `end`, and each of its jobs has its whole budget
abbrev pub AnswersWhole : Configuration → List Entry → ℕ → ℕ → ℕ → List ℕ → Type 0
AnswersWhole c past end t p rest = (s : ℕ) × (t ≤ s) × (s % window_length c p ≡ 0) × GoesThrough c past end s p s rest

-- It does so in no shorter time, whatever the programs do.
abbrev pub ReactsNoSooner : Configuration → List Entry → Type 0
ReactsNoSooner c past =
    (end t p : ℕ) (rest : List ℕ) (shortest : ℕ) → end ≤ length past → p < length c.processes → IsShortest c p rest shortest
    → AnswersWhole c past end t p rest → t + shortest ≤ end

-- by how much the reaction time may vary: the longest less the shortest
pub record IsJitter (c : Configuration) (p : ℕ) (rest : List ℕ) (jitter : ℕ) : Type 0 where
  pub reaction : ℕ
  pub shortest : ℕ
  pub longest : (done : ℕ → ℕ) → AreDone c done → IsReaction c done (p ∷ rest) reaction
  pub least : IsShortest c p rest shortest
  pub is : jitter ≡ reaction - shortest
