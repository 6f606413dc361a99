-- How long after an event a chain of processes has answered it: the first job of the chain begins at the event or after, each
-- further one when the one before it is over.
use Rattle.std.specs.Prelude.{ℕ, ◌≡◌, ◌+◌, ◌%◌, ◌<◌, ◌≤◌, if◌then◌else◌, List, [], ◌∷◌, length, All}
use Rattle.dk_config.specs.Configuration.{Configuration}
use Rattle.dk_config.specs.Windows.{period, main_level, budget}
use Rattle.dk_config.specs.Ahead.{comes_before, IsEnough}
use Rattle.dk_trace.specs.declared.Entry.{Entry}
use Rattle.dk_trace.specs.Guarantees.{past_at}
use Rattle.dk_chain.specs.InOrder.{IsOver, IsBefore}
use Rattle.dk_chain.specs.Rounding.{round_up}

abbrev pub window_length : Configuration → ℕ → ℕ
window_length c p = period c (main_level c p)

-- after how many ticks of each of its windows each process has had its whole budget: the least number that is enough
abbrev pub AreDone : Configuration → (ℕ → ℕ) → Type 0
AreDone c done =
    (p : ℕ) → p < length c.processes
    → IsEnough c p (budget c p) (done p) × ((f : ℕ) → IsEnough c p (budget c p) f → done p ≤ f)

-- the first start of a window of p at tick u or after
abbrev pub next_start : Configuration → ℕ → ℕ → ℕ
next_start c p u = round_up u (window_length c p)

-- The tick from which a job of q, in a window that starts there or after, begins only when the job of p in the window from s is
-- over: that start itself where p comes before q, else the tick by which p is done.
abbrev pub free_from : Configuration → (ℕ → ℕ) → ℕ → ℕ → ℕ → ℕ
free_from c done p q s = if comes_before c p q then s else s + done p

-- by which tick a chain is through, that begins with the job of p in the window from s and goes on with these processes
abbrev pub through : Configuration → (ℕ → ℕ) → ℕ → ℕ → List ℕ → ℕ
through c done p s [] = s + done p
through c done p s (q ∷ rest) = through c done q (next_start c q (free_from c done p q s)) rest

-- by which tick the chain has answered an event at tick t
abbrev pub answered : Configuration → (ℕ → ℕ) → List ℕ → ℕ → ℕ
answered c done [] t = t
answered c done (p ∷ rest) t = through c done p (next_start c p t) rest

-- The reaction time of a chain: each event is answered within so many ticks, and one of them in no fewer.
pub record IsReaction (c : Configuration) (done : ℕ → ℕ) (chain : List ℕ) (reaction : ℕ) : Type 0 where
  pub enough : (t : ℕ) → answered c done chain t ≤ t + reaction
  pub met : (t : ℕ) × (answered c done chain t ≡ t + reaction)

-- each process of the chain is there
abbrev pub AreThere : Configuration → List ℕ → Type 0
AreThere c chain = All (λ p. p < length c.processes) chain

-- From the job of p in the window from s the chain goes on: the job of each next process begins only when the one before is over,
-- and the last one is over at tick `end`.
abbrev pub GoesOn : Configuration → List Entry → ℕ → ℕ → ℕ → List ℕ → Type 0
GoesOn c past end p s [] = IsOver c (past_at past end) p s
GoesOn c past end p s (q ∷ rest) =
    (r : ℕ) × (r % window_length c q ≡ 0) × IsBefore c past p s q r × GoesOn c past end q r rest

-- the chain answers the event at tick t by tick `end`: its first job is in a window that starts at t or after
abbrev pub Answers : Configuration → List Entry → ℕ → ℕ → List ℕ → Type 0
Answers c past end t [] = Unit {0}
Answers c past end t (p ∷ rest) = (s : ℕ) × (t ≤ s) × (s % window_length c p ≡ 0) × GoesOn c past end p s rest

-- Whatever the programs do, each event is answered within the reaction time.
abbrev pub ReactsInTime : Configuration → List Entry → Type 0
ReactsInTime c past =
    (done : ℕ → ℕ) (chain : List ℕ) (reaction t : ℕ) → AreDone c done → AreThere c chain → IsReaction c done chain reaction
    → t + reaction ≤ length past → Answers c past (t + reaction) t chain
