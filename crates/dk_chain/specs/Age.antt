-- How old the data is that the last process of a chain works with.
use Rattle.std.specs.Prelude.{ℕ, ◌≡◌, ◌+◌, ◌%◌, ◌≤◌, List, [], ◌∷◌}
use Rattle.dk_config.specs.Configuration.{Configuration}
use Rattle.dk_trace.specs.declared.Entry.{Entry}
use Rattle.dk_chain.specs.InOrder.{IsBefore}
use Rattle.dk_chain.specs.Chain.{AreDone, AreThere, IsReaction, window_length, through}

-- the last process of a chain
abbrev pub last_of : ℕ → List ℕ → ℕ
last_of p [] = p
last_of p (q ∷ rest) = last_of q rest

-- the age of the data that the last process works with: the reaction time and one tick, less a window of the last process
abbrev pub IsAge : Configuration → ℕ → List ℕ → ℕ → ℕ → Type 0
IsAge c p rest reaction age = age + window_length c (last_of p rest) ≡ reaction + 1

-- The age is met: at a window of the last process that starts at u, once a chain from tick 0 has come so far, each job of the
-- first from which the chain surely comes to it is of a window that started the whole age or more before this one is done.
pub record IsMet (c : Configuration) (done : ℕ → ℕ) (p : ℕ) (rest : List ℕ) (age : ℕ) : Type 0 where
  pub u : ℕ
  pub starts : u % window_length c (last_of p rest) ≡ 0
  pub come : through c done p 0 rest ≤ u + done (last_of p rest)
  pub met : (s : ℕ) → s % window_length c p ≡ 0 → through c done p s rest ≤ u + done (last_of p rest)
      → s + age ≤ u + done (last_of p rest)

-- From the job of p in the window from s the chain comes to the window of its last process that starts at u: the job of each next
-- process begins only when the one before is over.
abbrev pub ComesTo : Configuration → List Entry → ℕ → ℕ → List ℕ → ℕ → Type 0
ComesTo c past p s [] u = s ≡ u
ComesTo c past p s (q ∷ rest) u = (r : ℕ) × (r % window_length c q ≡ 0) × IsBefore c past p s q r × ComesTo c past q r rest u

-- Each job of the last process, once a chain from tick 0 has come so far, works with what a job of the first made, whose window
-- started at most the age of the data before the tick by which this one is done.
abbrev pub AgesInTime : Configuration → List Entry → Type 0
AgesInTime c past =
    (done : ℕ → ℕ) (p : ℕ) (rest : List ℕ) (reaction age u : ℕ) → AreDone c done → AreThere c (p ∷ rest) → IsReaction c done (p ∷ rest) reaction
    → IsAge c p rest reaction age → u % window_length c (last_of p rest) ≡ 0 → through c done p 0 rest ≤ u + done (last_of p rest)
    → (s : ℕ) × (s % window_length c p ≡ 0) × ComesTo c past p s rest u
    × (u + done (last_of p rest) ≤ s + age)
