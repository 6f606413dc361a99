-- How a chain goes on from job to job in a ledger.
use Rattle.std.specs.Prelude.{ℕ, ◌+◌, ◌-◌, ◌/◌, ◌≡◌, Bool, false, nat_lt, if◌then◌else◌, List, [], ◌∷◌, slice_get, Option, option_map}
use Rattle.std.specs.Option.{option_and_then, option_flatten, option_map_or}
use Rattle.dk_config.specs.Configuration.{Configuration}
use Rattle.dk_config.specs.Windows.{period, main_level}
use Rattle.dk_trace.specs.declared.Entry.{Entry}
use Rattle.dk_chain_ledger.specs.declared.jobs.Job.{Job}
use Rattle.dk_chain_ledger.specs.declared.tables.Track.{Track}
use Rattle.dk_chain_ledger.specs.Jobs.{job_of}

-- the job has begun before the tick
abbrev pub has_begun_before : ℕ → Option Job → Bool
has_begun_before tick job = option_map_or (λ j. nat_lt j.begun tick) job false

-- The number of the window of the next job of q, once the job before is over at tick u: the window that the last tick before u
-- lies in, where the job there hasn't begun by then, else the one after it.
abbrev pub next_window : (ℕ → Option Job) → ℕ → ℕ → ℕ
next_window jobs ticks u =
    let k = (u - 1) / ticks in
    if has_begun_before u (jobs k) then k + 1 else k

-- by which tick the chain is through, that begins with the job of p in window k and goes on with these processes
abbrev pub through : Configuration → List Entry → ℕ → ℕ → List ℕ → Option ℕ
through c es p k [] = option_map (λ j. j.over) (job_of c es p k)
through c es p k (q ∷ rest) =
    option_and_then (λ j. through c es q (next_window (job_of c es q) (period c (main_level c q)) j.over) rest) (job_of c es p k)

-- what a list of answers has at a number; None behind its end
abbrev pub told : {X : Type 0} → List (Option X) → ℕ → Option X
told xs k = option_flatten (slice_get xs k)

-- the list has the answers of f
abbrev pub IsTableOf : {X : Type 0} → (ℕ → Option X) → List (Option X) → Type 0
IsTableOf f xs = (k : ℕ) → told xs k ≡ f k

-- the jobs of q by the numbers of their windows, and by which tick the chain is through that begins with each
pub record IsTrackOf (c : Configuration) (es : List Entry) (q : ℕ) (rest : List ℕ) (track : Track) : Type 0 where
  pub ticks : track.ticks ≡ period c (main_level c q)
  pub jobs : IsTableOf (job_of c es q) track.jobs.items
  pub ends : IsTableOf (λ k. through c es q k rest) track.ends.items
