-- How long after an event a chain has answered it in a ledger.
use Rattle.std.specs.Prelude.{ℕ, ◌+◌, ◌-◌, ◌*◌, ◌/◌, ◌≡◌, ◌<◌, ◌≤◌, ◌==◌, nat_lt, min, max, if◌then◌else◌, List, Option, Some, None, option_map, MatchOption}
use Rattle.dk_config.specs.Configuration.{Configuration}
use Rattle.dk_config.specs.Windows.{period, main_level}
use Rattle.dk_trace.specs.declared.Entry.{Entry}
use Rattle.dk_chain_ledger.specs.declared.reactions.Reactions.{Reactions}
use Rattle.dk_chain_ledger.specs.Tables.{through}

-- the number of the first window, of so many ticks each, that starts at tick t or after
abbrev pub first_window : ℕ → ℕ → ℕ
first_window ticks t = (t + (ticks - 1)) / ticks

-- the first event for which window k is that
abbrev pub first_event : ℕ → ℕ → ℕ
first_event ticks k = if k == 0 then 0 else (k - 1) * ticks + 1

-- how long after an event at tick t it is answered, where window k of the first process ends the chain by tick `ends k`
abbrev pub reaction_by : (ℕ → Option ℕ) → ℕ → ℕ → Option ℕ
reaction_by ends ticks t = option_map (λ end. end - t) (ends (first_window ticks t))

-- How long after an event at tick t the ledger has the chain's answer: it begins with the first window of p that starts at t or
-- after. None where the ledger hasn't got the whole window of each job, or one of them never begins.
abbrev pub reaction_in : Configuration → List Entry → ℕ → List ℕ → ℕ → Option ℕ
reaction_in c es p rest t = reaction_by (λ k. through c es p k rest) (period c (main_level c p)) t

-- The longest and the shortest of the reactions to all events, and the first event with the longest.
pub record AreReactions (reaction : ℕ → Option ℕ) (seen : Reactions) : Type 0 where
  pub longest : reaction seen.event ≡ Some seen.longest
  pub most : (t d : ℕ) → reaction t ≡ Some d → d ≤ seen.longest
  pub first : (t d : ℕ) → t < seen.event → reaction t ≡ Some d → d < seen.longest
  pub shortest : (t : ℕ) × (reaction t ≡ Some seen.shortest)
  pub least : (t d : ℕ) → reaction t ≡ Some d → seen.shortest ≤ d

-- these are they, and None where no event is answered
abbrev pub TellsReactions : (ℕ → Option ℕ) → Option Reactions → Type 0
TellsReactions reaction seen = MatchOption seen ((t : ℕ) → reaction t ≡ None) (AreReactions reaction)

-- the reactions to the events for which window k is the first, where it ends the chain by this tick
abbrev pub of_window : ℕ → ℕ → ℕ → Reactions
of_window ticks k end = record { shortest = end - k * ticks; longest = end - first_event ticks k; event = first_event ticks k }

-- the reactions to some events, and to later ones
abbrev pub joined : Option Reactions → Reactions → Reactions
joined None later = later
joined (Some seen) later = record {
  shortest = min seen.shortest later.shortest;
  longest = max seen.longest later.longest;
  event = if nat_lt seen.longest later.longest then later.event else seen.event;
}
