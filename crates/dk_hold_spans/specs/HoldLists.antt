-- The holds of a ledger's mutexes in a range of ticks, in the order of their ends. A past has its newest entry first.
use Rattle.std.specs.Prelude.{ℕ, ◌+◌, ◌++◌, [], ◌∷◌, List, Option, Some, None, flat_map, if◌then◌else◌, length, max, nat_lt, reverse, take}
use Rattle.dk_config.specs.Sums.{below}
use Rattle.dk_config.specs.declared.TheConstants.{MAX_MUTEXES}
use Rattle.dk_trace.specs.declared.Entry.{Entry}
use Rattle.dk_holds.specs.declared.holding.Holding.{Holding}
use Rattle.dk_holds.specs.Holds.{ended, holding}
use Rattle.dk_hold_spans.specs.declared.hold.Hold.{Hold}

-- of a hold of mutex m up to before tick `end`, the ticks from `from` on, where there are some
abbrev pub part_from : ℕ → ℕ → ℕ → Option Holding → List Hold
part_from from m end None = []
part_from from m end (Some h) =
    if nat_lt (max h.since from) end
    then record { mutex = m; thread = h.thread; start = max h.since from; end = end } ∷ []
    else []

-- the hold of mutex m that the next entry ends; its tick is the last
abbrev pub ended_hold : ℕ → List Entry → Entry → ℕ → List Hold
ended_hold from past e m = part_from from m (length past + 1) (ended m e (holding m past))

-- the holds that have ended; those that end with one entry are in the order of their mutexes
abbrev pub ended_holds : ℕ → List Entry → List Hold
ended_holds from [] = []
ended_holds from (e ∷ past) = ended_holds from past ++ flat_map (ended_hold from past e) (below MAX_MUTEXES)

-- the hold of mutex m that goes on behind the past
abbrev pub open_hold : ℕ → List Entry → ℕ → List Hold
open_hold from past m = part_from from m (length past) (holding m past)

-- the holds that have ended, and then those that go on
abbrev pub holds_behind : ℕ → List Entry → List Hold
holds_behind from past = ended_holds from past ++ flat_map (open_hold from past) (below MAX_MUTEXES)

-- the holds in the ticks from `from` up to before `to`
abbrev pub holds_in : ℕ → ℕ → List Entry → List Hold
holds_in from to es = holds_behind from (reverse (take to es))
