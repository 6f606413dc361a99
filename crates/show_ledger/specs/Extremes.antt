-- The longest and the shortest of some holds, and the one with the most ticks of its thread.
use Rattle.std.specs.Prelude.{ℕ, ◌-◌, Bool, nat_lt, if◌then◌else◌, List, [], ◌∷◌, Option, Some, None}
use Rattle.show_ledger.specs.declared.extremes.Extreme.{Extreme}
use Rattle.show_ledger.specs.declared.extremes.Extreme.TheVariants as extreme
use Rattle.show_ledger.specs.declared.measuring.MeasuredHold.{MeasuredHold}

-- how many ticks it has in the ledger
abbrev pub ticks_of : MeasuredHold → ℕ
ticks_of h = h.hold.end - h.hold.start

-- what is compared
abbrev pub measure : Extreme → MeasuredHold → ℕ
measure extreme.Longest h = ticks_of h
measure extreme.Shortest h = ticks_of h
measure extreme.MostOwn h = h.own

-- one is more extreme than the other
abbrev pub beats : Extreme → MeasuredHold → MeasuredHold → Bool
beats extreme.Longest one other = nat_lt (ticks_of other) (ticks_of one)
beats extreme.Shortest one other = nat_lt (ticks_of one) (ticks_of other)
beats extreme.MostOwn one other = nat_lt other.own one.own

-- the more extreme of the one so far and a later one
abbrev pub better : Extreme → Option MeasuredHold → MeasuredHold → MeasuredHold
better x None later = later
better x (Some before) later = if beats x later before then later else before

-- the most extreme of the one so far and these
abbrev pub extreme_from : Extreme → Option MeasuredHold → List MeasuredHold → Option MeasuredHold
extreme_from x best [] = best
extreme_from x best (h ∷ more) = extreme_from x (Some (better x best h)) more

-- the first of the most extreme ones
abbrev pub extreme_hold : Extreme → List MeasuredHold → Option MeasuredHold
extreme_hold x hs = extreme_from x None hs
