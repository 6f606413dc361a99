-- What was found, and what it says of every tick.
use Rattle.std.specs.Prelude.{ℕ, ◌≡◌, ◌+◌, ◌<◌, List, [], Option, Some, None, slice_index_or, IfSome}
use Rattle.dk_config.specs.Configuration.{Configuration}
use Rattle.dk_config.specs.Checked.{IsChecked, IsAccepted}
use Rattle.dk_alone.specs.Again.{WindowBegins}
use Rattle.dk_repeat.specs.Repeat.{RunStandsAgain}
use Rattle.dk_cycle.specs.declared.keeping.Keeping.TheVariants as kind
use Rattle.dk_cycle.specs.declared.own.OwnSearch.{OwnSearch}
use Rattle.dk_cycle.specs.declared.run.RunSearch.{RunSearch}
use Rattle.dk_cycle.specs.declared.Cycle.{Cycle}
use Rattle.dk_cycle.specs.declared.made.Made.{Made}
use Rattle.dk_cycle.specs.declared.told.OwnTold.{OwnTold}
use Rattle.dk_cycle.specs.declared.told.RunTold.{RunTold}
use Rattle.dk_cycle.specs.Keeping.{IsKeeping}
use Rattle.dk_cycle.specs.Made.{IsLastMade, RepeatsOnlyBehind}
use Rattle.dk_cycle.specs.Own.{IsOwnSearch}
use Rattle.dk_cycle.specs.Run.{IsLastReader, IsRunSearch}
use Rattle.dk_cycle.specs.Start.{StartsFirst}
use Rattle.dk_cycle.specs.Repeating.{RepeatsForEver, RepeatsWhateverOthersDo}

-- who reads the tick, where no cycle was found
abbrev pub reader_by : Option Cycle → Option ℕ → Option ℕ
reader_by (Some y) reader = None
reader_by None reader = reader

-- the child that was made last, where no cycle was found
abbrev pub made_by : Option Cycle → Option Made → Option Made
made_by (Some y) made = None
made_by None made = made

abbrev pub run_told : RunSearch → RunTold
run_told search = record {
  reader = reader_by search.cycle search.reader;
  made = made_by search.cycle search.made;
  cycle = search.cycle;
}

abbrev pub own_told : OwnSearch → OwnTold
own_told search = record { process = search.process; keeping = search.keeping; cycle = search.cycle }

-- from its start on the run repeats for ever, and at no earlier tick it stands again so many ticks later
pub record IsRunCycle (c : Configuration) (programs : List (List ℕ)) (y : Cycle) : Type 0 where
  pub stands : RunStandsAgain c programs y.start y.length
  pub repeats : RepeatsForEver c programs y.start y.length
  pub first : StartsFirst c programs y

-- The run repeats for ever. Where that isn't told, a thread of the process that is named read the tick, last of all that did in
-- so many ticks; or nobody did in them. And then the child that is named was made in them, last of all, and from no tick up to
-- that the run repeats; or none was made in them.
pub record IsRunTold (c : Configuration) (programs : List (List ℕ)) (ticks : ℕ) (told : RunTold) : Type 0 where
  pub cycle : IfSome told.cycle (IsRunCycle c programs)
  pub reader : told.cycle ≡ None → IsLastReader c programs ticks told.reader
  pub made : told.cycle ≡ None → IsLastMade c programs ticks told.made
  pub behind : IfSome told.made (RepeatsOnlyBehind c programs)
  pub alone : (y : Cycle) → told.cycle ≡ Some y → (told.reader ≡ None) × (told.made ≡ None)

-- from a start of its windows on the process repeats in every run
pub record HasCycle (c : Configuration) (programs : List (List ℕ)) (p : ℕ) (y : Cycle) : Type 0 where
  pub later : 0 < y.length
  pub begins : WindowBegins c p y.start
  pub begins_later : WindowBegins c p (y.start + y.length)
  pub repeats : RepeatsWhateverOthersDo c programs p y.start y.length

-- why the process doesn't keep to itself, or that it does; and then it repeats in every run
pub record IsOwnTold (c : Configuration) (programs : List (List ℕ)) (told : OwnTold) : Type 0 where
  pub keeping : IsKeeping c told.process (slice_index_or programs told.process []) told.keeping
  pub cycle : told.keeping ≡ kind.Keeps → IfSome told.cycle (HasCycle c programs told.process)

abbrev pub RunIsTold : Type 0
RunIsTold = (c : Configuration) (programs : List (List ℕ)) (tick : ℕ) (search : RunSearch) → IsChecked c → IsAccepted c → IsRunSearch c programs tick search
    → IfSome search.cycle (StartsFirst c programs) → IsRunTold c programs tick (run_told search)

abbrev pub OwnIsTold : Type 0
OwnIsTold = (c : Configuration) (programs : List (List ℕ)) (tick : ℕ) (search : OwnSearch) → IsChecked c → IsAccepted c → IsOwnSearch c programs tick search
    → IsOwnTold c programs (own_told search)
