-- The laws of a run that stands as it stood before.
use Rattle.std.specs.Prelude.{ℕ, ◌≡◌, ◌+◌, ◌*◌, ◌<◌, true, List, [], ◌∷◌, length, take, slice_index_or}
use Rattle.std.specs.Option.{option_map_or}
use Rattle.dk_config.specs.Configuration.{Configuration}
use Rattle.dk_config.specs.Checked.{IsChecked, IsAccepted}
use Rattle.dk_trace.specs.declared.Entry.{Entry}
use Rattle.dk_world.specs.Run.{world, trace}
use Rattle.dk_alone.specs.Alone.{ReadsNoTick}
use Rattle.dk_repeat.specs.Repeat.{ReadsNoTickNext, RunStandsAgain, ThreadsStandAlike, WindowsBegin, entry_at, keeps_threads}

-- a run that stands at tick s + k as it stood at tick s goes on as it went on from there: each tick has the entry of the
-- tick k ticks before it
abbrev pub RunsRepeat : Type 0
RunsRepeat =
    (c : Configuration) (programs : List (List ℕ)) (s k n : ℕ) → IsChecked c → IsAccepted c → RunStandsAgain c programs s k
    → entry_at c programs (s + k + n) ≡ entry_at c programs (s + n)

-- so it repeats the k entries from tick s on for ever
abbrev pub RunsRepeatForEver : Type 0
RunsRepeatForEver =
    (c : Configuration) (programs : List (List ℕ)) (s k cycles n : ℕ) → IsChecked c → IsAccepted c
    → RunStandsAgain c programs s k → entry_at c programs (s + cycles * k + n) ≡ entry_at c programs (s + n)

-- the n entries up to a tick are those up to the same tick of the first cycle: so is the use of each window
abbrev pub SpansRepeat : Type 0
SpansRepeat =
    (c : Configuration) (programs : List (List ℕ)) (s k cycles m n : ℕ) → IsChecked c → IsAccepted c
    → RunStandsAgain c programs s k
    → take n (trace c programs (s + cycles * k + m + n)) ≡ take n (trace c programs (s + m + n))

-- and its memories
abbrev pub MemoriesRepeat : Type 0
MemoriesRepeat =
    (c : Configuration) (programs : List (List ℕ)) (s k n p : ℕ) → IsChecked c → IsAccepted c
    → RunStandsAgain c programs s k → p < length c.processes
    → ((world c programs (s + k + n)).images p).memory ≡ ((world c programs (s + n)).images p).memory

-- and it stands again, as many ticks later, at each tick from there on at which all windows begin
abbrev pub RunsStandOn : Type 0
RunsStandOn =
    (c : Configuration) (programs : List (List ℕ)) (s k n : ℕ) → IsChecked c → IsAccepted c
    → RunStandsAgain c programs s k → WindowsBegin c (s + n) → RunStandsAgain c programs (s + n) k

-- where no program holds the call that reads the tick, no tick is read
abbrev pub ProgramsReadNoTick : Type 0
ProgramsReadNoTick =
    (c : Configuration) (programs : List (List ℕ)) (n : ℕ) → IsChecked c → IsAccepted c
    → ((p : ℕ) → p < length c.processes → ReadsNoTick (slice_index_or programs p []))
    → ReadsNoTickNext c (world c programs n)

-- an entry that neither makes nor stops a thread leaves them standing alike
abbrev pub EntriesKeepThreads : Type 0
EntriesKeepThreads =
    (c : Configuration) (e : Entry) (past : List Entry) → option_map_or keeps_threads e.event true ≡ true
    → ThreadsStandAlike c past (e ∷ past)
