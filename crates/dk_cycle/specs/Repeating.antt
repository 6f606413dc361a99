-- A run, and a process by itself, that repeat for ever.
use Rattle.std.specs.Prelude.{ℕ, ◌≡◌, ◌+◌, ◌*◌, List, [], take, slice_index_or}
use Rattle.dk_config.specs.Configuration.{Configuration}
use Rattle.dk_world.specs.Run.{trace}
use Rattle.dk_alone.specs.Alone.{entries_of}
use Rattle.dk_alone.specs.Again.{WindowBegins}
use Rattle.dk_repeat.specs.Repeat.{entry_at}

-- from tick s on the run repeats its next k entries
abbrev pub RepeatsForEver : Configuration → List (List ℕ) → ℕ → ℕ → Type 0
RepeatsForEver c programs s k =
    (cycles n : ℕ) → entry_at c programs (s + cycles * k + n) ≡ entry_at c programs (s + n)

-- From tick s on the windows of the process repeat its next k ticks, in every run in which it has this program, whatever
-- programs the others have.
abbrev pub RepeatsWhateverOthersDo : Configuration → List (List ℕ) → ℕ → ℕ → ℕ → Type 0
RepeatsWhateverOthersDo c programs p s k =
    (others : List (List ℕ)) (cycles m n : ℕ) → slice_index_or programs p [] ≡ slice_index_or others p []
    → WindowBegins c p m → WindowBegins c p n
    → entries_of p (take n (trace c others (s + cycles * k + m + n))) ≡ entries_of p (take n (trace c programs (s + m + n)))
