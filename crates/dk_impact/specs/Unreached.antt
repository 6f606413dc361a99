-- Instructions to which a program never comes.
use Rattle.std.specs.Prelude.{ℕ, ◌+◌, ◌*◌, ◌≡◌, ◌≢◌, ◌≤◌, ◌⊎◌, ◌&&◌, Bool, true, false, List, [], length, slice_index_or, slice_range, Option, None}
use Rattle.std.specs.List.{list_any}
use Rattle.dk_config.specs.Configuration.{Configuration}
use Rattle.dk_isa.specs.declared.FaultKind.{FaultKind}
use Rattle.dk_isa.specs.declared.Instr.{Instr}
use Rattle.dk_isa.specs.Table.{instruction_of}
use Rattle.dk_trace.specs.declared.Event.{Event}
use Rattle.dk_trace.specs.declared.Entry.{Entry}
use Rattle.dk_trace.specs.Entries.{has_event}
use Rattle.dk_world.specs.Run.{World, world, trace}
use Rattle.dk_alone.specs.Alone.{is_of_process}

-- the instruction at the place, or none
abbrev pub instruction_at : List ℕ → ℕ → Option Instr
instruction_at program k = instruction_of (slice_range program (4 * k) (4 * k + 4))

-- the one program with some of its instructions struck out is the other: it is as long, and has each instruction, or none in its place
pub record StrikesOut (program struck : List ℕ) : Type 0 where
  pub long : length program ≡ length struck
  pub each : (k : ℕ) → 4 * k + 4 ≤ length program → (instruction_at program k ≡ instruction_at struck k) ⊎ (instruction_at struck k ≡ None)

-- each process has the same program in both, but that some instructions of process p are struck out
pub record StrikesOutOf (programs struck : List (List ℕ)) (p : ℕ) : Type 0 where
  pub its : StrikesOut (slice_index_or programs p []) (slice_index_or struck p [])
  pub others : (q : ℕ) → q ≢ p → slice_index_or programs q [] ≡ slice_index_or struck q []

abbrev pub is_decode : Event → Bool
is_decode (Event.Fault FaultKind.Decode) = true
is_decode _ = false

-- a thread of the process came to a place without an instruction
abbrev pub comes_to_none : ℕ → Entry → Bool
comes_to_none p e = is_of_process p e && has_event is_decode e

-- none of its threads ever does, in this run
abbrev pub NeverComesToNone : Configuration → List (List ℕ) → ℕ → Type 0
NeverComesToNone c programs p = (n : ℕ) → list_any (comes_to_none p) (trace c programs n) ≡ false

-- two worlds are the same but for the programs
pub record IsSameBut (one other : World) : Type 0 where
  pub past : one.past ≡ other.past
  pub memory : (q : ℕ) → (one.images q).memory ≡ (other.images q).memory
  pub contexts : (q serial : ℕ) → (one.images q).contexts serial ≡ (other.images q).contexts serial

-- Where a process never comes to an instruction that is struck out, the run is the one that it would be with it.
abbrev pub WhatIsNeverReachedHasNoImpact : Type 0
WhatIsNeverReachedHasNoImpact =
    (c : Configuration) (programs struck : List (List ℕ)) (p : ℕ) → StrikesOutOf programs struck p → NeverComesToNone c struck p
    → (n : ℕ) → IsSameBut (world c programs n) (world c struck n)
