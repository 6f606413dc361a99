-- What ends a hold in its last tick, and what a hold that breaks leaves.
use Rattle.std.specs.Prelude.{ℕ, ◌≡◌, ◌⊎◌, List, ◌∷◌, true, Some}
use Rattle.dk_config.specs.Configuration.{Configuration}
use Rattle.dk_isa.specs.declared.FaultKind.{FaultKind}
use Rattle.dk_trace.specs.declared.ThreadId.{ThreadId}
use Rattle.dk_trace.specs.declared.Event.{Event}
use Rattle.dk_trace.specs.declared.Entry.{Entry}
use Rattle.dk_trace.specs.Holds.{Hold, held_by, is_innermost, innermost_left}
use Rattle.dk_trace.specs.Choices.{chosen}
use Rattle.dk_cpu.specs.declared.Context.{Context}
use Rattle.dk_cpu.specs.declared.Outcome.{Outcome}
use Rattle.dk_cpu.specs.declared.kernel_call.KernelCall.{KernelCall}
use Rattle.dk_cpu.specs.Machine.{Tick, reg}
use Rattle.dk_world.specs.Run.{World, executes, step, tick_in}

-- a fault, an exit, or the unlock of the mutex that was locked last
abbrev pub EndsHold : List Hold → Context → Outcome → Type 0
EndsHold held context outcome =
    ((kind : FaultKind) × (outcome ≡ Outcome.Fault kind))
    ⊎ ((outcome ≡ Outcome.CallDone KernelCall.Exit)
    ⊎ ((outcome ≡ Outcome.CallDone KernelCall.Unlock) × (is_innermost (reg context 1) held ≡ true)))

-- the thread's innermost hold has its last tick and isn't ended by what its instruction comes to
abbrev pub Breaks : Configuration → World → ThreadId → Tick → Type 0
Breaks c before x tick =
    (innermost_left c (held_by x before.past) ≡ 1)
    × (EndsHold (held_by x before.past) ((before.images x.process).contexts x.serial) tick.outcome → ⊥)

-- what is so of the tick of a thread that executes an instruction, which comes to this tick of its program
pub record HoldLeaves (c : Configuration) (before after : World) (e : Entry) (x : ThreadId) (tick : Tick) : Type 0 where
  -- a hold that breaks is a fault, and all code, memory and contexts are as before
  pub breaks : Breaks c before x tick
      → (e.event ≡ Some (Event.Fault FaultKind.Hold)) × ((p : ℕ) → after.images p ≡ before.images p)
  -- a fault is the instruction's own, or a hold broke
  pub faults : (kind : FaultKind) → e.event ≡ Some (Event.Fault kind)
      → (tick.outcome ≡ Outcome.Fault kind) ⊎ ((kind ≡ FaultKind.Hold) × Breaks c before x tick)
  -- an exit is done, whatever is held and for how long yet
  pub exits : tick.outcome ≡ Outcome.CallDone KernelCall.Exit → e.event ≡ Some Event.Exit

abbrev pub HoldsBreak : Type 0
HoldsBreak = (c : Configuration) (w : World) (e : Entry) (x : ThreadId) → (step c w).past ≡ e ∷ w.past
    → executes (chosen c w.past) ≡ Some x
    → HoldLeaves c w (step c w) e x (tick_in c (w.images x.process) x.serial)
