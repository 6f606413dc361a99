-- What a create that is done leaves.
use Rattle.std.specs.Prelude.{ℕ, ◌≡◌, [], ◌∷◌, Some}
use Rattle.dk_config.specs.Configuration.{Configuration}
use Rattle.dk_trace.specs.declared.ThreadId.{ThreadId}
use Rattle.dk_trace.specs.declared.Event.{Event}
use Rattle.dk_trace.specs.declared.Entry.{Entry}
use Rattle.dk_trace.specs.Choices.{chosen}
use Rattle.dk_cpu.specs.Machine.{Tick, reg}
use Rattle.dk_cpu.specs.State.{replied}
use Rattle.dk_world.specs.Run.{World, executes, step, tick_in}

-- The create of a thread whose call comes to this tick of its program. Its registers 1 to 4 are the child's level,
-- quota, entry and argument.
pub record CreateLeaves (before after : World) (x : ThreadId) (tick : Tick) (serial level quota : ℕ) : Type 0 where
  pub level_is : level ≡ reg tick.context 1
  pub quota_is : quota ≡ reg tick.context 2
  -- the child begins at its entry with the argument in r1, and 0 in the other registers
  pub child : (after.images x.process).contexts serial
      ≡ record { regs = 0 ∷ reg tick.context 4 ∷ 0 ∷ 0 ∷ 0 ∷ 0 ∷ 0 ∷ 0 ∷ []; pc = reg tick.context 3; left = 0 }
  -- the caller has 0 in r0 and the child's serial in r1
  pub caller : (x.serial ≡ serial → ⊥)
      → (after.images x.process).contexts x.serial ≡ replied tick.context 0 (Some serial)
  pub others : (other : ℕ) → (other ≡ x.serial → ⊥) → (other ≡ serial → ⊥)
      → (after.images x.process).contexts other ≡ (before.images x.process).contexts other
  pub memory : (after.images x.process).memory ≡ tick.memory
  pub elsewhere : (p : ℕ) → (p ≡ x.process → ⊥) → after.images p ≡ before.images p

abbrev pub CreatesLeave : Type 0
CreatesLeave = (c : Configuration) (w : World) (e : Entry) (x : ThreadId) (serial level quota : ℕ)
    → (step c w).past ≡ e ∷ w.past → executes (chosen c w.past) ≡ Some x
    → e.event ≡ Some (Event.Create serial level quota)
    → CreateLeaves w (step c w) x (tick_in c (w.images x.process) x.serial) serial level quota
