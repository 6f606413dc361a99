-- Entries that break the rules, one rule each, and what a call that is done may not be refused for.
use Rattle.dk_world.proofs.Names.{◌≡◌, inl, inr, refl, false, true, List, ◌∷◌, Option, Some, None, arith, map, Nop, Jmp, Trap, FaultKind, Label, In, Run, Call, Idle, Refusal, Event, Entry, main_thread, Follows, done_refusal, Configuration, trace}
use Rattle.std.proofs.Common.{[]}
use Rattle.dk_world.proofs.Lines.{alpha, program}
use Rattle.dk_world.proofs.FirstRows.{two_spinners_frame, no_such_instruction_frame}
use Rattle.dk_world.proofs.CostRows.{switch_in_and_out_frame}
use Rattle.dk_world.proofs.ChildRows.{a_child_of_a_full_budget_frame}
use Rattle.dk_world.proofs.HostileRows.{unlock_in_the_last_tick_frame}

-- over this past no entry with the label and the event follows the rules
abbrev pub Breaks : Configuration → List Entry → Label → Option Event → Type 0
Breaks c past label event = Follows c past (record { label = label; event = event }) → ⊥

pub a_tick_of_another_label : Breaks two_spinners_frame [] Idle None
a_tick_of_another_label follows = elim follows.choice [ inl run ↦ absurd (cc) | inr call ↦ absurd (cc) ]

pub an_exit_without_a_call : Breaks two_spinners_frame [] (Run (alpha 0)) (Some Event.Exit)
an_exit_without_a_call follows = follows.work

pub a_division_in_a_call : Breaks two_spinners_frame [] (Call (alpha 0)) (Some (Event.Fault FaultKind.Divide))
a_division_in_a_call follows = let hold : FaultKind.Divide ≡ FaultKind.Hold = follows.work in absurd (cc)

pub an_exit_on_the_way_in : Breaks switch_in_and_out_frame [] (In (alpha 0)) (Some Event.Exit)
an_exit_on_the_way_in follows = follows.work

pub a_hold_of_nobody_breaks : Breaks two_spinners_frame [] (Run (alpha 0)) (Some (Event.Fault FaultKind.Hold))
a_hold_of_nobody_breaks follows = let last : 0 ≡ 1 = follows.thread.fault refl in absurd (omega (arith, last))

pub a_serial_that_is_left_out : Breaks a_child_of_a_full_budget_frame [] (Call (alpha 0)) (Some (Event.Create 2 0 3))
a_serial_that_is_left_out follows = let next : 2 ≡ 1 = follows.thread.met.0 in absurd (omega (arith, next))

pub a_lock_of_no_mutex : Breaks two_spinners_frame [] (Call (alpha 0)) (Some (Event.Lock 0))
a_lock_of_no_mutex follows = let met : Some Refusal.NotUser ≡ None = follows.thread.met.1 in absurd (cc)

-- a lock and two ticks, of a mutex that may be held for three
abbrev pub holding : List Entry
holding = trace unlock_in_the_last_tick_frame (program (Trap 5 ∷ Nop ∷ Nop ∷ Trap 6 ∷ Jmp 4 ∷ []) ∷ []) 3

pub a_hold_that_goes_on : Breaks unlock_in_the_last_tick_frame holding (Run (alpha 0)) None
a_hold_that_goes_on follows = let ends : false ≡ true = follows.thread.last refl in absurd (cc)

-- each done call by its own refusals; no exit and no put is ever refused, and of a create the entry isn't looked at
pub done_refusals :
    map (done_refusal no_such_instruction_frame 0 [] (main_thread no_such_instruction_frame 0))
    (Event.Create 1 9 0 ∷ Event.Create 1 0 1 ∷ Event.Delete 1 ∷ Event.Lock 0 ∷ Event.Unlock 0 ∷ Event.Slack 5 ∷ Event.Wait ∷ Event.Exit ∷ Event.Put 3 ∷ [])
    ≡ Some Refusal.Level ∷ Some Refusal.Slots ∷ Some Refusal.NoThread ∷ Some Refusal.NotUser ∷ Some Refusal.NotHeld ∷ Some Refusal.NoRight ∷ None ∷ None ∷ None ∷ []
done_refusals = refl

pub a_wait_of_a_holder :
    done_refusal unlock_in_the_last_tick_frame 3 holding (main_thread unlock_in_the_last_tick_frame 0) Event.Wait
    ≡ Some Refusal.HoldsWait
a_wait_of_a_holder = refl
