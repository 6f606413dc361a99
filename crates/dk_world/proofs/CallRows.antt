-- The worked rows of calls that are refused, line by line, and what calls leave in registers.
use Rattle.dk_world.proofs.Names.{[], map, Nop, Li, Lih, Ld, Jmp, Trap, In, Run, Call, Idle, Refusal, Event, number, Configuration, trace}
use Rattle.std.specs.Prelude.{ℕ, ◌≡◌, refl, ◌∷◌, ◌++◌, List}
use Rattle.dk_world.proofs.Lines.{entries, plain, ending, alpha, alpha_name, beta_name, bus_name, store_name, level, process, with_max_level, with_threads, mutex, configuration, program, spinner}
use Rattle.dk_world.proofs.HostileRows.{lending_all_frame, far_address_frame}
use Rattle.dk_world.proofs.ChildRows.{a_void_child_frame}
use Rattle.dk_world.proofs.States.{main_context, at}

pub numbers_of_refusals :
    map number (Refusal.NotMain ∷ Refusal.Level ∷ Refusal.Entry ∷ Refusal.Slots ∷ Refusal.TooSmall ∷ Refusal.Budget ∷ Refusal.NoThread ∷ Refusal.NotUser ∷ Refusal.Holding ∷ Refusal.TooLittle ∷ Refusal.NotHeld ∷ Refusal.HoldsWait ∷ Refusal.NoRight ∷ Refusal.Amount ∷ Refusal.NotLast ∷ [])
    ≡ 1 ∷ 2 ∷ 3 ∷ 4 ∷ 5 ∷ 6 ∷ 7 ∷ 8 ∷ 9 ∷ 10 ∷ 11 ∷ 12 ∷ 13 ∷ 14 ∷ 15 ∷ []
numbers_of_refusals = refl

-- a level before an entry, the number of whole instructions as an entry, and the calls of a child
pub creates_that_are_refused :
    trace a_void_child_frame ((program (Li 2 3 ∷ Li 3 9 ∷ Trap 3 ∷ Li 3 99 ∷ Trap 3 ∷ Li 1 0 ∷ Li 3 12 ∷ Trap 3 ∷ Trap 1 ∷ Li 1 9 ∷ Trap 3 ∷ Trap 4 ∷ []) ++ (0 ∷ 0 ∷ 0 ∷ [])) ∷ []) 14
    ≡ entries
    (plain 2 (Run (alpha 0))
    ∷ ending 1 (Call (alpha 0)) (Event.Create 1 0 3)
    ∷ plain 1 (Run (alpha 0))
    ∷ ending 1 (Call (alpha 0)) (Event.Refused Refusal.Level)
    ∷ plain 2 (Run (alpha 0))
    ∷ ending 1 (Call (alpha 0)) (Event.Refused Refusal.Entry)
    ∷ plain 2 Idle
    ∷ ending 1 (Call (alpha 0)) Event.Wait
    ∷ plain 1 (Run (alpha 1))
    ∷ ending 1 (Call (alpha 1)) (Event.Refused Refusal.NotMain)
    ∷ ending 1 (Call (alpha 1)) (Event.Refused Refusal.NotMain)
    ∷ []) []
creates_that_are_refused = refl

abbrev pub the_least_shares_frame : Configuration
the_least_shares_frame =
    configuration 1 1 (level 20 0 ∷ level 40 0 ∷ []) (with_threads 3 (process alpha_name 0 17) ∷ []) []

-- A share of a child, and what a main keeps, is 3 or more: a slow child of quota 2 has 4. Too small comes before a budget that doesn't suffice.
pub the_least_shares :
    trace the_least_shares_frame (program (Li 1 1 ∷ Li 2 1 ∷ Trap 3 ∷ Li 2 2 ∷ Trap 3 ∷ Li 1 0 ∷ Trap 3 ∷ Li 2 13 ∷ Trap 3 ∷ Li 2 12 ∷ Trap 3 ∷ Li 1 0 ∷ Li 2 1 ∷ Trap 3 ∷ Jmp 14 ∷ []) ∷ []) 16
    ≡ entries
    (plain 1 (In (alpha 0))
    ∷ plain 2 (Run (alpha 0))
    ∷ ending 1 (Call (alpha 0)) (Event.Refused Refusal.TooSmall)
    ∷ plain 1 (Run (alpha 0))
    ∷ ending 1 (Call (alpha 0)) (Event.Create 1 1 2)
    ∷ plain 1 (Run (alpha 0))
    ∷ ending 1 (Call (alpha 0)) (Event.Refused Refusal.TooSmall)
    ∷ plain 1 (Run (alpha 0))
    ∷ ending 1 (Call (alpha 0)) (Event.Refused Refusal.Budget)
    ∷ plain 1 (Run (alpha 0))
    ∷ ending 1 (Call (alpha 0)) (Event.Create 2 0 12)
    ∷ plain 2 (Run (alpha 0))
    ∷ ending 1 (Call (alpha 0)) (Event.Refused Refusal.TooSmall)
    ∷ plain 1 (Run (alpha 0))
    ∷ []) []
the_least_shares = refl

-- a configuration of version 2, in which children may have two of three levels
abbrev pub the_slowest_level_of_children_frame : Configuration
the_slowest_level_of_children_frame =
    record (configuration 0 1 (level 10 0 ∷ level 20 0 ∷ level 40 0 ∷ []) [] []) {
      version = 2;
      processes = with_threads 1 (with_max_level 1 (process alpha_name 0 8)) ∷ [];
    }

pub the_slowest_level_of_children :
    trace the_slowest_level_of_children_frame (program (Li 1 2 ∷ Li 2 2 ∷ Li 3 6 ∷ Trap 3 ∷ Li 1 1 ∷ Trap 3 ∷ Jmp 6 ∷ []) ∷ []) 8
    ≡ entries
    (plain 3 (Run (alpha 0))
    ∷ ending 1 (Call (alpha 0)) (Event.Refused Refusal.Level)
    ∷ plain 1 (Run (alpha 0))
    ∷ ending 1 (Call (alpha 0)) (Event.Create 1 1 2)
    ∷ plain 2 (Run (alpha 0))
    ∷ []) []
the_slowest_level_of_children = refl

abbrev pub locks_that_are_refused_frame : Configuration
locks_that_are_refused_frame =
    configuration 0 1 (level 20 0 ∷ []) (process alpha_name 0 12 ∷ process beta_name 0 6 ∷ []) (mutex bus_name 0 8 (alpha_name ∷ []) ∷ mutex store_name 0 5 (beta_name ∷ []) ∷ [])

-- The mutex that it holds, and one that it may not use. Too little is left for both of them.
pub locks_that_are_refused :
    trace locks_that_are_refused_frame (program (Trap 5 ∷ Trap 5 ∷ Li 1 1 ∷ Trap 5 ∷ Li 1 0 ∷ Trap 6 ∷ Jmp 6 ∷ []) ∷ spinner ∷ []) 6
    ≡ entries
    (ending 1 (Call (alpha 0)) (Event.Lock 0)
    ∷ ending 1 (Call (alpha 0)) (Event.Refused Refusal.Holding)
    ∷ plain 1 (Run (alpha 0))
    ∷ ending 1 (Call (alpha 0)) (Event.Refused Refusal.NotUser)
    ∷ plain 1 (Run (alpha 0))
    ∷ ending 1 (Call (alpha 0)) (Event.Unlock 0)
    ∷ []) []
locks_that_are_refused = refl

pub one_child_of_two_is_deleted :
    trace lending_all_frame (program (Li 2 2 ∷ Trap 3 ∷ Li 1 0 ∷ Trap 3 ∷ Trap 4 ∷ Trap 1 ∷ Trap 1 ∷ []) ∷ []) 13
    ≡ entries
    (plain 1 (Run (alpha 0))
    ∷ ending 1 (Call (alpha 0)) (Event.Create 1 0 2)
    ∷ plain 1 (Run (alpha 0))
    ∷ ending 1 (Call (alpha 0)) (Event.Create 2 0 2)
    ∷ ending 1 (Call (alpha 0)) (Event.Delete 2)
    ∷ ending 1 (Call (alpha 0)) Event.Wait
    ∷ plain 4 Idle
    ∷ ending 1 (Call (alpha 0)) Event.Wait
    ∷ plain 1 (Run (alpha 1))
    ∷ ending 1 (Call (alpha 1)) (Event.Refused Refusal.NotMain)
    ∷ []) []
one_child_of_two_is_deleted = refl

abbrev pub a_call_of_two_ticks_frame : Configuration
a_call_of_two_ticks_frame =
    configuration 0 2 (level 10 0 ∷ []) (process alpha_name 0 8 ∷ []) []

abbrev pub reader : List ℕ
reader = program (Trap 4 ∷ Nop ∷ Trap 9 ∷ Jmp 3 ∷ [])

-- r0 stays while other instructions are done and a call takes its ticks
pub state_in_a_call :
    main_context a_call_of_two_ticks_frame (reader ∷ []) 0 4
    ≡ record { regs = 7 ∷ 0 ∷ 0 ∷ 0 ∷ 0 ∷ 0 ∷ 0 ∷ 0 ∷ []; pc = 2; left = 1 }
state_in_a_call = refl

-- a call that only answers leaves 0 in r0
pub state_after_reading_the_tick :
    main_context a_call_of_two_ticks_frame (reader ∷ []) 0 5 ≡ at 3 (0 ∷ 4 ∷ 0 ∷ 0 ∷ 0 ∷ 0 ∷ 0 ∷ 0 ∷ [])
state_after_reading_the_tick = refl

-- a fault of the program's own leaves pc and registers
pub state_after_a_fault :
    main_context far_address_frame (program (Li 2 65535 ∷ Lih 2 65535 ∷ Ld 1 2 1 ∷ []) ∷ []) 0 3
    ≡ at 2 (0 ∷ 0 ∷ 4294967295 ∷ 0 ∷ 0 ∷ 0 ∷ 0 ∷ 0 ∷ [])
state_after_a_fault = refl
