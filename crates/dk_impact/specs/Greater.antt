-- When neither a program nor a window shows how large the budget is.
use Rattle.std.specs.Prelude.{ℕ, ◌≤◌, Bool, true, false, not, ◌&&◌, List}
use Rattle.std.specs.List.{list_any}
use Rattle.dk_config.specs.Configuration.{Configuration}
use Rattle.dk_config.specs.Windows.{budget}
use Rattle.dk_isa.specs.Calls.{HoldsNoCall}
use Rattle.dk_trace.specs.declared.ThreadId.{ThreadId}
use Rattle.dk_trace.specs.declared.Refusal.{Refusal}
use Rattle.dk_trace.specs.declared.Event.{Event}
use Rattle.dk_trace.specs.declared.Entry.{Entry}
use Rattle.dk_trace.specs.Entries.{does}
use Rattle.dk_alone.specs.Again.{overruns}
use Rattle.dk_impact.specs.Impact.{SeesTheSameButTime}

-- no instruction of the program is the call that reads what is left of the budget
abbrev pub ReadsNoBudget : List ℕ → Type 0
ReadsNoBudget program = HoldsNoCall 10 program

-- The process p' of the other configuration is given no less than the process p of the one: it sees the same but its budget and the
-- length of its windows, its budget is no smaller, and its program doesn't read what is left.
pub record GivesNoLess (c : Configuration) (p : ℕ) (c' : Configuration) (p' : ℕ) (program : List ℕ) : Type 0 where
  pub sees : SeesTheSameButTime c p c' p' program
  pub budget : budget c p ≤ budget c' p'
  pub reads : ReadsNoBudget program

-- the refusal of a lock for which too little is left
abbrev pub is_for_want : Event → Bool
is_for_want (Event.Refused Refusal.TooLittle) = true
is_for_want _ = false

-- The window doesn't show how large the budget is: the main waited in it or was stopped, where it had ticks of its budget, and it
-- was refused no lock for which too little was left.
abbrev pub has_enough : ℕ → List Entry → Bool
has_enough p window =
    let main : ThreadId = record { process = p; serial = 0 } in
    not (overruns p window) && not (list_any (does is_for_want main) window)
