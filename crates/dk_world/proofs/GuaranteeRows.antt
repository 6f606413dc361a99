-- What is promised is false of these entries: too few ticks of a share or of the kernel's work, too many of them, a way out that isn't paid, and slack
-- that goes to nobody or to somebody else.
use Rattle.dk_world.proofs.Names.{ℕ, ◌≡◌, ◌≤◌, inl, inr, refl, ap, false, true, List, ◌∷◌, Option, Some, None, arith, ThreadId, Kernel, In, Run, Call, Slack, Idle, Timeline, Work, Event, Entry, main_thread, HadShare, Received, Bounded, Granted, nat_tests}
use Rattle.std.proofs.Common.{[]}
use Rattle.dk_world.proofs.Lines.{entries, plain, ending, alpha, beta}
use Rattle.dk_world.proofs.FirstRows.{no_such_instruction_frame, release_work_frame}
use Rattle.dk_world.proofs.CostRows.{switch_in_and_out_frame}
use Rattle.dk_world.proofs.SlackRows.{the_older_wish_first_frame}

-- two of a share of three
abbrev pub two_ticks : List Entry
two_ticks = entries (plain 2 (Run (alpha 0)) ∷ plain 8 Idle ∷ []) []

pub too_few_ticks : Received no_such_instruction_frame two_ticks → ⊥
too_few_ticks received =
    let share : HadShare no_such_instruction_frame two_ticks (main_thread no_such_instruction_frame 0) 0 =
    received.0 (main_thread no_such_instruction_frame 0) 0 (inl refl) refl (omega arith) in
    elim share [
      | inl whole ↦ let wrong : 2 ≡ 3 = whole in absurd (omega (arith, wrong))
      | inr waited ↦ let wrong : false ≡ true = waited.0 in absurd (cc)
    ]

-- in the window of the wait the way out isn't paid
abbrev pub no_way_out : List Entry
no_way_out = entries (plain 1 (In (alpha 0)) ∷ ending 1 (Call (alpha 0)) Event.Wait ∷ plain 8 Idle ∷ []) []

pub an_unpaid_way_out : Received switch_in_and_out_frame no_way_out → ⊥
an_unpaid_way_out received =
    let share : HadShare switch_in_and_out_frame no_way_out (main_thread switch_in_and_out_frame 0) 0 =
    received.0 (main_thread switch_in_and_out_frame 0) 0 (inl refl) refl (omega arith) in
    elim share [
      | inl whole ↦ let wrong : 2 ≡ 5 = whole in absurd (omega (arith, wrong))
      | inr waited ↦ let wrong : 0 ≡ 1 = waited.1 (omega arith) in absurd (omega (arith, wrong))
    ]

-- one of two ticks of the kernel
abbrev pub one_of_the_kernel : List Entry
one_of_the_kernel = entries (plain 1 (Kernel 0) ∷ plain 3 (Run (alpha 0)) ∷ plain 6 Idle ∷ []) []

pub too_few_ticks_of_the_kernel : Received release_work_frame one_of_the_kernel → ⊥
too_few_ticks_of_the_kernel received = grind (arith, nat_tests)

-- a tick too many, in a window that has begun
abbrev pub four_ticks : List Entry
four_ticks = entries (plain 4 (Run (alpha 0)) ∷ []) []

pub too_many_ticks : Bounded no_such_instruction_frame four_ticks → ⊥
too_many_ticks bounded =
    let wrong : 4 ≤ 3 = bounded.0 (main_thread no_such_instruction_frame 0) 0 (inl refl) refl in absurd (omega (arith, wrong))

pub too_many_ticks_of_the_kernel : Bounded release_work_frame (entries (plain 3 (Kernel 0) ∷ []) []) → ⊥
too_many_ticks_of_the_kernel bounded = grind (arith, nat_tests)

-- both have asked, and alpha first
abbrev pub asked : List Entry
asked =
    entries
    (plain 1 (Run (alpha 0)) ∷ ending 1 (Call (alpha 0)) (Event.Slack 4) ∷ plain 1 (Run (alpha 0))
    ∷ plain 1 (Run (beta 0)) ∷ ending 1 (Call (beta 0)) (Event.Slack 3) ∷ plain 1 (Run (beta 0)) ∷ []) []

pub slack_of_nobody : Granted the_older_wish_first_frame (entries (plain 1 Idle ∷ []) asked) → ⊥
slack_of_nobody granted = let wrong : None ≡ Some (alpha 0) = granted.1 in absurd (cc)

abbrev process_of : Option ThreadId → ℕ
process_of (Some x) = x.process
process_of None = 0

pub slack_of_somebody_else : Granted the_older_wish_first_frame (entries (plain 1 (Slack (beta 0) Timeline Work.Run) ∷ []) asked) → ⊥
slack_of_somebody_else granted = let wrong : 1 ≡ 0 = ap process_of granted.1 in absurd (omega (arith, wrong))

-- and nobody had any before
pub slack_unasked : Granted the_older_wish_first_frame (entries (plain 1 (Slack (alpha 0) Timeline Work.Run) ∷ []) []) → ⊥
slack_unasked granted = let wrong : Some (alpha 0) ≡ None = granted.1 in absurd (cc)
