-- What the laws of the loans say, of every configuration and every past.
use Rattle.std.specs.Prelude.{◌∷◌, ℕ, ◌+◌, ◌-◌, ◌<◌, ◌≡◌, ◌==◌, List, None, Some, find, if◌then◌else◌, length, nat_le, sum_by, false, true}
use Rattle.dk_config.specs.Checked.{IsChecked}
use Rattle.dk_config.specs.Configuration.{Configuration}
use Rattle.dk_config.specs.Windows.{main_level, window_end, window_start}
use Rattle.dk_trace.specs.declared.Entry.{Entry}
use Rattle.dk_trace.specs.Threads.{Thread, family, is_main, share}
use Rattle.dk_trace.specs.Demand.{sum_starts}
use Rattle.dk_trace.specs.Members.{Has}
use Rattle.dk_trace.specs.Refusals.{create_refusal}
use Rattle.dk_windows.specs.Clock.{clock_at}
use Rattle.dk_budget.specs.Shares.{future_shares, present_child_share, present_main_share}
use Rattle.dk_budget.specs.Calls.{all_given_back, lend_refusal, lent_to, new_loan, stopped_child, stopped_process}
use Rattle.dk_budget.specs.Recount.{HasSlowerChildren, IsFamilyOf, IsRecount, MakesChild, StopsOnly, counted_lender, counted_stop, recount}

-- An entry that stops no thread of a process and makes none changes no loan.
abbrev pub QuietKeepsLoans : Type 0
QuietKeepsLoans =
    (c : Configuration) (past : List Entry) (e : Entry) (p : ℕ) → IsChecked c
    → StopsOnly c past e p (λ s. false) false
    → counted_lender c (length past) (e ∷ past) p ≡ counted_lender c (length past) past p

-- A create adds the loan of the child.
abbrev pub CreateAddsLoan : Type 0
CreateAddsLoan =
    (c : Configuration) (past : List Entry) (e : Entry) (p serial level quota : ℕ)
    → MakesChild c past e p serial level quota
    → counted_lender c (length past) (e ∷ past) p
    ≡ lent_to (new_loan (clock_at c (length past)) serial level quota) (counted_lender c (length past) past p)

-- The stop of a child ends its loan.
abbrev pub ChildsStopEndsLoan : Type 0
ChildsStopEndsLoan =
    (c : Configuration) (past : List Entry) (e : Entry) (p serial : ℕ) → IsChecked c
    → StopsOnly c past e p (λ s. s == serial) false
    → counted_lender c (length past) (e ∷ past) p
    ≡ stopped_child (clock_at c (length past)) serial (counted_lender c (length past) past p)

-- The stop of a main ends all loans.
abbrev pub MainsStopEndsLoans : Type 0
MainsStopEndsLoans =
    (c : Configuration) (past : List Entry) (e : Entry) (p : ℕ) → IsChecked c
    → StopsOnly c past e p (λ s. true) true → counted_stop c past p ≡ None
    → counted_lender c (length past) (e ∷ past) p
    ≡ stopped_process (clock_at c (length past)) (counted_lender c (length past) past p)

-- At the next tick the loans are given back that are due.
abbrev pub OpeningGivesBack : Type 0
OpeningGivesBack =
    (c : Configuration) (now : ℕ) (past : List Entry)
    → IsRecount c (now + 1) past (all_given_back (now + 1) (recount c now past))

-- A loan is refused as a create is by the past.
abbrev pub RefusesLoans : Type 0
RefusesLoans =
    (c : Configuration) (now : ℕ) (past : List Entry) (x : Thread) (level quota entry instructions : ℕ)
    → x.id.process < length c.processes → is_main x ≡ true
    → lend_refusal (recount c now past) x.id.process level quota entry instructions
    ≡ create_refusal c now past x level quota entry instructions

-- The main's share of the present window is the past's.
abbrev pub TellsMainShares : Type 0
TellsMainShares =
    (c : Configuration) (now : ℕ) (past : List Entry) (x : Thread) → IsChecked c → x.id.process < length c.processes
    → is_main x ≡ true → find is_main (family c x.id.process past) ≡ Some x → HasSlowerChildren c past x.id.process
    → present_main_share (recount c now past) (clock_at c now) x.id.process
    ≡ share c past x (window_start c (main_level c x.id.process) now)

-- A child's share of the present window is the past's.
abbrev pub TellsChildShares : Type 0
TellsChildShares =
    (c : Configuration) (now : ℕ) (past : List Entry) (p : ℕ) (main : Thread) (children : List Thread) (y : Thread)
    → IsChecked c → p < length c.processes → IsFamilyOf c now past p main children → Has children y
    → present_child_share (recount c now past) (clock_at c now) p y.id.serial
    ≡ share c past y (window_start c y.level now)

-- The shares to come before a level's window ends are the past's.
abbrev pub TellsFutureShares : Type 0
TellsFutureShares =
    (c : Configuration) (now j : ℕ) (past : List Entry) (p : ℕ) (main : Thread) (children : List Thread)
    → IsChecked c → p < length c.processes → IsFamilyOf c now past p main children
    → future_shares (recount c now past) (clock_at c now) p j
    ≡ sum_by (λ x. if nat_le x.level j then sum_starts c x.level now (window_end c j now) (share c past x) else 0)
    (family c p past)
