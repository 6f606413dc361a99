-- The shares that the loans leave and give.
use Rattle.std.specs.Prelude.{ℕ, ◌+◌, ◌-◌, ◌*◌, ◌/◌, ◌==◌, nat_lt, nat_le, if◌then◌else◌, false, find, List, sum_by, slice_get}
use Rattle.std.specs.Option.{option_map_or}
use Rattle.dk_config.specs.Sums.{sum_every}
use Rattle.dk_windows.specs.Clock.{Clock, start_at, end_at, period_at}
use Rattle.dk_budget.specs.declared.loan.Loan.{Loan}
use Rattle.dk_budget.specs.declared.lender.Lender.{Lender}
use Rattle.dk_budget.specs.declared.starts.Starts.{Starts}
use Rattle.dk_budget.specs.Loans.{is_in_force, lent, lent_at}
use Rattle.dk_budget.specs.Book.{Book, period_in}

-- a number of a process, and 0 where there is no such process
abbrev pub of_lender : (Lender → ℕ) → Book → ℕ → ℕ
of_lender f b p = option_map_or f (slice_get b.lenders p) 0

-- a main's share of the window of its level that starts at s: what is not lent there, and nothing after its stop
abbrev pub main_share : Lender → ℕ → ℕ
main_share x s =
    if option_map_or (λ stop. nat_lt stop s) x.stop false then 0 else x.budget - lent_at s x.loans.items

-- a quota, which is ticks of a window of the main's level, as ticks of a window of the child's
abbrev pub quota_at : List ℕ → ℕ → ℕ → ℕ → ℕ
quota_at periods main level quota = (quota * period_in periods level) / period_in periods main

-- a child's share of the window of its level that starts at s
abbrev pub child_share : List ℕ → ℕ → Loan → ℕ → ℕ
child_share periods main l s = if is_in_force s l then quota_at periods main l.level l.quota else 0

-- the least share with which a thread gets in, does something and gets out
abbrev pub least_share : ℕ → ℕ
least_share switch = 2 * switch + 1

-- the main's share of the present window
abbrev pub present_main_share : Book → Clock → ℕ → ℕ
present_main_share b w p = of_lender (λ x. main_share x (start_at w x.level)) b p

-- the share of the child of that serial of the present window of its level
abbrev pub present_child_share : Book → Clock → ℕ → ℕ → ℕ
present_child_share b w p serial =
    of_lender
    (λ x. option_map_or (λ l. child_share b.periods x.level l (start_at w l.level))
    (find (λ l. l.serial == serial) x.loans.items) 0)
    b p

-- how many windows of level i begin after the present tick and before the window of level j ends, which is no faster
abbrev pub windows_left : Clock → ℕ → ℕ → ℕ
windows_left w i j = (end_at w j - end_at w i) / period_at w i

-- f at the start of each of them, added up
abbrev pub sum_starts : Clock → ℕ → ℕ → (ℕ → ℕ) → ℕ
sum_starts w i j f = sum_every (period_at w i) (end_at w i) (windows_left w i j) f

-- f at each of the starts, added up
abbrev pub sum_over : Starts → (ℕ → ℕ) → ℕ
sum_over x f = sum_every x.period x.first x.count f

-- a main's shares at the window starts to come before the window of level j ends, where its level is not slower
abbrev pub main_future : Clock → ℕ → Lender → ℕ
main_future w j x = if nat_le x.level j then sum_starts w x.level j (main_share x) else 0

-- a child's
abbrev pub child_future : List ℕ → ℕ → Clock → ℕ → Loan → ℕ
child_future periods main w j l = if nat_le l.level j then sum_starts w l.level j (child_share periods main l) else 0

-- the shares of the process's threads of levels up to j at the window starts to come before the window of level j ends
abbrev pub future_shares : Book → Clock → ℕ → ℕ → ℕ
future_shares b w p j =
    of_lender (λ x. main_future w j x + sum_by (child_future b.periods x.level w j) x.loans.items) b p
