-- A loan: in which windows it is in force, and what a stop makes of it.
use Rattle.std.specs.Prelude.{ℕ, ◌+◌, Bool, true, false, not, ◌&&◌, ◌==◌, nat_lt, nat_le, if◌then◌else◌, List, sum_by, filter, Option, Some, None, is_some, option_map}
use Rattle.std.specs.Option.{option_map_or}
use Rattle.dk_windows.specs.Clock.{Clock, end_at}
use Rattle.dk_budget.specs.declared.loan.Loan.{Loan}

-- whether s comes before the tick; it does where there is none
abbrev pub is_before : Option ℕ → ℕ → Bool
is_before tick s = option_map_or (λ t. nat_lt s t) tick true

-- the tick after the stop
abbrev pub after_stop : Option ℕ → Option ℕ
after_stop stop = option_map (λ t. t + 1) stop

-- whether the loan is in force in a window that starts at s
abbrev pub is_in_force : ℕ → Loan → Bool
is_in_force s l = nat_le l.start s && is_before l.end s

-- whether the loan has that end
abbrev pub is_ended_at : ℕ → Loan → Bool
is_ended_at now l = option_map_or (λ tick. tick == now) l.end false

-- all that is lent
abbrev pub lent : List Loan → ℕ
lent loans = sum_by (λ l. l.quota) loans

-- what is lent in a window of the main that starts at s
abbrev pub lent_at : ℕ → List Loan → ℕ
lent_at s loans = sum_by (λ l. if is_in_force s l then l.quota else 0) loans

-- the loan once its child is stopped at the present tick; none where the child has not started
abbrev pub stopped : Clock → Loan → Option Loan
stopped w l =
    if is_some l.end then Some l
    else if nat_lt w.tick l.start then None
    else Some (record l { end = Some (end_at w l.level) })

-- the loan once the child of that serial is stopped
abbrev pub stopped_one : Clock → ℕ → Loan → Option Loan
stopped_one w serial l = if l.serial == serial then stopped w l else Some l

-- the loans that do not end at the tick
abbrev pub not_ended_at : ℕ → List Loan → List Loan
not_ended_at now loans = filter (λ l. not (is_ended_at now l)) loans
