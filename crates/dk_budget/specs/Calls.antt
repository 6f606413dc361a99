-- What the calls refuse and change.
use Rattle.std.specs.Prelude.{ℕ, ◌+◌, Bool, ◌||◌, nat_lt, nat_le, List, [], ◌∷◌, ◌++◌, length, map, slice_get, slice_set, Option, Some, None}
use Rattle.std.specs.Option.{option_map_or}
use Rattle.std.specs.List.{filter_map}
use Rattle.dk_windows.specs.Clock.{Clock, end_at}
use Rattle.dk_trace.specs.declared.Refusal.{Refusal}
use Rattle.dk_trace.specs.Refusals.{first_refusal}
use Rattle.dk_budget.specs.declared.loan.Loan.{Loan}
use Rattle.dk_budget.specs.declared.lender.Lender.{Lender}
use Rattle.dk_budget.specs.Loans.{lent, stopped, stopped_one, not_ended_at}
use Rattle.dk_budget.specs.Book.{Book}
use Rattle.dk_budget.specs.Shares.{quota_at, least_share}

-- why a loan of that quota to a child of that level is refused; entry is its first instruction, of so many
abbrev pub lend_reasons : ℕ → List ℕ → Lender → ℕ → ℕ → ℕ → ℕ → List (Bool × Refusal)
lend_reasons switch periods x level quota entry instructions =
    ((nat_lt level x.level || nat_lt x.max_level level, Refusal.Level)
    ∷ (nat_le instructions entry, Refusal.Entry)
    ∷ (nat_le x.threads (length x.loans.items), Refusal.Slots)
    ∷ (nat_lt (quota_at periods x.level level quota) (least_share switch), Refusal.TooSmall)
    ∷ (nat_lt x.budget (lent x.loans.items + quota + least_share switch), Refusal.Budget)
    ∷ [])

abbrev pub lend_refusal : Book → ℕ → ℕ → ℕ → ℕ → ℕ → Option Refusal
lend_refusal b p level quota entry instructions =
    option_map_or (λ x. first_refusal (lend_reasons b.switch b.periods x level quota entry instructions))
    (slice_get b.lenders p) None

-- the rows with another one of the process
abbrev pub changed_row : ℕ → (Lender → Lender) → List Lender → List Lender
changed_row p change rows = option_map_or (λ x. slice_set rows p (change x)) (slice_get rows p) rows

-- all else stays as it was
abbrev pub changed_at : ℕ → (Lender → Lender) → Book → Book
changed_at p change b = record b { lenders = changed_row p change b.lenders }

abbrev pub with_loans : List Loan → Lender → Lender
with_loans loans x = record x { loans = record { items = loans } }

-- a child of that level would start with the next window
abbrev pub new_loan : Clock → ℕ → ℕ → ℕ → Loan
new_loan w serial level quota = record {
  serial = serial;
  level = level;
  quota = quota;
  start = end_at w level;
  end = None;
}

abbrev pub lent_to : Loan → Lender → Lender
lent_to l x = with_loans (x.loans.items ++ l ∷ []) x

abbrev pub stopped_child : Clock → ℕ → Lender → Lender
stopped_child w serial x = with_loans (filter_map (stopped_one w serial) x.loans.items) x

abbrev pub stopped_process : Clock → Lender → Lender
stopped_process w x = with_loans (filter_map (stopped w) x.loans.items) (record x { stop = Some w.tick })

abbrev pub given_back : ℕ → Lender → Lender
given_back now x = with_loans (not_ended_at now x.loans.items) x

-- every process after that
abbrev pub all_given_back : ℕ → Book → Book
all_given_back now b = record b { lenders = map (given_back now) b.lenders }
