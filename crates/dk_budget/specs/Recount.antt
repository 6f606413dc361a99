-- When a table of loans is the recount of a past. The present tick is an argument: at a call's effect the past
-- has its entry already.
use Rattle.std.specs.Prelude.{ℕ, ◌≡◌, ◌<◌, ◌≤◌, Bool, true, false, List, [], ◌∷◌, length, map, find, Option, Some, None}
use Rattle.std.specs.Option.{option_map_or}
use Rattle.std.specs.List.{range_with_len}
use Rattle.dk_config.specs.Configuration.{Configuration}
use Rattle.dk_config.specs.Windows.{main_level}
use Rattle.dk_windows.specs.Clock.{periods_of}
use Rattle.dk_trace.specs.declared.Entry.{Entry}
use Rattle.dk_trace.specs.declared.Event.{Event}
use Rattle.dk_trace.specs.Entries.{is_of, stops}
use Rattle.dk_trace.specs.Members.{Has}
use Rattle.dk_trace.specs.Threads.{Thread, family, is_main, end_of, made_by}
use Rattle.dk_trace.specs.Refusals.{standing_children}
use Rattle.dk_budget.specs.declared.loan.Loan.{Loan}
use Rattle.dk_budget.specs.declared.lender.Lender.{Lender}
use Rattle.dk_budget.specs.Book.{Book, lender_of}

-- what a main has lent to the child
abbrev pub counted_loan : Configuration → Thread → Loan
counted_loan c x = record { serial = x.id.serial; level = x.level; quota = x.quota; start = x.start; end = end_of c x }

-- the stop of the process's main
abbrev pub counted_stop : Configuration → List Entry → ℕ → Option ℕ
counted_stop c past p = option_map_or (λ x. x.stop) (find is_main (family c p past)) None

-- the process with the loans of its children that are neither void nor ended, in the order in which they were made
abbrev pub counted_lender : Configuration → ℕ → List Entry → ℕ → Lender
counted_lender c now past p =
    record (lender_of c p) {
      stop = counted_stop c past p;
      loans = record { items = map (counted_loan c) (standing_children c now past p) };
    }

abbrev pub recount : Configuration → ℕ → List Entry → Book
recount c now past = record {
  switch = c.costs.switch;
  periods = periods_of c;
  lenders = map (counted_lender c now past) (range_with_len 0 (length c.processes));
}

abbrev pub IsRecount : Configuration → ℕ → List Entry → Book → Type 0
IsRecount c now past b = b ≡ recount c now past

-- The present entry makes no child of the process. It stops those of its children whose serial passes the test, and
-- its main or not. Its children have levels that there are.
pub record StopsOnly (c : Configuration) (past : List Entry) (e : Entry) (p : ℕ) (meant : ℕ → Bool)
    (main : Bool) : Type 0 where
  pub levels : (y : Thread) → Has (family c p past) y → y.level < length c.levels
  pub makes_none : is_of (record { process = p; serial = 0 }) e ≡ true → made_by c p (length past) e.event ≡ []
  pub children : (y : Thread) → Has (family c p past) y → is_main y ≡ false → stops y.id e ≡ meant y.id.serial
  pub mains : (y : Thread) → Has (family c p past) y → is_main y ≡ true → stops y.id e ≡ main

-- The present entry is one of the process's main that makes this child, and stops no thread of the process.
pub record MakesChild (c : Configuration) (past : List Entry) (e : Entry) (p serial level quota : ℕ) : Type 0 where
  pub own : is_of (record { process = p; serial = 0 }) e ≡ true
  pub event : e.event ≡ Some (Event.Create serial level quota)
  pub child : 0 < serial
  pub stays : (y : Thread) → Has (family c p past) y → stops y.id e ≡ false

-- the levels of the process's children are not above its main's, in speed, and are levels that there are
abbrev pub HasSlowerChildren : Configuration → List Entry → ℕ → Type 0
HasSlowerChildren c past p =
    (y : Thread) → Has (family c p past) y → (main_level c p ≤ y.level) × (y.level < length c.levels)

-- what is known of the row of a child of process p; its stop isn't yet to come
pub record IsChildOf (c : Configuration) (now p : ℕ) (y : Thread) : Type 0 where
  pub process : y.id.process ≡ p
  pub child : is_main y ≡ false
  pub low : main_level c p ≤ y.level
  pub known : y.level < length c.levels
  pub stopped : (t : ℕ) → y.stop ≡ Some t → t ≤ now

-- A process has its main's row first, and then those of its children, no two of one serial.
pub record IsFamilyOf (c : Configuration) (now : ℕ) (past : List Entry) (p : ℕ) (main : Thread)
    (children : List Thread) : Type 0 where
  pub rows : family c p past ≡ main ∷ children
  pub first : is_main main ≡ true
  pub process : main.id.process ≡ p
  pub level : main.level ≡ main_level c p
  pub each : (y : Thread) → Has children y → IsChildOf c now p y
  pub distinct : (y z : Thread) → Has children y → Has children z → y.id.serial ≡ z.id.serial → y ≡ z
