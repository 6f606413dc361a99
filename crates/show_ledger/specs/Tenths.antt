-- In how many of its windows a main used so many tenths of its budget. A past is the list of the entries so far, the newest
-- first.
use Rattle.std.specs.Prelude.{ℕ, ◌*◌, ◌/◌, ◌==◌, Bool, List, map, min, count_by}
use Rattle.dk_config.specs.Sums.{below}
use Rattle.dk_trace.specs.declared.Entry.{Entry}
use Rattle.dk_ledger.specs.Heading.{Heading}
use Rattle.dk_window_report.specs.declared.row.Did.{Did}
use Rattle.dk_window_report.specs.Windows.{until_stopped}
use Rattle.dk_window_report.specs.Owners.{Owner, main_owner, did_of}
use Rattle.dk_window_report.specs.Firsts.{budget_at}

-- How many whole tenths of the budget these ticks are: 10 is the whole budget, and so are more ticks than it has.
abbrev pub tenth : ℕ → ℕ → ℕ
tenth budget used = min (used * 10 / budget) 10

-- it used so many tenths of the budget
abbrev pub is_tenth : ℕ → ℕ → Did → Bool
is_tenth budget k d = tenth budget d.used == k

-- What a thread did in its windows that have ended, up to the one in which it was stopped. So they are those whose number is
-- told (`windows`).
abbrev pub lived : Owner → List Entry → List Did
lived o past = until_stopped (did_of o past)

-- in how many windows it used no tenth, one, two and so on up to ten
abbrev pub tenth_counts : ℕ → List Did → List ℕ
tenth_counts budget ds = map (λ k. count_by (is_tenth budget k) ds) (below 11)

-- of the main of a process
abbrev pub tenths_of : Heading → List Entry → ℕ → List ℕ
tenths_of h past p = tenth_counts (budget_at h p) (lived (main_owner h p) past)
