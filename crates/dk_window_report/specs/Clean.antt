-- Whether a ledger is clean.
use Rattle.std.specs.Prelude.{ℕ, ◌&&◌, ◌==◌, Bool, false, not, nat_lt, List, sum_by, min, slice_get}
use Rattle.std.specs.List.{list_any}
use Rattle.std.specs.Option.{option_map_or}
use Rattle.dk_trace.specs.declared.Entry.{Entry}
use Rattle.dk_trace.specs.Entries.{has_event}
use Rattle.dk_ledger.specs.Heading.{Heading}
use Rattle.dk_window_report.specs.declared.account.Account.{Account}
use Rattle.dk_window_report.specs.declared.row.Row.{Row}
use Rattle.dk_window_report.specs.Accounts.{accounts_of}
use Rattle.dk_window_report.specs.Owners.{owners, numbers_of}
use Rattle.dk_window_report.specs.Rows.{is_trouble, rows_of}

-- in how many windows a thread overran, over all threads, up to the last value of 32 bits
abbrev pub overruns : Heading → List Entry → ℕ
overruns h past = min (sum_by (λ o. (numbers_of past o).overran) (owners h past)) 4294967295

-- nothing overran, no call was refused, and no thread faulted
abbrev pub is_clean : Heading → List Entry → Bool
is_clean h past = (overruns h past == 0) && not (list_any (has_event is_trouble) past)

-- ---- where a thread that lives on slack may overrun

abbrev pub has_slack : List Account → ℕ → Bool
has_slack accounts p = option_map_or (λ a. nat_lt 0 a.slack.count) (slice_get accounts p) false

-- its process had slack, and the thread never waited
abbrev pub lives_on_slack : List Account → Row → Bool
lives_on_slack accounts r = has_slack accounts r.thread.process && (r.counts.waited == 0)

-- it overran, and where those that live on slack are left out it isn't one of them
abbrev pub counts : Bool → List Account → Row → Bool
counts sparing accounts r = nat_lt 0 r.counts.overran && not (sparing && lives_on_slack accounts r)

abbrev pub is_clean_by : Bool → List Row → List Account → Bool → Bool
is_clean_by sparing rows accounts troubled = not (list_any (counts sparing accounts) rows) && not troubled

-- No thread overran, but one that lives on slack where these are left out; no call was refused, and no thread faulted.
abbrev pub is_strictly_clean : Bool → Heading → List Entry → Bool
is_strictly_clean sparing h past = is_clean_by sparing (rows_of h past) (accounts_of h past) (list_any (has_event is_trouble) past)
