-- What befell each process: how often a call of it was refused, a thread of it faulted and it had slack, and when first.
use Rattle.std.specs.Prelude.{ℕ, zero, suc, ◌+◌, ◌==◌, ◌&&◌, Bool, true, false, if◌then◌else◌, List, [], ◌∷◌, length, map, min, count_by, is_some}
use Rattle.std.specs.Option.{option_map_or}
use Rattle.dk_config.specs.Sums.{below}
use Rattle.dk_trace.specs.declared.Event.{Event}
use Rattle.dk_trace.specs.declared.Entry.{Entry}
use Rattle.dk_trace.specs.Entries.{borrower, has_event, thread_of}
use Rattle.dk_ledger.specs.Heading.{Heading}
use Rattle.dk_window_report.specs.declared.account.Tally.{Tally}
use Rattle.dk_window_report.specs.declared.account.Account.{Account}

-- a thread of the process had the tick
abbrev pub is_in : ℕ → Entry → Bool
is_in p e = option_map_or (λ x. x.process == p) (thread_of e.label) false

abbrev pub is_refusal : Event → Bool
is_refusal (Event.Refused refusal) = true
is_refusal _ = false

abbrev pub is_fault : Event → Bool
is_fault (Event.Fault kind) = true
is_fault _ = false

abbrev pub refuses : Entry → Bool
refuses e = has_event is_refusal e

abbrev pub faults : Entry → Bool
faults e = has_event is_fault e

abbrev pub is_slack : Entry → Bool
is_slack e = is_some (borrower e.label)

-- the tick of the first entry of this kind, or 0
abbrev pub first_at : (Entry → Bool) → List Entry → ℕ
first_at f [] = 0
first_at f (e ∷ past) = if f e && (count_by f past == 0) then length past else first_at f past

-- how many entries are of this kind, and the tick of the first
abbrev pub tally_of : (Entry → Bool) → List Entry → Tally
tally_of f past = record { count = count_by f past; first = first_at f past }

abbrev pub account_of : List Entry → ℕ → Account
account_of past p = record {
  process = p;
  refused = tally_of (λ e. is_in p e && refuses e) past;
  faults = tally_of (λ e. is_in p e && faults e) past;
  slack = tally_of (λ e. is_in p e && is_slack e) past;
}

-- of each process of the header
abbrev pub accounts_of : Heading → List Entry → List Account
accounts_of h past = map (account_of past) (below (length h.processes))

-- ---- one entry more

abbrev pub tally_with : Bool → ℕ → Tally → Tally
tally_with b now t =
    if b then (record { count = min (t.count + 1) 4294967295; first = if t.count == 0 then now else t.first }) else t

-- the account of the process whose entry it is
abbrev pub account_with : ℕ → Entry → Account → Account
account_with now e a = record {
  process = a.process;
  refused = tally_with (refuses e) now a.refused;
  faults = tally_with (faults e) now a.faults;
  slack = tally_with (is_slack e) now a.slack;
}

-- the account at the place changed, where there is one
abbrev pub changed_account : (Account → Account) → ℕ → List Account → List Account
changed_account f i [] = []
changed_account f zero (a ∷ all) = f a ∷ all
changed_account f (suc i) (a ∷ all) = a ∷ changed_account f i all

abbrev pub accounts_with : ℕ → Entry → List Account → List Account
accounts_with now e all = option_map_or (λ x. changed_account (account_with now e) x.process all) (thread_of e.label) all
