-- The choice, and whether slack is denied, by the tables.
use Rattle.std.specs.Prelude.{ℕ, ◌≡◌, ◌<◌, Bool, true, false, nat_lt, if◌then◌else◌, length, slice_get, get_or, Option, Some, None, is_none, option_map, unwrap_or}
use Rattle.std.specs.Option.{option_or}
use Rattle.dk_config.specs.Sums.{below, first_of}
use Rattle.dk_trace.specs.declared.Phase.{Phase}
use Rattle.dk_trace.specs.declared.Choice.{Choice}
use Rattle.dk_trace.specs.Jobs.{rem}
use Rattle.dk_rail.specs.Queues.{queue_at}
use Rattle.dk_mutex.specs.Table.{holder_at}
use Rattle.dk_demand.specs.Cells.{first_unfit}
use Rattle.dk_slack.specs.Wishes.{first_node, is_entering}
use Rattle.dk_slack.specs.Unclaimed.{source}
use Rattle.dk_ready.specs.Roster.{Roster, new_job, seat_at, told_phase}
use Rattle.dk_recount.specs.Tables.{Tables, node_in}

-- what the kernel's own part of the level still needs; it pays no switches
abbrev pub kernel_left : Tables → ℕ → ℕ
kernel_left d k = rem 0 (get_or d.kernel k (new_job 0))

-- the node that works first at the level: the holder's that runs there, else the first of the ready queue
abbrev pub first_worker : Tables → ℕ → Option ℕ
first_worker d k =
    option_or (option_map (node_in d.threads) (holder_at k d.mutexes)) (slice_get (queue_at d.jobs.ready.lists k) 0)

abbrev pub on_share : Roster → ℕ → Option Phase → Choice
on_share jobs node None = Choice.Idle
on_share jobs node (Some part) = Choice.Budget (seat_at jobs node).thread part

abbrev pub budget_of : Roster → ℕ → Choice
budget_of jobs node = on_share jobs node (told_phase jobs.switch (seat_at jobs node).job)

abbrev pub work_in : Tables → ℕ → Option Choice
work_in d k =
    if nat_lt 0 (kernel_left d k) then Some (Choice.Kernel k)
    else option_map (budget_of d.jobs) (first_worker d k)

abbrev pub loan_of : Tables → ℕ → Choice
loan_of d node =
    Choice.Slack (seat_at d.jobs node).thread (source d.slack.unclaimed d.slack.spares)
    (if is_entering node d.slack.wishes then Phase.In else Phase.Body)

abbrev pub slack_in : Tables → ℕ → Option Choice
slack_in d k = option_map (loan_of d) (first_node k d.slack.wishes)

abbrev pub choice_in : Tables → Bool → ℕ → Option Choice
choice_in d fits k = option_or (work_in d k) (if fits then slack_in d k else None)

abbrev pub fits_in : Tables → Bool
fits_in d = is_none (first_unfit d.demand)

abbrev pub choice_of : Tables → Choice
choice_of d = unwrap_or (first_of (choice_in d (fits_in d)) (below (length d.kernel))) Choice.Idle

-- whether the first thing that anybody asks for at the level is slack
abbrev pub claims_in : Tables → ℕ → Option Bool
claims_in d k =
    option_or (option_map (λ choice. false) (work_in d k)) (option_map (λ node. true) (first_node k d.slack.wishes))

abbrev pub claims_slack : Tables → Bool
claims_slack d = unwrap_or (first_of (claims_in d) (below (length d.kernel))) false

abbrev pub denial_of : Tables → Option ℕ
denial_of d = if claims_slack d then first_unfit d.demand else None

-- no level before this one has work, or a wish for slack
abbrev pub HasNoWork : Tables → ℕ → Type 0
HasNoWork d level = (k : ℕ) → k < level → work_in d k ≡ None

abbrev pub HasNoWish : Tables → ℕ → Type 0
HasNoWish d level = (k : ℕ) → k < level → first_node k d.slack.wishes ≡ None
