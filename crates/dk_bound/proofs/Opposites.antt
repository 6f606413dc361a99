-- The laws hang on their rules: under each of eight wrong rules a law is false of a list of entries that follows it. The rules are slack tested
-- without the blocking or at the asker's level alone, certification without the blocking or with a tick too many, holders at their own level,
-- a child's share that its main keeps, a child that starts at once, and a way out that isn't paid.
use Rattle.std.proofs.Common.{ℕ, zero, suc, ◌≡◌, ◌+◌, ◌-◌, ◌<◌, ◌≤◌, inl, inr, Bool, true, false, List, [], ◌∷◌, length, refl, arith}
use Rattle.std.specs.Prelude.{map, Option, Some, None, if◌then◌else◌, nat_le, ◌==◌, option_map, unwrap_or}
use Rattle.std.specs.List.{list_all}
use Rattle.std.specs.Option.{option_or}
use Rattle.dk_config.specs.Configuration.{Configuration}
use Rattle.dk_config.specs.Sums.{below, first_of}
use Rattle.dk_config.specs.Windows.{period, budget, window_end}
use Rattle.dk_config.specs.Certification.{level_demand, level_blocking}
use Rattle.dk_config.specs.Checked.{IsChecked, IsAccepted}
use Rattle.dk_config.specs.Mutex.{Mutex}
use Rattle.dk_config.specs.declared.rows.LevelRow.{LevelRow}
use Rattle.dk_config.specs.declared.rows.ProcessRow.{ProcessRow}
use Rattle.dk_config.specs.Tests.{first_broken}
use Rattle.dk_config.specs.Rules.{all_tests, version_tests, count_tests, range_tests, period_tests, name_tests, again_tests, level_tests, budget_tests, user_tests, slowest_tests}
use Rattle.dk_config.proofs.CheckedConfig.{checked}
use Rattle.dk_trace.specs.declared.ThreadId.{ThreadId}
use Rattle.dk_trace.specs.declared.Source.{Source}
use Rattle.dk_trace.specs.declared.Work.{Work}
use Rattle.dk_trace.specs.declared.Label.{Label}
use Rattle.dk_trace.specs.declared.Choice.{Choice}
use Rattle.dk_trace.specs.declared.Event.{Event}
use Rattle.dk_trace.specs.declared.Entry.{Entry}
use Rattle.dk_trace.specs.Entries.{thread_of}
use Rattle.dk_trace.specs.Demand.{own_demand, remaining_demand, fits, fits_at}
use Rattle.dk_trace.specs.Choices.{chosen, work_at, ready_at, wish_at, on_budget, on_slack}
use Rattle.dk_trace.specs.Threads.{Thread, main_thread, threads, family, share, is_main, is_stopped_before, child_share, lent_at}
use Rattle.dk_trace.specs.Jobs.{Job, rem}
use Rattle.dk_trace.specs.Guarantees.{Received, HadShare}
use Rattle.dk_trace.specs.Holds.{held_by, is_held}
use Rattle.dk_trace.specs.Refusals.{lock_refusal}
use Rattle.dk_trace.specs.Audit.{HasChosenLabel, row_of, without_event, Audited}
use Rattle.dk_bound.specs.Statements.{DemandFits}
use Rattle.dk_bound.proofs.Accepted.{accepted}
use Rattle.dk_bound.proofs.Replay.{Chooser, AuditedBy, audited-right, replayed}
use Rattle.dk_bound.proofs.Variants.{Variant, chosen_under}

-- a test of slack, given the asker's level
abbrev pub SlackTest : Type 0
SlackTest = Configuration → List Entry → ℕ → Bool

-- the rules with another test of slack
abbrev pub chosen_by : SlackTest → Chooser
chosen_by test c past =
    unwrap_or
    (first_of (λ k. option_or (work_at c past k) (if test c past k then option_map (on_slack c past) (wish_at c past k) else None)) (below (length c.levels)))
    Choice.Idle

-- with the right test they are the rules
abbrev right_test : SlackTest
right_test c past k = fits c (length past) past

right-choice : (c : Configuration) (past : List Entry) → chosen_by right_test c past ≡ chosen c past
right-choice c past = refl

abbrev entry : Label → Option Event → Entry
entry label event = record { label = label; event = event }

abbrev level : ℕ → LevelRow
level period = record { period = period; release = 0 }

abbrev process : ℕ → ℕ → ℕ → ProcessRow
process name at budget = record { name = name ∷ []; program = name ∷ []; level = at; budget = budget; memory = 0; threads = 1; slack = true; max_level = at }

abbrev configuration : List LevelRow → List ProcessRow → List Mutex → Configuration
configuration levels processes mutexes = record { version = 2; costs = record { switch = 0; call = 1 }; levels = levels; processes = processes; mutexes = mutexes }

abbrev main : ℕ → ThreadId
main p = record { process = p; serial = 0 }

-- Slack tested without the blocking: a thread of level 0 gets slack while level 1 waits for the mutex of a thread of level 2.
abbrev without_blocking : SlackTest
without_blocking c past k =
    list_all
    (λ j. if own_demand c (length past) past j == 0 then true else nat_le (remaining_demand c (length past) past j + 1) (window_end c j (length past) - length past))
    (below (length c.levels))

abbrev three : Configuration
three = configuration (level 4 ∷ level 8 ∷ level 32 ∷ []) (process 97 0 1 ∷ process 98 1 4 ∷ process 99 2 4 ∷ [])
    (record { name = 109 ∷ []; ceiling = 1; hold = 2; users = (98 ∷ []) ∷ (99 ∷ []) ∷ [] } ∷ [])

three-passes : first_broken (all_tests three) ≡ None
unfolding all_tests version_tests count_tests range_tests period_tests name_tests again_tests level_tests budget_tests user_tests slowest_tests
three-passes = refl

-- the newest first
abbrev blocked : List Entry
blocked =
    entry (Label.Slack (main 0) (Source.Reclaimed 1) Work.Run) None
    ∷ entry (Label.Call (main 0)) (Some (Event.Slack 3))
    ∷ entry (Label.Call (main 2)) (Some (Event.Lock 0))
    ∷ entry (Label.Run (main 2)) None
    ∷ entry (Label.Run (main 1)) None
    ∷ entry (Label.Run (main 0)) None
    ∷ entry (Label.Run (main 1)) None
    ∷ entry (Label.Run (main 1)) None
    ∷ entry (Label.Run (main 1)) None
    ∷ entry (Label.Run (main 0)) None
    ∷ []

pub needs-blocking-in-slack : ((c : Configuration) (past : List Entry) → IsChecked c → IsAccepted c → AuditedBy (chosen_by without_blocking) c past → DemandFits c past) → ⊥
needs-blocking-in-slack law =
    let room = law three blocked (checked three three-passes) (accepted three refl) (replayed (chosen_by without_blocking) three blocked refl refl) 1 (omega arith) (omega arith) in
    absurd (omega (arith, room))

-- Slack tested at the asker's level alone: level 0 has nothing to do, and level 1 loses the tick that it needs.
abbrev at_asker : SlackTest
at_asker c past k = fits_at c (length past) past k

abbrev two : Configuration
two = configuration (level 2 ∷ level 4 ∷ []) (process 97 0 1 ∷ process 98 1 2 ∷ []) []

two-passes : first_broken (all_tests two) ≡ None
unfolding all_tests version_tests count_tests range_tests period_tests name_tests again_tests level_tests budget_tests user_tests slowest_tests
two-passes = refl

-- the newest first
abbrev robbed : List Entry
robbed =
    entry (Label.Slack (main 0) (Source.Reclaimed 1) Work.Run) None
    ∷ entry (Label.Call (main 0)) (Some (Event.Slack 1))
    ∷ []

pub needs-all-levels-in-slack : ((c : Configuration) (past : List Entry) → IsChecked c → IsAccepted c → AuditedBy (chosen_by at_asker) c past → DemandFits c past) → ⊥
needs-all-levels-in-slack law =
    let room = law two robbed (checked two two-passes) (accepted two refl) (replayed (chosen_by at_asker) two robbed refl refl) 1 (omega arith) (omega arith) in
    absurd (omega (arith, room))

-- Certification without the blocking: a thread of level 2 locks just before a window of level 1 begins.
abbrev AcceptedWithoutBlocking : Configuration → Type 0
AcceptedWithoutBlocking c = (j : ℕ) → j < length c.levels → level_demand c j ≤ period c j

abbrev full : Configuration
full = configuration (level 4 ∷ level 8 ∷ level 32 ∷ []) (process 97 0 1 ∷ process 98 1 5 ∷ process 99 2 3 ∷ [])
    (record { name = 109 ∷ []; ceiling = 1; hold = 2; users = (98 ∷ []) ∷ (99 ∷ []) ∷ [] } ∷ [])

full-passes : first_broken (all_tests full) ≡ None
unfolding all_tests version_tests count_tests range_tests period_tests name_tests again_tests level_tests budget_tests user_tests slowest_tests
full-passes = refl

full-accepted : AcceptedWithoutBlocking full
full-accepted zero h = omega arith
full-accepted (suc zero) h = omega arith
full-accepted (suc (suc zero)) h = omega arith
full-accepted (suc (suc (suc j))) h = absurd (omega arith)

-- the newest first
abbrev waits : List Entry
waits =
    entry (Label.Call (main 2)) (Some (Event.Lock 0))
    ∷ entry (Label.Run (main 1)) None
    ∷ entry (Label.Run (main 1)) None
    ∷ entry (Label.Run (main 0)) None
    ∷ entry (Label.Run (main 1)) None
    ∷ entry (Label.Run (main 1)) None
    ∷ entry (Label.Run (main 1)) None
    ∷ entry (Label.Run (main 0)) None
    ∷ []

pub needs-blocking-in-certification : ((c : Configuration) (past : List Entry) → IsChecked c → AcceptedWithoutBlocking c → Audited c past → DemandFits c past) → ⊥
needs-blocking-in-certification law =
    let room = law full waits (checked full full-passes) full-accepted (audited-right full waits (replayed chosen full waits refl refl)) 1 (omega arith) (omega arith) in
    absurd (omega (arith, room))

-- Certification with a tick too many: at tick 0 the level needs more than its window.
abbrev AcceptedWithOneMore : Configuration → Type 0
AcceptedWithOneMore c = (j : ℕ) → j < length c.levels → level_demand c j + level_blocking c j ≤ period c j + 1

abbrev over : Configuration
over = configuration (level 4 ∷ []) (process 97 0 3 ∷ process 98 0 2 ∷ []) []

over-passes : first_broken (all_tests over) ≡ None
unfolding all_tests version_tests count_tests range_tests period_tests name_tests again_tests level_tests budget_tests user_tests slowest_tests
over-passes = refl

over-accepted : AcceptedWithOneMore over
over-accepted zero h = omega arith
over-accepted (suc j) h = absurd (omega arith)

pub needs-every-tick-in-certification : ((c : Configuration) (past : List Entry) → IsChecked c → AcceptedWithOneMore c → Audited c past → DemandFits c past) → ⊥
needs-every-tick-in-certification law =
    let room = law over [] (checked over over-passes) over-accepted tt 0 (omega arith) (omega arith) in
    absurd (omega (arith, room))

-- Holders at their own level: a thread of level 0 has the tick, and may lock the mutex that a thread of level 1 holds.
abbrev at_own_level : Chooser
at_own_level c past =
    unwrap_or
    (first_of
    (λ k. option_or (option_map (on_budget c past) (ready_at c past k)) (if fits c (length past) past then option_map (on_slack c past) (wish_at c past k) else None))
    (below (length c.levels)))
    Choice.Idle

abbrev pub LockFindsFreeBy : Chooser → Configuration → List Entry → Type 0
LockFindsFreeBy choose c past =
    (e : Entry) (x : ThreadId) (row : Thread) (m : ℕ) → HasChosenLabel (choose c past) e.label → thread_of e.label ≡ Some x → row_of c past x ≡ Some row
    → lock_refusal c (length past) (without_event e ∷ past) row m ≡ None → (y : ThreadId) → is_held m (held_by y past) ≡ false

abbrev shared : Configuration
shared = configuration (level 5 ∷ level 10 ∷ []) (process 97 0 3 ∷ process 98 1 4 ∷ [])
    (record { name = 109 ∷ []; ceiling = 0; hold = 2; users = (97 ∷ []) ∷ (98 ∷ []) ∷ [] } ∷ [])

shared-passes : first_broken (all_tests shared) ≡ None
unfolding all_tests version_tests count_tests range_tests period_tests name_tests again_tests level_tests budget_tests user_tests slowest_tests
shared-passes = refl

-- the newest first
abbrev locked : List Entry
locked =
    entry (Label.Call (main 1)) (Some (Event.Lock 0))
    ∷ entry (Label.Run (main 1)) None
    ∷ entry (Label.Run (main 0)) None
    ∷ entry (Label.Run (main 0)) None
    ∷ entry (Label.Run (main 0)) None
    ∷ []

pub needs-ceilings : ((c : Configuration) (past : List Entry) → IsChecked c → IsAccepted c → Audited c past → LockFindsFreeBy at_own_level c past) → ⊥
needs-ceilings law =
    let free : true ≡ false = law shared locked (checked shared shared-passes) (accepted shared refl) (audited-right shared locked (replayed chosen shared locked refl refl)) (entry (Label.Call (main 0)) None) (main 0) (main_thread shared 0) 0 (inr refl) refl refl refl (main 1) in
    absurd (cc)

-- A child's share that isn't taken from its main: the main has the tick that the child or a later thread needs.
abbrev undivided_share : Configuration → List Entry → Thread → ℕ → ℕ
undivided_share c past x s = if is_main x then (if is_stopped_before s x then 0 else budget c x.id.process) else child_share c x s

abbrev undivided : Variant
undivided = record { threads_of = threads; share_of = undivided_share; rem_of = rem }

abbrev parent : Configuration
parent = configuration (level 4 ∷ []) (process 97 0 2 ∷ process 98 0 2 ∷ []) []

parent-passes : first_broken (all_tests parent) ≡ None
unfolding all_tests version_tests count_tests range_tests period_tests name_tests again_tests level_tests budget_tests user_tests slowest_tests
parent-passes = refl

-- the newest first
abbrev kept : List Entry
kept =
    entry (Label.Run (main 0)) None
    ∷ entry (Label.Run (main 0)) None
    ∷ entry (Label.Run (main 1)) None
    ∷ entry (Label.Run (main 1)) None
    ∷ entry (Label.Run (main 0)) None
    ∷ entry (Label.Call (main 0)) (Some (Event.Create 1 0 1))
    ∷ []

pub needs-shares-divided : ((c : Configuration) (past : List Entry) → IsChecked c → IsAccepted c → AuditedBy (chosen_under undivided) c past → DemandFits c past) → ⊥
needs-shares-divided law =
    let audited = replayed (chosen_under undivided) parent kept refl refl in
    let room = law parent kept (checked parent parent-passes) (accepted parent refl) audited 0 (omega arith) (omega arith) in
    absurd (omega (arith, room))

-- A child that starts in the window of its create: its main has had its whole budget already.
abbrev early : Configuration → Thread → Thread
early c x = record { id = x.id; level = x.level; quota = x.quota; start = x.start - period c x.level; stop = x.stop }

abbrev early_share : Configuration → List Entry → Thread → ℕ → ℕ
early_share c past x s =
    if is_main x then (if is_stopped_before s x then 0 else budget c x.id.process - lent_at c s (map (early c) (family c x.id.process past)))
    else child_share c x s

abbrev at_once : Variant
at_once = record { threads_of = λ c past. map (early c) (threads c past); share_of = early_share; rem_of = rem }

-- the newest first
abbrev hurried : List Entry
hurried =
    entry (Label.Run (record { process = 0; serial = 1 })) None
    ∷ entry (Label.Call (main 0)) (Some (Event.Create 1 0 1))
    ∷ entry (Label.Run (main 0)) None
    ∷ []

pub needs-later-starts : ((c : Configuration) (past : List Entry) → IsChecked c → IsAccepted c → AuditedBy (chosen_under at_once) c past → DemandFits c past) → ⊥
needs-later-starts law =
    let audited = replayed (chosen_under at_once) parent hurried refl refl in
    let room = law parent hurried (checked parent parent-passes) (accepted parent refl) audited 0 (omega arith) (omega arith) in
    absurd (omega (arith, room))

-- A way out that isn't paid: a thread that waits gets in and never out.
abbrev unpaid_rem : ℕ → Job → ℕ
unpaid_rem W job = if job.closed then 0 else job.share - job.used

abbrev unpaid : Variant
unpaid = record { threads_of = threads; share_of = share; rem_of = unpaid_rem }

abbrev costly : Configuration
costly = record { version = 2; costs = record { switch = 1; call = 1 }; levels = level 4 ∷ []; processes = process 97 0 3 ∷ []; mutexes = [] }

costly-passes : first_broken (all_tests costly) ≡ None
unfolding all_tests version_tests count_tests range_tests period_tests name_tests again_tests level_tests budget_tests user_tests slowest_tests
costly-passes = refl

-- the newest first
abbrev stays_in : List Entry
stays_in = entry Label.Idle None ∷ entry Label.Idle None ∷ entry (Label.Call (main 0)) (Some Event.Wait) ∷ entry (Label.In (main 0)) None ∷ []

pub needs-ways-out : ((c : Configuration) (past : List Entry) → IsChecked c → IsAccepted c → AuditedBy (chosen_under unpaid) c past → Received c past) → ⊥
needs-ways-out law =
    let audited = replayed (chosen_under unpaid) costly stays_in refl refl in
    let had = law costly stays_in (checked costly costly-passes) (accepted costly refl) audited in
    let share : HadShare costly stays_in (main_thread costly 0) 0 = had.0 (main_thread costly 0) 0 (inl refl) refl (omega arith) in
    elim share [
      | inl whole ↦ absurd (omega (arith, whole))
      | inr out ↦ let paid = out.1 (omega arith) in absurd (omega (arith, paid))
    ]
