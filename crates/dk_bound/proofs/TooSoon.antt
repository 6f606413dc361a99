-- By when a main has had its ticks hangs on each part of what may come before it: with a part left out or counted too low the law is false
-- of a list of entries that follows the rules. The parts are the blocking, the windows of a child, the order in a level, the release of each
-- window, windows that begin and don't end, and that nobody faster has slack.
use Rattle.std.proofs.Common.{ℕ, zero, suc, ◌≡◌, ◌+◌, ◌*◌, ◌/◌, ◌%◌, ◌≤◌, inl, inr, Bool, true, false, List, [], ◌∷◌, length, refl, arith}
use Rattle.std.specs.Prelude.{Option, Some, None, if◌then◌else◌, nat_lt}
use Rattle.std.specs.Option.{option_map_or}
use Rattle.dk_config.specs.Configuration.{Configuration}
use Rattle.dk_config.specs.Sums.{sum_from, sum_up_to}
use Rattle.dk_config.specs.Windows.{period, release, main_level}
use Rattle.dk_config.specs.Certification.{level_blocking}
use Rattle.dk_config.specs.Checked.{IsChecked, IsAccepted}
use Rattle.dk_config.specs.Mutex.{Mutex}
use Rattle.dk_config.specs.Ahead.{windows_begun, may_come_before, budgets_begun, ahead, NoFasterSlack}
use Rattle.dk_config.specs.declared.rows.LevelRow.{LevelRow}
use Rattle.dk_config.specs.declared.rows.ProcessRow.{ProcessRow}
use Rattle.dk_config.specs.Tests.{first_broken}
use Rattle.dk_config.specs.Rules.{all_tests, version_tests, count_tests, range_tests, period_tests, name_tests, again_tests, level_tests, budget_tests, user_tests, slowest_tests}
use Rattle.dk_config.proofs.CheckedConfig.{checked}
use Rattle.dk_trace.specs.declared.ThreadId.{ThreadId}
use Rattle.dk_trace.specs.declared.Source.{Source}
use Rattle.dk_trace.specs.declared.Work.{Work}
use Rattle.dk_trace.specs.declared.Label.{Label}
use Rattle.dk_trace.specs.declared.Event.{Event}
use Rattle.dk_trace.specs.declared.Entry.{Entry}
use Rattle.dk_trace.specs.Members.{Has}
use Rattle.dk_trace.specs.Choices.{chosen}
use Rattle.dk_trace.specs.Threads.{Thread, main_thread, threads, is_main}
use Rattle.dk_trace.specs.Audit.{Audited}
use Rattle.dk_bound.specs.ByWhen.{HasHad}
use Rattle.dk_bound.proofs.Accepted.{accepted}
use Rattle.dk_bound.proofs.Replay.{audited-right, replayed}
use Rattle.std.proofs.lemmas.Bool.Decides.{nat_tests}

-- another count of what may come before
pub record Count : Type 0 where
  pub blocking_of : Configuration → ℕ → ℕ
  pub begun_of : Configuration → ℕ → ℕ → ℕ
  pub before_of : Configuration → ℕ → ℕ → Option ℕ
  pub heeds_slack : Bool

abbrev pub right : Count
right = record { blocking_of = level_blocking; begun_of = windows_begun; before_of = may_come_before; heeds_slack = true }

abbrev pub ahead_by : Count → Configuration → ℕ → ℕ → ℕ
ahead_by v c p f =
    v.blocking_of c (main_level c p) + sum_up_to (main_level c p) (λ i. release c i * v.begun_of c i f)
    + sum_from 0 (length c.processes) (λ q. option_map_or (budgets_begun c q f) (v.before_of c p q) 0)

abbrev pub SlackBy : Bool → Configuration → ℕ → Type 0
SlackBy true c m = NoFasterSlack c m
SlackBy false c m = Unit {0}

-- the law with it, of the present tick
abbrev pub LawBy : Count → Type 0
LawBy v =
    (c : Configuration) (past : List Entry) (x : Thread) (s f k : ℕ) → IsChecked c → IsAccepted c → Audited c past → Has (threads c past) x → is_main x ≡ true
    → s % period c x.level ≡ 0 → length past ≡ s + f → SlackBy v.heeds_slack c x.level → ahead_by v c x.id.process f + k ≤ f → f ≤ period c x.level → HasHad c past x s k

right-count : (c : Configuration) (p f : ℕ) → ahead_by right c p f ≡ ahead c p f
right-count c p f = refl

abbrev entry : Label → Option Event → Entry
entry label event = record { label = label; event = event }

abbrev level : ℕ → ℕ → LevelRow
level period release = record { period = period; release = release }

abbrev process : ℕ → ℕ → ℕ → ℕ → ℕ → Bool → ProcessRow
process name at budget children slowest slack = record { name = name ∷ []; program = name ∷ []; level = at; budget = budget; memory = 0; threads = children; slack = slack; max_level = slowest }

abbrev configuration : List LevelRow → List ProcessRow → List Mutex → Configuration
configuration levels processes mutexes = record { version = 2; costs = record { switch = 0; call = 1 }; levels = levels; processes = processes; mutexes = mutexes }

abbrev main : ℕ → ThreadId
main p = record { process = p; serial = 0 }

-- Without the blocking: a thread of level 1 locks just before a window of level 0 begins.
abbrev no_blocking : Count
no_blocking = record right { blocking_of = λ c m. 0 }

abbrev held : Configuration
held = configuration (level 4 0 ∷ level 8 0 ∷ []) (process 97 0 1 0 0 false ∷ process 98 1 5 0 1 false ∷ [])
    (record { name = 109 ∷ []; ceiling = 0; hold = 2; users = (97 ∷ []) ∷ (98 ∷ []) ∷ [] } ∷ [])

held-passes : first_broken (all_tests held) ≡ None
unfolding all_tests version_tests count_tests range_tests period_tests name_tests again_tests level_tests budget_tests user_tests slowest_tests
held-passes = refl

-- the newest first
abbrev kept_waiting : List Entry
kept_waiting =
    entry (Label.Run (main 1)) None
    ∷ entry (Label.Call (main 1)) (Some (Event.Lock 0))
    ∷ entry (Label.Run (main 1)) None
    ∷ entry (Label.Run (main 1)) None
    ∷ entry (Label.Run (main 0)) None
    ∷ []

none-of-held : NoFasterSlack held 0
none-of-held q here fast = absurd (omega arith)

pub needs-blocking : LawBy no_blocking → ⊥
needs-blocking law =
    let audited = audited-right held kept_waiting (replayed chosen held kept_waiting refl refl) in
    elim (law held kept_waiting (main_thread held 0) 4 1 1 (checked held held-passes) (accepted held refl) audited (inl refl) refl refl refl none-of-held (omega arith) (omega arith)) [
      | inl had ↦ absurd (omega (arith, had))
      | inr (inl small) ↦ absurd (omega (arith, small))
      | inr (inr shut) ↦ absurd (cc (shut))
    ]

-- The windows of a child counted as those of its main: the child has the ticks of two of its main's windows at once.
abbrev mains_alone : Count
mains_alone = record right { before_of = λ c p q. option_map_or (λ b. Some (main_level c q)) (may_come_before c p q) None }

abbrev parent : Configuration
parent = configuration (level 4 0 ∷ level 8 0 ∷ []) (process 97 0 2 1 1 false ∷ process 98 1 2 0 1 false ∷ []) []

parent-passes : first_broken (all_tests parent) ≡ None
unfolding all_tests version_tests count_tests range_tests period_tests name_tests again_tests level_tests budget_tests user_tests slowest_tests
parent-passes = refl

abbrev child : ThreadId
child = record { process = 0; serial = 1 }

-- the newest first
abbrev at_once : List Entry
at_once =
    entry (Label.Run child) None
    ∷ entry (Label.Run child) None
    ∷ entry (Label.Run (main 0)) None
    ∷ entry Label.Idle None
    ∷ entry Label.Idle None
    ∷ entry (Label.Run (main 0)) None
    ∷ entry (Label.Run (main 0)) None
    ∷ entry (Label.Run (main 1)) None
    ∷ entry (Label.Run (main 1)) None
    ∷ entry (Label.Run (main 0)) None
    ∷ entry (Label.Call (main 0)) (Some (Event.Create 1 1 1))
    ∷ []

none-of-parent : NoFasterSlack parent 1
none-of-parent zero here fast = refl
none-of-parent (suc zero) here fast = refl
none-of-parent (suc (suc q)) here fast = absurd (omega arith)

pub needs-child-windows : LawBy mains_alone → ⊥
needs-child-windows law =
    let audited = audited-right parent at_once (replayed chosen parent at_once refl refl) in
    elim (law parent at_once (main_thread parent 1) 8 3 1 (checked parent parent-passes) (accepted parent refl) audited (inr (inr (inl refl))) refl refl refl none-of-parent (omega arith) (omega arith)) [
      | inl had ↦ absurd (omega (arith, had))
      | inr (inl small) ↦ absurd (omega (arith, small))
      | inr (inr shut) ↦ absurd (cc (shut))
    ]

-- Without the order in a level: the second of two processes is first nowhere.
abbrev no_order : Count
no_order = record right { before_of = λ c p q. if nat_lt (main_level c q) (main_level c p) then may_come_before c p q else None }

abbrev equals : Configuration
equals = configuration (level 4 0 ∷ []) (process 97 0 1 0 0 false ∷ process 98 0 1 0 0 false ∷ []) []

equals-passes : first_broken (all_tests equals) ≡ None
unfolding all_tests version_tests count_tests range_tests period_tests name_tests again_tests level_tests budget_tests user_tests slowest_tests
equals-passes = refl

abbrev first_comes : List Entry
first_comes = entry (Label.Run (main 0)) None ∷ []

none-of-equals : NoFasterSlack equals 0
none-of-equals q here fast = absurd (omega arith)

pub needs-order : LawBy no_order → ⊥
needs-order law =
    let audited = audited-right equals first_comes (replayed chosen equals first_comes refl refl) in
    elim (law equals first_comes (main_thread equals 1) 0 1 1 (checked equals equals-passes) (accepted equals refl) audited (inr (inl refl)) refl refl refl none-of-equals (omega arith) (omega arith)) [
      | inl had ↦ absurd (omega (arith, had))
      | inr (inl small) ↦ absurd (omega (arith, small))
      | inr (inr shut) ↦ absurd (cc (shut))
    ]

-- The release of one window alone, and windows that have ended in place of those that begin: the kernel takes a tick of the second window too.
abbrev one_release : Count
one_release = record right { begun_of = λ c i f. 1 }

abbrev rounded_down : Count
rounded_down = record right { begun_of = λ c i f. f / period c i }

abbrev released : Configuration
released = configuration (level 4 1 ∷ level 8 0 ∷ []) (process 97 1 4 0 1 false ∷ []) []

released-passes : first_broken (all_tests released) ≡ None
unfolding all_tests version_tests count_tests range_tests period_tests name_tests again_tests level_tests budget_tests user_tests slowest_tests
released-passes = refl

-- the newest first
abbrev twice : List Entry
twice =
    entry (Label.Kernel 0) None
    ∷ entry (Label.Run (main 0)) None
    ∷ entry (Label.Run (main 0)) None
    ∷ entry (Label.Run (main 0)) None
    ∷ entry (Label.Kernel 0) None
    ∷ []

none-of-released : NoFasterSlack released 1
none-of-released zero here fast = refl
none-of-released (suc q) here fast = absurd (omega arith)

three-of-four : HasHad released twice (main_thread released 0) 0 4 → ⊥
three-of-four is = grind (arith, nat_tests)

pub needs-each-release : LawBy one_release → ⊥
needs-each-release law =
    let audited = audited-right released twice (replayed chosen released twice refl refl) in
    three-of-four
    (law released twice (main_thread released 0) 0 5 4 (checked released released-passes) (accepted released refl) audited (inl refl) refl refl refl none-of-released (omega arith) (omega arith))

pub needs-rounding-up : LawBy rounded_down → ⊥
needs-rounding-up law =
    let audited = audited-right released twice (replayed chosen released twice refl refl) in
    three-of-four
    (law released twice (main_thread released 0) 0 5 4 (checked released released-passes) (accepted released refl) audited (inl refl) refl refl refl none-of-released (omega arith) (omega arith))

-- Where somebody faster has slack: it has the tick that was to be the main's.
abbrev any_slack : Count
any_slack = record right { heeds_slack = false }

abbrev generous : Configuration
generous = configuration (level 4 0 ∷ level 8 0 ∷ []) (process 97 0 1 0 0 true ∷ process 98 1 1 0 1 false ∷ []) []

generous-passes : first_broken (all_tests generous) ≡ None
unfolding all_tests version_tests count_tests range_tests period_tests name_tests again_tests level_tests budget_tests user_tests slowest_tests
generous-passes = refl

-- the newest first
abbrev lent : List Entry
lent = entry (Label.Slack (main 0) Source.Timeline Work.Run) None ∷ entry (Label.Call (main 0)) (Some (Event.Slack 3)) ∷ []

pub needs-no-faster-slack : LawBy any_slack → ⊥
needs-no-faster-slack law =
    let audited = audited-right generous lent (replayed chosen generous lent refl refl) in
    elim (law generous lent (main_thread generous 1) 0 2 1 (checked generous generous-passes) (accepted generous refl) audited (inr (inl refl)) refl refl refl tt (omega arith) (omega arith)) [
      | inl had ↦ absurd (omega (arith, had))
      | inr (inl small) ↦ absurd (omega (arith, small))
      | inr (inr shut) ↦ absurd (cc (shut))
    ]
