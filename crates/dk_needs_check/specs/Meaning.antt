-- What each need means of a configuration.
use Rattle.std.specs.Prelude.{ℕ, ◌+◌, Bool, true, false, not, ◌||◌, ◌==◌, is_some, ◌≤◌, nat_lt, map, if◌then◌else◌, length, List, [], ◌∷◌, ◌≡◌, position, Option, Some, None}
use Rattle.std.specs.List.{range_with_len}
use Rattle.std.specs.Option.{option_map_or}
use Rattle.std.specs.Str.{bytes_eq}
use Rattle.dk_config.specs.Configuration.{Configuration}
use Rattle.dk_config.specs.Mutex.{Mutex}
use Rattle.dk_config.specs.Ahead.{IsEnough}
use Rattle.dk_config.specs.Certification.{spare}
use Rattle.dk_config.specs.Sums.{greatest}
use Rattle.dk_config.specs.Windows.{budget, main_level, may_ask}
use Rattle.dk_config_report.specs.Pages.{IsLeast}
use Rattle.dk_when.specs.Earliest.{MayHave}
use Rattle.dk_plan.specs.Budget.{with_budget}
use Rattle.dk_margins.specs.Margins.{Stands, with_hold, with_release}
use Rattle.dk_growth.specs.Growth.{grown}
use Rattle.dk_chain.specs.Age.{IsAge}
use Rattle.dk_chain.specs.Chain.{AreDone, IsReaction}
use Rattle.dk_chain.specs.Least.{IsShortest}
use Rattle.dk_chain_report.specs.Finding.{process_named, processes_named}
use Rattle.dk_slack_promise.specs.Allotted.{IsAllotted}
use Rattle.dk_allotment.specs.Beside.{with_own}
use Rattle.dk_allotment.specs.Given.{given}
use Rattle.dk_allotment.specs.Soon.{IsEnoughSlack}
use Rattle.dk_needs.specs.declared.needs.Need.{Need}
use Rattle.dk_needs.specs.declared.needs.What.{What}
use Rattle.dk_needs_check.specs.declared.row.Answer.{Answer}
use Rattle.dk_needs_check.specs.declared.row.Answers.{Answers}
use Rattle.dk_needs_check.specs.declared.row.Bound.{Bound}
use Rattle.dk_needs_check.specs.declared.row.Measure.{Measure}
use Rattle.dk_needs_check.specs.declared.row.Reason.{Reason}
use Rattle.dk_needs_check.specs.Bounds.{IsAtLeast, IsAtMost, IsAtMostIfAny}

abbrev pub mutex_named : Configuration → List ℕ → Option ℕ
mutex_named c name = position (λ (row : Mutex). bytes_eq row.name name) c.mutexes

-- the level of this number
abbrev pub level_numbered : Configuration → ℕ → Option ℕ
level_numbered c j = if nat_lt j (length c.levels) then Some j else None

-- so many ticks of each of its windows are enough for the whole budget of the process's main
abbrev pub IsDone : Configuration → ℕ → ℕ → Type 0
IsDone c p n = IsEnough c p (budget c p) n

-- the age of the data that the last process of the chain works with
abbrev pub HasAge : Configuration → (ℕ → ℕ) → ℕ → List ℕ → ℕ → Type 0
HasAge c done first rest n = (reaction : ℕ) × IsReaction c done (first ∷ rest) reaction × IsAge c first rest reaction n

-- From window to window the tick with which the main of p has had k ticks varies by at most so many: from the least number with which
-- it may have had them to the least that is enough.
abbrev pub VariesBy : Configuration → ℕ → ℕ → ℕ → Type 0
VariesBy c p k n =
    (from : ℕ) × (by : ℕ) × IsLeast (MayHave c p k) from × IsLeast (IsEnough c p k) by × (by ≤ from + n)

-- the reaction time of the chain varies by at most so many ticks
abbrev pub ReactsWithin : Configuration → (ℕ → ℕ) → ℕ → List ℕ → ℕ → Type 0
ReactsWithin c done first rest n =
    (reaction : ℕ) × (shortest : ℕ) × IsReaction c done (first ∷ rest) reaction × IsShortest c first rest shortest × (reaction ≤ shortest + n)

-- with so much of one number, all else as it is, the configuration breaks none of C4 to C13 and is certified
abbrev pub HasBudget : Configuration → ℕ → ℕ → Type 0
HasBudget c p n = Stands (with_budget c p n)

abbrev pub HasHold : Configuration → ℕ → ℕ → Type 0
HasHold c m n = Stands (with_hold c m n)

abbrev pub HasRelease : Configuration → ℕ → ℕ → Type 0
HasRelease c j n = Stands (with_release c j n)

-- and so with all budgets grown by so many percent
abbrev pub HasGrowth : Configuration → ℕ → Type 0
HasGrowth c n = Stands (grown c n)

-- so many ticks of each window of the level are left over
abbrev pub HasSpare : Configuration → ℕ → ℕ → Type 0
HasSpare c j n = n ≤ spare c j

-- the slack in each of its windows that a need asks for process p
abbrev pub slack_asked : Configuration → ℕ → What → ℕ
slack_asked c p (What.Slack name each within) = if option_map_or (λ q. q == p) (process_named c name) false then each else 0
slack_asked c p _ = 0

abbrev pub most_asked : Configuration → List Need → ℕ → ℕ
most_asked c needs p = greatest (map (λ (need : Need). slack_asked c p need.what) needs)

-- The allotments that needs ask for: of each process the most that one of them does.
abbrev pub asked_allotments : Configuration → List Need → List ℕ
asked_allotments c needs = map (most_asked c needs) (range_with_len 0 (length c.processes))

-- process p can be allotted so many ticks of slack, where the others have these allotments
abbrev pub HasSlack : Configuration → List ℕ → ℕ → ℕ → Type 0
HasSlack c xs p n = IsAllotted c (with_own (given xs) p n)

-- these allotments hold together, and so many ticks of its window are enough for that of p
abbrev pub HasSlackBy : Configuration → List ℕ → ℕ → ℕ → Type 0
HasSlackBy c xs p n = IsAllotted c (given xs) × IsEnoughSlack c (given xs) (main_level c p) n

abbrev pub IsReactionBound : Configuration → ℕ → List ℕ → ℕ → Bound → Type 0
IsReactionBound c first rest within b =
    (done : ℕ → ℕ) → AreDone c done → IsAtMost (IsReaction c done (first ∷ rest)) Measure.Reaction within b

abbrev pub IsAgeBound : Configuration → ℕ → List ℕ → ℕ → Bound → Type 0
IsAgeBound c first rest within b =
    (done : ℕ → ℕ) → AreDone c done → IsAtMost (HasAge c done first rest) Measure.Age within b

abbrev pub IsReactionJitter : Configuration → ℕ → List ℕ → ℕ → Bound → Type 0
IsReactionJitter c first rest within b =
    (done : ℕ → ℕ) → AreDone c done → IsAtMost (ReactsWithin c done first rest) Measure.ReactionJitter within b

-- what is asked of a number, if anything is
abbrev pub tested_where : Measure → ℕ → Option ℕ → Option Answer
tested_where measure number None = None
tested_where measure number (Some asked) = Some (Answer.Tested (record { measure = measure; number = Some number; asked = asked }))

-- the bound of what is asked for, where it is there, and else nothing
abbrev pub IfThere : (ℕ → Bound → Type 0) → Option ℕ → Option Answer → Type 0
IfThere IsBound None answer = answer ≡ None
IfThere IsBound (Some n) answer = (b : Bound) × IsBound n b × (answer ≡ Some (Answer.Tested b))

-- the bound as far as each process keeps to its slack
abbrev pub IsIfKept : (Bound → Type 0) → Option Answer → Type 0
IsIfKept IsBound answer = (b : Bound) × IsBound b × (answer ≡ Some (Answer.IfKept b))

-- the same of what is asked for, if anything is
abbrev pub IsIfKeptWhere : (ℕ → Bound → Type 0) → Option ℕ → Option Answer → Type 0
IsIfKeptWhere IsBound None answer = answer ≡ None
IsIfKeptWhere IsBound (Some asked) answer = IsIfKept (IsBound asked) answer

-- one answer, and no second
abbrev pub AreOne : (Option Answer → Type 0) → Answers → Type 0
AreOne IsAnswer a = IsAnswer a.first × (a.second ≡ None)

abbrev pub AreNone : Answers → Type 0
AreNone a = (a.first ≡ None) × (a.second ≡ None)

-- a chain's reaction time and the age of its data, as far as they are asked for
abbrev pub AreOfChain : Configuration → Option ℕ → Option ℕ → Option (List ℕ) → Answers → Type 0
AreOfChain c reaction age None a = AreNone a
AreOfChain c reaction age (Some []) a = AreNone a
AreOfChain c reaction age (Some (first ∷ rest)) a =
    IfThere (IsReactionBound c first rest) reaction a.first × IfThere (IsAgeBound c first rest) age a.second

-- by how much the begin and the end of a process vary, as far as they are asked for
abbrev pub AreOfJitter : Configuration → Option ℕ → Option ℕ → Option ℕ → Answers → Type 0
AreOfJitter c begins whole None a = AreNone a
AreOfJitter c begins whole (Some p) a =
    IfThere (IsAtMost (VariesBy c p 1) Measure.BeginsJitter) begins a.first
    × IfThere (IsAtMost (VariesBy c p (budget c p)) Measure.DoneJitter) whole a.second

-- by how much a chain's reaction time varies, as far as that is asked for
abbrev pub AreOfChainJitter : Configuration → Option ℕ → Option (List ℕ) → Answers → Type 0
AreOfChainJitter c asked None a = AreNone a
AreOfChainJitter c asked (Some []) a = AreNone a
AreOfChainJitter c asked (Some (first ∷ rest)) a =
    IfThere (IsReactionJitter c first rest) asked a.first × (a.second ≡ None)

-- How much slack a process can be allotted, and by when it has it, as far as that is asked for, where each process keeps to these
-- allotments; or that it may not ask for any.
abbrev pub AreOfRight : Configuration → List ℕ → ℕ → ℕ → Option ℕ → Bool → Answers → Type 0
AreOfRight c xs p each within false a = (a.first ≡ Some Answer.NoRight) × (a.second ≡ None)
AreOfRight c xs p each within true a =
    IsIfKept (IsAtLeast (HasSlack c xs p) Measure.Slack each) a.first
    × IsIfKeptWhere (IsAtMostIfAny (HasSlackBy c xs p) Measure.SlackBy) within a.second

abbrev pub AreOfSlack : Configuration → List ℕ → ℕ → Option ℕ → Option ℕ → Answers → Type 0
AreOfSlack c xs each within None a = AreNone a
AreOfSlack c xs each within (Some p) a = AreOfRight c xs p each within (may_ask c p) a

-- of a run a ledger is asked for, unless that it repeats is all that is asked
abbrev pub asks_ledger : Option ℕ → Option ℕ → Option ℕ → Bool → Bool
asks_ledger overruns refused faults forever = ((not forever || is_some overruns) || is_some refused) || is_some faults

-- open, where it is asked
abbrev pub open_where : Bool → Reason → Option Answer
open_where asked reason = if asked then Some (Answer.Open reason) else None

-- of a run what a ledger says, and whether it repeats, as far as they are asked for
abbrev pub AreOfRun : Option ℕ → Option ℕ → Option ℕ → Bool → Answers → Type 0
AreOfRun overruns refused faults forever a =
    (a.first ≡ open_where (asks_ledger overruns refused faults forever) Reason.NoLedger) × (a.second ≡ open_where forever Reason.NotTested)

-- what is told of a need, where needs ask for these allotments
abbrev pub AreAnswers : Configuration → List ℕ → What → Answers → Type 0
AreAnswers c xs (What.Deadline name within) a =
    AreOne (IfThere (λ p. IsAtMost (IsDone c p) Measure.Done within) (process_named c name)) a
AreAnswers c xs (What.Chain names reaction age) a = AreOfChain c reaction age (processes_named c names) a
AreAnswers c xs (What.Jitter name begins whole) a = AreOfJitter c begins whole (process_named c name) a
AreAnswers c xs (What.ChainJitter names within) a = AreOfChainJitter c (Some within) (processes_named c names) a
AreAnswers c xs (What.Budget name wanted) a =
    AreOne (IfThere (λ p. IsAtLeast (HasBudget c p) Measure.Budget wanted) (process_named c name)) a
AreAnswers c xs (What.Hold name wanted) a =
    AreOne (IfThere (λ m. IsAtLeast (HasHold c m) Measure.Hold wanted) (mutex_named c name)) a
AreAnswers c xs (What.Release level wanted) a =
    AreOne (IfThere (λ j. IsAtLeast (HasRelease c j) Measure.Release wanted) (level_numbered c level)) a
AreAnswers c xs (What.Growth percent) a = AreOne (IfThere (IsAtLeast (HasGrowth c) Measure.Growth) (Some percent)) a
AreAnswers c xs (What.Spare level ticks) a =
    AreOne (IfThere (λ j. IsAtLeast (HasSpare c j) Measure.Spare ticks) (level_numbered c level)) a
AreAnswers c xs (What.Slack name each within) a = AreOfSlack c xs each within (process_named c name) a
AreAnswers c xs (What.Always name) a = AreOne (λ answer. answer ≡ Some (Answer.Open Reason.NotTested)) a
AreAnswers c xs (What.Run overruns refused faults forever) a = AreOfRun overruns refused faults forever a
