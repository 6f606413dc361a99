-- What a process sees of a configuration decides what its kernel calls come to.
use Rattle.dk_impact.proofs.Names.{ℕ, ◌≡◌, ◌-◌, ◌+◌, ◌≤◌, Bool, true, false, cond, not, ◌&&◌, ◌||◌, eqb, leb, ltb, List, [], ◌∷◌, length, map, Option, Some, None, refl, sym, ap, ◌∙◌, subst, filter, sum_by, list_any, Configuration, period, main_level, max_level, slots, budget, longest_hold, may_ask, is_user, FaultKind, Phase, Choice, Label, Event, Refusal, Entry, is_of, is_budget_of, is_out_of, Thread, family, is_main, is_void, is_ended_by, Job, body_left, thread_body_left, Hold, aged, given_back, held_after, held_by, is_held, is_holding, is_innermost, innermost_left, label_of, next_serial, first_refusal, standing_children, least_share, create_refusal, delete_refusal, lock_refusal, slack_refusal, is_running_child, Context, Outcome, KernelCall, Tick, reg, Effect, Reply, Child, answers, creates, done, effect, call_effect, or_refused, Image, Turn, quiet_entry, thread_at, thread_turn, breaks_hold, may_be_last, image_after, work_done, main_id, main_row, the_job, job-charged, family-charged, is_of_process, entries_of, held-quiet, own, Plain, family-alone, row-at, renamed_label, renamed, nat_tests, arith}
use Rattle.std.specs.Prelude.{◌*◌, ◌/◌}

-- each mutex that is held is one of these
abbrev pub Users : (ℕ → Type 0) → List Hold → Type 0
Users Q [] = Unit {0}
Users Q (h ∷ held) = Q h.mutex × Users Q held

pub users-aged : (Q : ℕ → Type 0) (held : List Hold) → Users Q held → Users Q (map aged held)
users-aged Q [] users = tt
users-aged Q (h ∷ held) users = (users.0, users-aged Q held users.1)

pub users-if : (Q : ℕ → Type 0) (b : Bool) (one other : List Hold) → Users Q one → Users Q other → Users Q (cond b one other)
users-if Q true one other first second = first
users-if Q false one other first second = second

pub users-back : (Q : ℕ → Type 0) (m : ℕ) (held : List Hold) → Users Q held → Users Q (given_back m held)
users-back Q m [] users = tt
users-back Q m (h ∷ held) users =
    users-if Q (not (eqb h.mutex m)) (h ∷ given_back m held) (given_back m held) (users.0, users-back Q m held users.1) (users-back Q m held users.1)

-- an event of a process that may have neither children nor slack: a lock is of one of these mutexes
abbrev pub IsOwnEvent : (ℕ → Type 0) → Option Event → Type 0
IsOwnEvent Q (Some (Event.Create serial level quota)) = ⊥
IsOwnEvent Q (Some (Event.Slack amount)) = ⊥
IsOwnEvent Q (Some (Event.Lock m)) = Q m
IsOwnEvent Q _ = Unit {0}

users-after : (Q : ℕ → Type 0) (event : Option Event) (held : List Hold) → IsOwnEvent Q event → Users Q held → Users Q (held_after event held)
users-after Q None held mine users = users
users-after Q (Some Event.Wait) held mine users = users
users-after Q (Some Event.Exit) held mine users = users
users-after Q (Some (Event.Create serial level quota)) held mine users = users
users-after Q (Some (Event.Delete serial)) held mine users = users
users-after Q (Some (Event.Lock m)) held mine users = (mine, users-back Q m held users)
users-after Q (Some (Event.Unlock m)) held mine users = users-back Q m held users
users-after Q (Some (Event.Slack amount)) held mine users = users
users-after Q (Some (Event.Put value)) held mine users = users
users-after Q (Some (Event.Fault kind)) held mine users = users
users-after Q (Some (Event.Refused refusal)) held mine users = users

pub users-next : (Q : ℕ → Type 0) (ends of : Bool) (event : Option Event) (held : List Hold) → IsOwnEvent Q event → Users Q held
    → Users Q (cond ends [] (cond of (held_after event (map aged held)) held))
users-next Q ends of event held mine users =
    users-if Q ends [] _ tt (users-if Q of (held_after event (map aged held)) held (users-after Q event (map aged held) mine (users-aged Q held users)) users)

-- two labels that are the same but for the process
pub record Whose (p p' : ℕ) (label label' : Label) : Type 0 where
  pub renames : renamed_label p' label ≡ label'
  pub process : is_of_process p (quiet_entry label) ≡ is_of_process p' (quiet_entry label')
  pub of : is_of (main_id p) (quiet_entry label) ≡ is_of (main_id p') (quiet_entry label')
  pub budget : is_budget_of (main_id p) (quiet_entry label) ≡ is_budget_of (main_id p') (quiet_entry label')
  pub out : is_out_of (main_id p) (quiet_entry label) ≡ is_out_of (main_id p') (quiet_entry label')

-- the numbers of a job after a tick with the label
abbrev pub charged : ℕ → Label → Job → Job
charged p label j =
    the_job j.share (cond (is_budget_of (main_id p) (quiet_entry label)) 1 0 + j.used) (cond (is_out_of (main_id p) (quiet_entry label)) 1 0 + j.out_ticks) j.closed

pub charged-same : (p p' : ℕ) (label label' : Label) (j : Job) → Whose p p' label label' → charged p label j ≡ charged p' label' j
charged-same p p' label label' j whose = grind (arith, nat_tests, the_job, main_id)

abbrev create_with : Configuration → ℕ → ℕ → ℕ → ℕ → ℕ → ℕ → List Thread → Option Refusal
create_with c p few level quota entry instructions children =
    first_refusal
    ((false, Refusal.NotMain)
    ∷ (ltb level (main_level c p) || ltb (max_level c p) level, Refusal.Level)
    ∷ (leb instructions entry, Refusal.Entry)
    ∷ (leb few (length children), Refusal.Slots)
    ∷ (ltb ((quota * period c level) / period c (main_level c p)) (least_share c), Refusal.TooSmall)
    ∷ (ltb (budget c p) (sum_by (λ y. y.quota) children + quota + least_share c), Refusal.Budget)
    ∷ [])

-- the refusal of a create where the process may have no children
abbrev no_child : ℕ → ℕ → ℕ → ℕ → ℕ → Option Refusal
no_child least most level entry instructions =
    cond (ltb level least || ltb most level) (Some Refusal.Level) (cond (leb instructions entry) (Some Refusal.Entry) (Some Refusal.Slots))

is-some : (a b : Bool) (r s t : Refusal) → cond a (Some r) (cond b (Some s) (Some t)) ≡ None → ⊥
is-some a b r s t none = grind (arith, nat_tests)

abbrev delete_with : ℕ → List Thread → Option Refusal
delete_with serial family = first_refusal ((false, Refusal.NotMain) ∷ (not (list_any (is_running_child serial) family), Refusal.NoThread) ∷ [])

-- a delete over the one row of a main
abbrev no_thread : Option Refusal
no_thread = Some Refusal.NoThread

abbrev lock_by : Bool → ℕ → ℕ → ℕ → ℕ → List Hold → Option Refusal
lock_by user longest left_inner m left held =
    first_refusal
    ((not user, Refusal.NotUser)
    ∷ (is_held m held, Refusal.Holding)
    ∷ (ltb left longest || (is_holding held && leb left_inner longest), Refusal.TooLittle)
    ∷ [])

lock-longest : (user : Bool) (one other left_inner m left : ℕ) (held : List Hold) → (user ≡ true → one ≡ other)
    → lock_by user one left_inner m left held ≡ lock_by user other left_inner m left held
lock-longest user one other left_inner m left held same = grind (arith, nat_tests)

-- with more left it is refused for the same reason, where that isn't too little
want-more : (low low' nested : Bool) → (low ≡ false → low' ≡ false) → (cond (low || nested) (Some Refusal.TooLittle) None ≡ Some Refusal.TooLittle → ⊥)
    → cond (low || nested) (Some Refusal.TooLittle) None ≡ cond (low' || nested) (Some Refusal.TooLittle) None
want-more true low' nested less enough = absurd (enough refl)
want-more false low' nested less enough = sym (ap (λ b. cond (b || nested) (Some Refusal.TooLittle) None) (less refl))

lock-more : (user : Bool) (longest left_inner m left left' : ℕ) (held : List Hold) → left ≤ left'
    → (lock_by user longest left_inner m left held ≡ Some Refusal.TooLittle → ⊥)
    → lock_by user longest left_inner m left held ≡ lock_by user longest left_inner m left' held
lock-more false longest left_inner m left left' held more enough = refl
lock-more true longest left_inner m left left' held more enough = by (is_held m held) enough
  where
    less : ltb left longest ≡ false → ltb left' longest ≡ false
    less low = grind (arith, nat_tests)

    rest : ℕ → Option Refusal
    rest k = cond (ltb k longest || (is_holding held && leb left_inner longest)) (Some Refusal.TooLittle) None

    by : (b : Bool) → (cond b (Some Refusal.Holding) (rest left) ≡ Some Refusal.TooLittle → ⊥)
        → cond b (Some Refusal.Holding) (rest left) ≡ cond b (Some Refusal.Holding) (rest left')
    by true some = refl
    by false some = want-more (ltb left longest) (ltb left' longest) (is_holding held && leb left_inner longest) less some

pub lock-user : (user : Bool) (longest left_inner m left : ℕ) (held : List Hold) → lock_by user longest left_inner m left held ≡ None → user ≡ true
lock-user user longest left_inner m left held none = grind (arith, nat_tests)

abbrev unlock_with : ℕ → List Hold → Option Refusal
unlock_with m held = first_refusal ((not (is_held m held), Refusal.NotHeld) ∷ (not (is_innermost m held), Refusal.NotLast) ∷ [])

abbrev wait_with : List Hold → Option Refusal
wait_with held = first_refusal ((is_holding held, Refusal.HoldsWait) ∷ [])

abbrev slack_with : Bool → ℕ → Option Refusal
slack_with right amount = first_refusal ((not right, Refusal.NoRight) ∷ ((eqb amount 0) || ltb 1000000 amount, Refusal.Amount) ∷ [])

-- in a tick with the label: the refusal of a lock, and what is left of the budget
abbrev pub lock_in : Configuration → ℕ → Label → List Entry → ℕ → Option Refusal
lock_in c p label past m = lock_refusal c (length past) (quiet_entry label ∷ past) (main_row c p past) m

abbrev pub left_in : Configuration → ℕ → Label → List Entry → ℕ
left_in c p label past = thread_body_left c (length past) (quiet_entry label ∷ past) (main_row c p past)

-- what one past says of a process that may have neither children nor slack
module _ (c : Configuration) (p : ℕ) (past : List Entry) (plain : Plain (entries_of p past)) (few : slots c p ≡ 0) (right : may_ask c p ≡ false) (label : Label) where
  family-charged-alone : family c p (quiet_entry label ∷ past) ≡ main_row c p past ∷ []
  family-charged-alone = family-charged c p label past ∙ family-alone c p past plain

  standing-none : standing_children c (length past) (quiet_entry label ∷ past) p ≡ []
  standing-none = ap (filter (λ y. not (is_main y) && not (is_void y) && not (is_ended_by c (length past) y))) family-charged-alone

  create-none : (level quota entry instructions : ℕ)
      → create_refusal c (length past) (quiet_entry label ∷ past) (main_row c p past) level quota entry instructions
      ≡ no_child (main_level c p) (max_level c p) level entry instructions
  create-none level quota entry instructions = grind (arith, nat_tests, standing-none)

  delete-none : (serial : ℕ) → delete_refusal c (quiet_entry label ∷ past) (main_row c p past) serial ≡ no_thread
  delete-none serial = ap (delete_with serial) family-charged-alone

  slack-none : (amount : ℕ) → slack_refusal c (main_row c p past) amount ≡ Some Refusal.NoRight
  slack-none amount = ap (λ b. slack_with b amount) right

  serial-one : next_serial c (quiet_entry label ∷ past) p ≡ 1
  serial-one = ap length family-charged-alone

  by-refusal : (Q : ℕ → Type 0) (r : Option Refusal) (event : Event) (reply : Option Reply) (child : Option Child) → (r ≡ None → IsOwnEvent Q (Some event))
      → IsOwnEvent Q (or_refused r (record { event = Some event; reply = reply; child = child })).event
  by-refusal Q None event reply child given = given refl
  by-refusal Q (Some reason) event reply child given = tt

  call-own : (Q : ℕ → Type 0) (instructions : ℕ) (context : Context) (call : KernelCall)
      → (call ≡ KernelCall.Lock → lock_in c p label past (reg context 1) ≡ None → Q (reg context 1))
      → IsOwnEvent Q (call_effect c (length past) (quiet_entry label ∷ past) (main_row c p past) instructions context call).event
  call-own Q instructions context KernelCall.Wait granted = by-refusal Q _ Event.Wait _ _ (λ is. tt)
  call-own Q instructions context KernelCall.Exit granted = tt
  call-own Q instructions context KernelCall.Create granted =
      by-refusal Q (create_refusal c (length past) (quiet_entry label ∷ past) (main_row c p past) (reg context 1) (reg context 2) (reg context 3) instructions) _ _ _
      (λ is. is-some (ltb (reg context 1) (main_level c p) || ltb (max_level c p) (reg context 1)) (leb instructions (reg context 3)) Refusal.Level Refusal.Entry Refusal.Slots (sym (create-none (reg context 1) (reg context 2) (reg context 3) instructions) ∙ is))
  call-own Q instructions context KernelCall.Delete granted = by-refusal Q _ (Event.Delete (reg context 1)) _ _ (λ is. tt)
  call-own Q instructions context KernelCall.Lock granted = by-refusal Q (lock_in c p label past (reg context 1)) (Event.Lock (reg context 1)) _ _ (granted refl)
  call-own Q instructions context KernelCall.Unlock granted = by-refusal Q _ (Event.Unlock (reg context 1)) _ _ (λ is. tt)
  call-own Q instructions context KernelCall.Slack granted =
      by-refusal Q (slack_refusal c (main_row c p past) (reg context 1)) _ _ _ (λ is. never (sym (slack-none (reg context 1)) ∙ is))
    where
      never : Some Refusal.NoRight ≡ None → ⊥
      never e = cc
  call-own Q instructions context KernelCall.Put granted = tt
  call-own Q instructions context KernelCall.Time granted = tt
  call-own Q instructions context KernelCall.Left granted = tt

  pub effect-own : (Q : ℕ → Type 0) (instructions : ℕ) (context : Context) (outcome : Outcome)
      → (outcome ≡ Outcome.CallDone KernelCall.Lock → lock_in c p label past (reg context 1) ≡ None → Q (reg context 1))
      → IsOwnEvent Q (effect c (length past) (quiet_entry label ∷ past) (main_row c p past) instructions context outcome).event
  effect-own Q instructions context Outcome.Ran granted = tt
  effect-own Q instructions context Outcome.InCall granted = tt
  effect-own Q instructions context (Outcome.Fault kind) granted = tt
  effect-own Q instructions context (Outcome.CallDone call) granted = call-own Q instructions context call (λ is. granted (ap Outcome.CallDone is))

-- the numbers of the levels are the same in both configurations
abbrev pub SameLevels : Configuration → ℕ → Configuration → ℕ → Type 0
SameLevels c p c' p' = (main_level c p ≡ main_level c' p') × (max_level c p ≡ max_level c' p')

-- the two configurations let the mutex be held as long
abbrev pub HeldAsLong : Configuration → Configuration → ℕ → Type 0
HeldAsLong c c' m = longest_hold c m ≡ longest_hold c' m

pub inner-same : (c c' : Configuration) (hs : List Hold) → Users (HeldAsLong c c') hs → innermost_left c hs ≡ innermost_left c' hs
inner-same c c' [] users = refl
inner-same c c' (h ∷ hs) users = ap (λ k. k - h.ticks) users.0

-- two pasts of two configurations that say the same of it
module _ (c c' : Configuration) (p p' : ℕ)
    (few : slots c p ≡ 0) (few' : slots c' p' ≡ 0) (right : may_ask c p ≡ false) (right' : may_ask c' p' ≡ false)
    (one other : List Entry)
    (held : held_by (main_id p) one ≡ held_by (main_id p') other) (users : Users (HeldAsLong c c') (held_by (main_id p) one))
    (plain : Plain (entries_of p one)) (plain' : Plain (entries_of p' other)) where
  module _ (label label' : Label) (whose : Whose p p' label label') where
    held-charged : held_by (main_id p) (quiet_entry label ∷ one) ≡ held_by (main_id p') (quiet_entry label' ∷ other)
    held-charged = grind (arith, nat_tests, held-quiet, main_id)

    users-charged : Users (HeldAsLong c c') (held_by (main_id p) (quiet_entry label ∷ one))
    users-charged =
        subst (Users (HeldAsLong c c')) (sym (held-quiet (main_id p) label one))
        (users-if (HeldAsLong c c') (is_of (main_id p) (quiet_entry label)) (map aged (held_by (main_id p) one)) (held_by (main_id p) one)
        (users-aged (HeldAsLong c c') (held_by (main_id p) one) users) users)

    -- what is left, from the numbers of the job
    pub left-one : left_in c p label one ≡ body_left c.costs.switch (charged p label (own c p one).job)
    left-one = ap (body_left c.costs.switch) (job-charged c label one (main_row c p one))

    -- a lock reads of the configuration only who may lock the mutex and how long it may be held
    lock-moved : (m left : ℕ) → is_user c m p ≡ is_user c' m p' → (is_user c m p ≡ true → longest_hold c m ≡ longest_hold c' m)
        → lock_by (is_user c m p) (longest_hold c m) (innermost_left c (held_by (main_id p) (quiet_entry label ∷ one))) m left (held_by (main_id p) (quiet_entry label ∷ one))
        ≡ lock_by (is_user c' m p') (longest_hold c' m) (innermost_left c' (held_by (main_id p') (quiet_entry label' ∷ other))) m left (held_by (main_id p') (quiet_entry label' ∷ other))
    lock-moved m left user hold =
        let H = held_by (main_id p) (quiet_entry label ∷ one) in
        ap (λ u. lock_by u (longest_hold c m) (innermost_left c H) m left H) user
        ∙ lock-longest (is_user c' m p') (longest_hold c m) (longest_hold c' m) (innermost_left c H) m left H (λ is. hold (user ∙ is))
        ∙ ap (λ k. lock_by (is_user c' m p') (longest_hold c' m) k m left H) (inner-same c c' H users-charged)
        ∙ ap (λ hs. lock_by (is_user c' m p') (longest_hold c' m) (innermost_left c' hs) m left hs) held-charged

    pub lock-same : (m : ℕ) → is_user c m p ≡ is_user c' m p' → (is_user c m p ≡ true → longest_hold c m ≡ longest_hold c' m)
        → left_in c p label one ≡ left_in c' p' label' other → lock_in c p label one m ≡ lock_in c' p' label' other m
    lock-same m user hold same =
        lock-moved m (left_in c p label one) user hold
        ∙ ap (λ k. lock_by (is_user c' m p') (longest_hold c' m) (innermost_left c' (held_by (main_id p') (quiet_entry label' ∷ other))) m k (held_by (main_id p') (quiet_entry label' ∷ other))) same

    pub lock-no-less : (m : ℕ) → is_user c m p ≡ is_user c' m p' → (is_user c m p ≡ true → longest_hold c m ≡ longest_hold c' m)
        → left_in c p label one ≤ left_in c' p' label' other → (lock_in c p label one m ≡ Some Refusal.TooLittle → ⊥)
        → lock_in c p label one m ≡ lock_in c' p' label' other m
    lock-no-less m user hold more enough =
        lock-more (is_user c m p) (longest_hold c m) (innermost_left c (held_by (main_id p) (quiet_entry label ∷ one))) m (left_in c p label one) (left_in c' p' label' other)
        (held_by (main_id p) (quiet_entry label ∷ one)) more enough
        ∙ lock-moved m (left_in c' p' label' other) user hold

    create-same : (level quota entry instructions : ℕ) → SameLevels c p c' p'
        → create_refusal c (length one) (quiet_entry label ∷ one) (main_row c p one) level quota entry instructions
        ≡ create_refusal c' (length other) (quiet_entry label' ∷ other) (main_row c' p' other) level quota entry instructions
    create-same level quota entry instructions levels = grind (arith, nat_tests, create-none)

    delete-same : (serial : ℕ) → delete_refusal c (quiet_entry label ∷ one) (main_row c p one) serial ≡ delete_refusal c' (quiet_entry label' ∷ other) (main_row c' p' other) serial
    delete-same serial = delete-none c p one plain few right label serial ∙ sym (delete-none c' p' other plain' few' right' label' serial)

    abbrev one_does : ℕ → Context → KernelCall → Effect
    one_does instructions context call = call_effect c (length one) (quiet_entry label ∷ one) (main_row c p one) instructions context call

    abbrev other_does : ℕ → Context → KernelCall → Effect
    other_does instructions context call = call_effect c' (length other) (quiet_entry label' ∷ other) (main_row c' p' other) instructions context call

    call-same : (instructions : ℕ) (context : Context) (call : KernelCall) → (call ≡ KernelCall.Time → ⊥) → (call ≡ KernelCall.Create → SameLevels c p c' p')
        → (call ≡ KernelCall.Lock → lock_in c p label one (reg context 1) ≡ lock_in c' p' label' other (reg context 1))
        → (call ≡ KernelCall.Left → left_in c p label one ≡ left_in c' p' label' other)
        → one_does instructions context call ≡ other_does instructions context call
    call-same instructions context KernelCall.Wait no_tick levels locks left =
        ap (λ hs. or_refused (wait_with hs) (done Event.Wait)) held-charged
    call-same instructions context KernelCall.Exit no_tick levels locks left = refl
    call-same instructions context KernelCall.Create no_tick levels locks left =
        ap (λ r. or_refused r (creates (next_serial c (quiet_entry label ∷ one) p) context)) (create-same (reg context 1) (reg context 2) (reg context 3) instructions (levels refl))
        ∙ ap (λ k. or_refused (create_refusal c' (length other) (quiet_entry label' ∷ other) (main_row c' p' other) (reg context 1) (reg context 2) (reg context 3) instructions) (creates k context))
        (serial-one c p one plain few right label ∙ sym (serial-one c' p' other plain' few' right' label'))
    call-same instructions context KernelCall.Delete no_tick levels locks left =
        ap (λ r. or_refused r (done (Event.Delete (reg context 1)))) (delete-same (reg context 1))
    call-same instructions context KernelCall.Lock no_tick levels locks left =
        ap (λ r. or_refused r (done (Event.Lock (reg context 1)))) (locks refl)
    call-same instructions context KernelCall.Unlock no_tick levels locks left =
        ap (λ hs. or_refused (unlock_with (reg context 1) hs) (done (Event.Unlock (reg context 1)))) held-charged
    call-same instructions context KernelCall.Slack no_tick levels locks left =
        ap (λ r. or_refused r (done (Event.Slack (reg context 1))))
        (slack-none c p one plain few right label (reg context 1) ∙ sym (slack-none c' p' other plain' few' right' label' (reg context 1)))
    call-same instructions context KernelCall.Put no_tick levels locks left = refl
    call-same instructions context KernelCall.Time no_tick levels locks left = absurd (no_tick refl)
    call-same instructions context KernelCall.Left no_tick levels locks left = ap answers (left refl)

    effect-same : (instructions : ℕ) (context : Context) (outcome : Outcome)
        → (outcome ≡ Outcome.CallDone KernelCall.Time → ⊥) → (outcome ≡ Outcome.CallDone KernelCall.Create → SameLevels c p c' p')
        → (outcome ≡ Outcome.CallDone KernelCall.Lock → lock_in c p label one (reg context 1) ≡ lock_in c' p' label' other (reg context 1))
        → (outcome ≡ Outcome.CallDone KernelCall.Left → left_in c p label one ≡ left_in c' p' label' other)
        → effect c (length one) (quiet_entry label ∷ one) (main_row c p one) instructions context outcome
        ≡ effect c' (length other) (quiet_entry label' ∷ other) (main_row c' p' other) instructions context outcome
    effect-same instructions context Outcome.Ran no_tick levels locks left = refl
    effect-same instructions context Outcome.InCall no_tick levels locks left = refl
    effect-same instructions context (Outcome.Fault kind) no_tick levels locks left = refl
    effect-same instructions context (Outcome.CallDone call) no_tick levels locks left =
        call-same instructions context call (λ is. no_tick (ap Outcome.CallDone is)) (λ is. levels (ap Outcome.CallDone is)) (λ is. locks (ap Outcome.CallDone is))
        (λ is. left (ap Outcome.CallDone is))

abbrev pub turn_by : Bool → Label → Image → Tick → Effect → Turn
turn_by breaks label image tick given =
    cond breaks
    (record { entry = record { label = label; event = Some (Event.Fault FaultKind.Hold) }; image = image })
    (record { entry = record { label = label; event = given.event }; image = image_after image 0 tick given })

-- two turns that are the same but for the process
pub record Turns (Q : ℕ → Type 0) (p p' : ℕ) (t t' : Turn) : Type 0 where
  pub whose : Whose p p' t.entry.label t'.entry.label
  pub renames : renamed p' t.entry ≡ t'.entry
  pub image : t.image ≡ t'.image
  pub event : IsOwnEvent Q t.entry.event

turns-by : (Q : ℕ → Type 0) (p p' : ℕ) (breaks : Bool) (label label' : Label) (image : Image) (tick : Tick) (given given' : Effect) → Whose p p' label label'
    → (breaks ≡ false → given ≡ given') → IsOwnEvent Q given.event → Turns Q p p' (turn_by breaks label image tick given) (turn_by breaks label' image tick given')
turns-by Q p p' true label label' image tick given given' whose same mine =
    record { whose = whose; renames = ap (λ (l : Label). record { label = l; event = Some (Event.Fault FaultKind.Hold) }) whose.renames; image = refl; event = tt }
turns-by Q p p' false label label' image tick given given' whose same mine =
    record {
      whose = whose;
      renames = ap (λ (l : Label). record { label = l; event = given.event }) whose.renames ∙ ap (λ (g : Effect). record { label = label'; event = g.event }) (same refl);
      image = ap (image_after image 0 tick) (same refl);
      event = mine;
    }

-- the body's turn is the same over both pasts but for the process, where a lock comes to the same and what is left isn't read or is the same
pub turns : (c c' : Configuration) (p p' : ℕ)
    → slots c p ≡ 0 → slots c' p' ≡ 0 → may_ask c p ≡ false → may_ask c' p' ≡ false
    → (one other : List Entry) → held_by (main_id p) one ≡ held_by (main_id p') other
    → Users (HeldAsLong c c') (held_by (main_id p) one) → Plain (entries_of p one) → Plain (entries_of p' other)
    → (image : Image) (tick : Tick) → (tick.outcome ≡ Outcome.CallDone KernelCall.Time → ⊥) → (tick.outcome ≡ Outcome.CallDone KernelCall.Create → SameLevels c p c' p')
    → (whose : Whose p p' (label_of (Choice.Budget (main_id p) Phase.Body) (work_done tick.outcome)) (label_of (Choice.Budget (main_id p') Phase.Body) (work_done tick.outcome)))
    → (tick.outcome ≡ Outcome.CallDone KernelCall.Lock → lock_in c p (label_of (Choice.Budget (main_id p) Phase.Body) (work_done tick.outcome)) one (reg tick.context 1) ≡ None → HeldAsLong c c' (reg tick.context 1))
    → (breaks_hold c (held_by (main_id p) one) (image.contexts 0) tick.outcome ≡ false → tick.outcome ≡ Outcome.CallDone KernelCall.Lock
    → lock_in c p (label_of (Choice.Budget (main_id p) Phase.Body) (work_done tick.outcome)) one (reg tick.context 1)
    ≡ lock_in c' p' (label_of (Choice.Budget (main_id p') Phase.Body) (work_done tick.outcome)) other (reg tick.context 1))
    → (tick.outcome ≡ Outcome.CallDone KernelCall.Left
    → left_in c p (label_of (Choice.Budget (main_id p) Phase.Body) (work_done tick.outcome)) one
    ≡ left_in c' p' (label_of (Choice.Budget (main_id p') Phase.Body) (work_done tick.outcome)) other)
    → Turns (HeldAsLong c c') p p' (thread_turn c one (Choice.Budget (main_id p) Phase.Body) (main_id p) image tick)
    (thread_turn c' other (Choice.Budget (main_id p') Phase.Body) (main_id p') image tick)
turns c c' p p' few few' right right' one other held users plain plain' image tick no_tick levels whose granted locks left =
    let Q = HeldAsLong c c' in
    let label = label_of (Choice.Budget (main_id p) Phase.Body) (work_done tick.outcome) in
    let label' = label_of (Choice.Budget (main_id p') Phase.Body) (work_done tick.outcome) in
    let instructions = length image.code / 4 in
    let given : Effect = effect c (length one) (quiet_entry label ∷ one) (thread_at c one (main_id p)) instructions tick.context tick.outcome in
    let given' : Effect = effect c' (length other) (quiet_entry label' ∷ other) (thread_at c' other (main_id p')) instructions tick.context tick.outcome in
    let mine : IsOwnEvent Q given.event =
    subst (λ row. IsOwnEvent Q (effect c (length one) (quiet_entry label ∷ one) row instructions tick.context tick.outcome).event) (sym (row-at c p one))
    (effect-own c p one plain few right label Q instructions tick.context tick.outcome granted) in
    let breaks : breaks_hold c (held_by (main_id p) one) (image.contexts 0) tick.outcome ≡ breaks_hold c' (held_by (main_id p') other) (image.contexts 0) tick.outcome =
    ap (λ k. (eqb k 1) && not (may_be_last (held_by (main_id p) one) (reg (image.contexts 0) 1) tick.outcome)) (inner-same c c' (held_by (main_id p) one) users)
    ∙ ap (λ (hs : List Hold). (eqb (innermost_left c' hs) 1) && not (may_be_last hs (reg (image.contexts 0) 1) tick.outcome)) held in
    let effects : breaks_hold c (held_by (main_id p) one) (image.contexts 0) tick.outcome ≡ false → given ≡ given' = λ lasts.
    ap (λ row. effect c (length one) (quiet_entry label ∷ one) row instructions tick.context tick.outcome) (row-at c p one)
    ∙ effect-same c c' p p' few few' right right' one other held users plain plain' label label' whose instructions tick.context tick.outcome no_tick levels (locks lasts) left
    ∙ sym (ap (λ row. effect c' (length other) (quiet_entry label' ∷ other) row instructions tick.context tick.outcome) (row-at c' p' other)) in
    let whole = turns-by Q p p' (breaks_hold c (held_by (main_id p) one) (image.contexts 0) tick.outcome) label label' image tick given given' whose effects mine in
    subst (λ t. Turns Q p p' (thread_turn c one (Choice.Budget (main_id p) Phase.Body) (main_id p) image tick) t)
    (ap (λ b. turn_by b label' image tick given') breaks) whole

-- a lock for which too little is left is told so in the turn's entry
pub want-told : (c : Configuration) (p : ℕ) (one : List Entry) (image : Image) (tick : Tick)
    → breaks_hold c (held_by (main_id p) one) (image.contexts 0) tick.outcome ≡ false → tick.outcome ≡ Outcome.CallDone KernelCall.Lock
    → lock_in c p (label_of (Choice.Budget (main_id p) Phase.Body) (work_done tick.outcome)) one (reg tick.context 1) ≡ Some Refusal.TooLittle
    → (thread_turn c one (Choice.Budget (main_id p) Phase.Body) (main_id p) image tick).entry.event ≡ Some (Event.Refused Refusal.TooLittle)
want-told c p one image tick lasts locks want =
    let label = label_of (Choice.Budget (main_id p) Phase.Body) (work_done tick.outcome) in
    let instructions = length image.code / 4 in
    ap (λ b. (turn_by b label image tick (effect c (length one) (quiet_entry label ∷ one) (thread_at c one (main_id p)) instructions tick.context tick.outcome)).entry.event) lasts
    ∙ ap (λ row. (effect c (length one) (quiet_entry label ∷ one) row instructions tick.context tick.outcome).event) (row-at c p one)
    ∙ ap (λ o. (effect c (length one) (quiet_entry label ∷ one) (main_row c p one) instructions tick.context o).event) locks
    ∙ ap (λ r. (or_refused r (done (Event.Lock (reg tick.context 1)))).event) want
