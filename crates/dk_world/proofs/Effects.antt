-- What the calls of a thread can make: events that can be read, answers that are words, and children whose registers are.
use Rattle.dk_world.proofs.Names.{ℕ, ◌≡◌, ◌+◌, ◌-◌, ◌*◌, ◌/◌, ◌<◌, ◌≤◌, ◌^◌, true, false, cond, ltb, List, ◌∷◌, length, arith, IfSome, ◌||◌, sum_by, AllByRecursion, not-false, nat_tests, All-from_recursion, slice_get_past, MAX_MUTEXES, MAX_RUN_TICKS, MAX_SPAN, Configuration, IsChecked, IsWithinLimits, IsAccepted, budget, main_level, max_level, window_start, is_user, ThreadId, Label, Event, Refusal, Entry, is_of, stops, Thread, share, Hold, aged, held_after, held_by, is_held, job, thread_body_left, next_serial, standing_children, least_share, create_reasons, create_refusal, delete_refusal, lock_refusal, unlock_refusal, wait_refusal, slack_refusal, Context, Outcome, KernelCall, reg, Reply, Effect, done, answers, or_refused, creates, call_effect, effect, size_of, HasEvent, HasOwnEvent, none-holds}
use Rattle.std.proofs.Common.{[], map}
use Rattle.std.specs.Prelude.{Option, None}
use Rattle.dk_world.proofs.Each.{either, each_map, each_filter}
use Rattle.dk_world.proofs.Registers.{IsWord, Words, reg_word}
use Rattle.dk_world.proofs.Families.{IsSound, LendsWithin, family_few}
use Rattle.dk_world.proofs.Limits.{budget_period}

-- a mutex of the list of mutexes is held
abbrev IsOne : Hold → Type 0
IsOne h = h.mutex < MAX_MUTEXES

module _ (c : Configuration) where
  locked : (label : Label) (event : Option Event) (held : List Hold) → HasOwnEvent (size_of c) label event → AllByRecursion IsOne held → AllByRecursion IsOne (held_after event held)
  locked label event held r k = grind (arith, nat_tests, each_filter)

  held_each : (x : ThreadId) (past : List Entry) → AllByRecursion (IsSound c) past → AllByRecursion IsOne (held_by x past)
  held_each x [] sound = tt
  held_each x (e ∷ past) sound =
      let before = held_each x past sound.1 in
      either (AllByRecursion IsOne) (stops x e) [] (cond (is_of x e) (held_after e.event (map aged (held_by x past))) (held_by x past)) tt
      (either (AllByRecursion IsOne) (is_of x e) (held_after e.event (map aged (held_by x past))) (held_by x past)
      (locked e.label e.event (map aged (held_by x past)) sound.0.ranges.event (each_map IsOne IsOne aged (λ g one. one) (held_by x past) before)) before)

held_one : (m : ℕ) (held : List Hold) → is_held m held ≡ true → AllByRecursion IsOne held → m < MAX_MUTEXES
held_one m [] is k = absurd (cc)
held_one m (g ∷ held) is k = grind (arith, nat_tests, held_one m held)

user_one : (c : Configuration) (m p : ℕ) → length c.mutexes ≤ MAX_MUTEXES → is_user c m p ≡ true → m < MAX_MUTEXES
user_one c m p few is = grind (arith, nat_tests, slice_get_past)

abbrev pub IsWordReply : Reply → Type 0
IsWordReply r = IsWord r.r0 × IfSome r.r1 IsWord

pub record IsGiven (c : Configuration) (p : ℕ) (given : Effect) : Type 0 where
  pub event : IfSome given.event (HasEvent (size_of c))
  pub lends : IfSome given.event (LendsWithin c p)
  pub reply : IfSome given.reply IsWordReply
  pub child : IfSome given.child (λ y. Words y.context.regs)

product_word : (q P Q : ℕ) → q ≤ Q → P ≤ MAX_SPAN → (q * P) / Q ≤ MAX_SPAN
product_word q P Q le most = grind (arith, nat_tests)

module _ (c : Configuration) (checked : IsChecked c) (limits : IsWithinLimits c) (accepted : IsAccepted c) where
  share_few : (past : List Entry) (x : Thread) (s : ℕ) → x.id.process < length c.processes → x.quota ≤ budget c x.id.process → share c past x s ≤ MAX_SPAN
  share_few past x s here quota = grind (arith, nat_tests, budget_period, either, product_word)

  left_word : (now : ℕ) (past : List Entry) (x : Thread) → x.id.process < length c.processes → x.quota ≤ budget c x.id.process → IsWord (thread_body_left c now past x)
  left_word now past x here quota =
      let j = job c now past x in
      let few : j.share ≤ MAX_SPAN = share_few past x (window_start c x.level now) here quota in
      either IsWord j.closed 0 (j.share - j.used - c.costs.switch) (omega arith) (omega (arith, few))

  module _ (now : ℕ) (past : List Entry) (sound : AllByRecursion (IsSound c) past) (early : now ≤ MAX_RUN_TICKS) (short : length past ≤ MAX_RUN_TICKS + 1)
      (x : Thread) (here : x.id.process < length c.processes) (quota : x.quota ≤ budget c x.id.process) (context : Context) (words : Words context.regs) where
    abbrev pub IsGivenHere : Effect → Type 0
    IsGivenHere given = IsGiven c x.id.process given

    or_given : (o : Option Refusal) (given : Effect) → (o ≡ None → IsGivenHere given) → IsGivenHere (or_refused o given)
    or_given o given g = grind (arith, nat_tests)

    done_given : (event : Event) → HasEvent (size_of c) event → LendsWithin c x.id.process event → IsGivenHere (done event)
    done_given event r l = record { event = r; lends = l; reply = (omega arith, tt); child = tt }

    answers_given : (value : ℕ) → IsWord value → IsGivenHere (answers value)
    answers_given value w = record { event = tt; lends = tt; reply = (omega arith, w); child = tt }

    of : (a : ℕ) → IsWord (reg context a)
    of a = reg_word context a words

    creates_given : (instructions : ℕ) → create_refusal c now past x (reg context 1) (reg context 2) (reg context 3) instructions ≡ None
        → IsGivenHere (creates (next_serial c past x.id.process) context)
    creates_given instructions free =
        let p = x.id.process in
        let level = reg context 1 in
        let amount = reg context 2 in
        let children = standing_children c now past p in
        let none = none-holds (create_reasons c now past x level amount (reg context 3) instructions) free in
        let levels : (ltb level (main_level c p) || ltb (max_level c p) level) ≡ false = none.1.0 in
        let fits : ltb (budget c p) (sum_by (λ y. y.quota) children + amount + least_share c) ≡ false = none.1.1.1.1.1.0 in
        let known : level ≤ max_level c p = grind (arith, nat_tests) in
        let room : sum_by (λ y. y.quota) children + amount + least_share c ≤ budget c p = grind (arith, nat_tests) in
        let reached = checked.reaches p here in
        let few = family_few c p past in
        let serial : next_serial c past p < 2 ^ 32 = omega (arith, few, short) in
        record {
          event = (serial, omega (arith, known, reached), of 2);
          lends = omega (arith, room);
          reply = (omega arith, serial);
          child = All-from_recursion IsWord (0 ∷ reg context 4 ∷ 0 ∷ 0 ∷ 0 ∷ 0 ∷ 0 ∷ 0 ∷ [])
              (omega arith, (of 4, (omega arith, (omega arith, (omega arith, (omega arith, (omega arith, (omega arith, tt))))))));
        }

    locks_given : lock_refusal c now past x (reg context 1) ≡ None → IsGivenHere (done (Event.Lock (reg context 1)))
    locks_given free = grind (arith, nat_tests, none-holds, done_given, user_one, not-false)

    unlocks_given : unlock_refusal past x (reg context 1) ≡ None → IsGivenHere (done (Event.Unlock (reg context 1)))
    unlocks_given free = grind (arith, nat_tests, none-holds, done_given, held_one, not-false, held_each)

    call_given : (instructions : ℕ) (call : KernelCall) → IsGivenHere (call_effect c now past x instructions context call)
    call_given instructions KernelCall.Wait = or_given (wait_refusal past x) (done Event.Wait) (λ free. done_given Event.Wait tt tt)
    call_given instructions KernelCall.Exit = done_given Event.Exit tt tt
    call_given instructions KernelCall.Create =
        or_given (create_refusal c now past x (reg context 1) (reg context 2) (reg context 3) instructions) (creates (next_serial c past x.id.process) context) (creates_given instructions)
    call_given instructions KernelCall.Delete =
        or_given (delete_refusal c past x (reg context 1)) (done (Event.Delete (reg context 1))) (λ free. done_given (Event.Delete (reg context 1)) (of 1) tt)
    call_given instructions KernelCall.Lock = or_given (lock_refusal c now past x (reg context 1)) (done (Event.Lock (reg context 1))) locks_given
    call_given instructions KernelCall.Unlock = or_given (unlock_refusal past x (reg context 1)) (done (Event.Unlock (reg context 1))) unlocks_given
    call_given instructions KernelCall.Slack =
        or_given (slack_refusal c x (reg context 1)) (done (Event.Slack (reg context 1))) (λ free. done_given (Event.Slack (reg context 1)) (of 1) tt)
    call_given instructions KernelCall.Put = done_given _ (of 1) tt
    call_given instructions KernelCall.Time = answers_given now (omega (arith, early))
    call_given instructions KernelCall.Left = answers_given (thread_body_left c now past x) (left_word now past x here quota)

    pub effect_given : (instructions : ℕ) (outcome : Outcome) → IsGivenHere (effect c now past x instructions context outcome)
    effect_given instructions Outcome.Ran = record { event = tt; lends = tt; reply = tt; child = tt }
    effect_given instructions Outcome.InCall = record { event = tt; lends = tt; reply = tt; child = tt }
    effect_given instructions (Outcome.Fault kind) = record { event = tt; lends = tt; reply = tt; child = tt }
    effect_given instructions (Outcome.CallDone call) = call_given instructions call
