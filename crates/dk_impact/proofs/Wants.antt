-- A process whose program locks nothing is refused no lock for want of budget.
use Rattle.dk_impact.proofs.Names.{ℕ, zero, suc, ◌≡◌, ◌+◌, ◌<◌, ◌/◌, ◌%◌, ◌||◌, ◌&&◌, not, inl, inr, Bool, true, false, cond, List, [], ◌∷◌, length, Option, Some, None, refl, sym, ap, ◌∙◌, subst, arith, cases_lt, nat_tests, begins-sum, mod_self, take, slice_index_or, list_any, option_map_or, Configuration, IsChecked, IsAccepted, period, main_level, Phase, Choice, Label, FaultKind, Event, Entry, Refusal, does, is_of, has_event, Thread, label_of, work_done, breaks_hold, held_by, rem, main_id, Context, Outcome, KernelCall, Tick, Image, World, Effect, call_effect, creates, done, effect, or_refused, quiet_entry, thread_at, thread_turn, tick_in, step_of, alone, choice_alone, is_of_process, KeepsToItself, WindowsAsAlone, own, any-own, own-overruns, entry-by, alone-rests, alone-works, own_window, overruns, window_from, LocksNothing, is_for_want, NeverOverrunsWith, AlwaysHasEnough}
use Rattle.dk_impact.proofs.Whose.{lock-number, not-done}
use Rattle.dk_impact.proofs.Across.{code-alone}
use Rattle.dk_impact.proofs.Seen.{turn_by}

abbrev IsNotWant : Option Event → Type 0
IsNotWant event = event ≡ Some (Event.Refused Refusal.TooLittle) → ⊥

-- a list of reasons that has another first
passes : (b : Bool) (r : Refusal) (rest : Option Refusal) → (Some r ≡ Some Refusal.TooLittle → ⊥) → (rest ≡ Some Refusal.TooLittle → ⊥)
    → cond b (Some r) rest ≡ Some Refusal.TooLittle → ⊥
passes true r rest here later is = here is
passes false r rest here later is = later is

ends : None ≡ Some Refusal.TooLittle → ⊥
ends is = cc

or-not : (r : Option Refusal) (given : Effect) → (r ≡ Some Refusal.TooLittle → ⊥) → IsNotWant given.event → IsNotWant (or_refused r given).event
or-not None given never-so later is = later is
or-not (Some reason) given never-so later is = let same : reason ≡ Refusal.TooLittle = cc in never-so (ap Some same)

-- no call but a lock is refused for want
call-not : (c : Configuration) (now : ℕ) (past : List Entry) (x : Thread) (instructions : ℕ) (context : Context) (call : KernelCall) → (call ≡ KernelCall.Lock → ⊥)
    → IsNotWant (call_effect c now past x instructions context call).event
call-not c now past x instructions context KernelCall.Wait other =
    or-not _ (done Event.Wait) (passes _ Refusal.HoldsWait None (λ e. cc) ends) (λ e. cc)
call-not c now past x instructions context KernelCall.Exit other = λ e. cc
call-not c now past x instructions context KernelCall.Create other =
    or-not _ (creates _ context)
    (passes _ Refusal.NotMain _ (λ e. cc) (passes _ Refusal.Level _ (λ e. cc) (passes _ Refusal.Entry _ (λ e. cc) (passes _ Refusal.Slots _ (λ e. cc)
    (passes _ Refusal.TooSmall _ (λ e. cc) (passes _ Refusal.Budget None (λ e. cc) ends)))))) (λ e. cc)
call-not c now past x instructions context KernelCall.Delete other =
    or-not _ (done (Event.Delete _)) (passes _ Refusal.NotMain _ (λ e. cc) (passes _ Refusal.NoThread None (λ e. cc) ends)) (λ e. cc)
call-not c now past x instructions context KernelCall.Lock other = absurd (other refl)
call-not c now past x instructions context KernelCall.Unlock other =
    or-not _ (done (Event.Unlock _)) (passes _ Refusal.NotHeld _ (λ e. cc) (passes _ Refusal.NotLast None (λ e. cc) ends)) (λ e. cc)
call-not c now past x instructions context KernelCall.Slack other =
    or-not _ (done (Event.Slack _)) (passes _ Refusal.NoRight _ (λ e. cc) (passes _ Refusal.Amount None (λ e. cc) ends)) (λ e. cc)
call-not c now past x instructions context KernelCall.Put other = λ e. cc
call-not c now past x instructions context KernelCall.Time other = λ e. cc
call-not c now past x instructions context KernelCall.Left other = λ e. cc

effect-not : (c : Configuration) (now : ℕ) (past : List Entry) (x : Thread) (instructions : ℕ) (context : Context) (outcome : Outcome)
    → (outcome ≡ Outcome.CallDone KernelCall.Lock → ⊥) → IsNotWant (effect c now past x instructions context outcome).event
effect-not c now past x instructions context Outcome.Ran other = λ e. cc
effect-not c now past x instructions context Outcome.InCall other = λ e. cc
effect-not c now past x instructions context (Outcome.Fault kind) other = λ e. cc
effect-not c now past x instructions context (Outcome.CallDone call) other = call-not c now past x instructions context call (λ is. other (ap Outcome.CallDone is))

quiet-not : (label : Label) → IsNotWant (quiet_entry label).event
quiet-not label e = cc

broken-not : IsNotWant (Some (Event.Fault FaultKind.Hold))
broken-not e = cc

turn-by-not : (breaks : Bool) (label : Label) (image : Image) (tick : Tick) (given : Effect) → IsNotWant given.event → IsNotWant (turn_by breaks label image tick given).entry.event
turn-by-not true label image tick given never-so = broken-not
turn-by-not false label image tick given never-so = never-so

turn-not : (c : Configuration) (past : List Entry) (p : ℕ) (image : Image) (tick : Tick) → (tick.outcome ≡ Outcome.CallDone KernelCall.Lock → ⊥)
    → IsNotWant (thread_turn c past (Choice.Budget (main_id p) Phase.Body) (main_id p) image tick).entry.event
turn-not c past p image tick other =
    let label = label_of (Choice.Budget (main_id p) Phase.Body) (work_done tick.outcome) in
    let given : Effect = effect c (length past) (quiet_entry label ∷ past) (thread_at c past (main_id p)) (length image.code / 4) tick.context tick.outcome in
    turn-by-not (breaks_hold c (held_by (main_id p) past) (image.contexts 0) tick.outcome) label image tick given
    (effect-not c (length past) (quiet_entry label ∷ past) (thread_at c past (main_id p)) (length image.code / 4) tick.context tick.outcome other)

is-not : (event : Option Event) → IsNotWant event → option_map_or is_for_want event false ≡ false
is-not None never-so = refl
is-not (Some (Event.Refused Refusal.TooLittle)) never-so = absurd (never-so refl)
is-not (Some event) never-so = refl

does-not : (p : ℕ) (e : Entry) → IsNotWant e.event → does is_for_want (main_id p) e ≡ false
does-not p e never-so = both (is_of (main_id p) e) (has_event is_for_want e) (is-not e.event never-so)
  where
    both : (a b : Bool) → b ≡ false → (a && b) ≡ false
    both a b is = grind (arith, nat_tests)

head-not : (e e' : Entry) (past es : List Entry) → past ≡ e ∷ es → past ≡ e' ∷ es → IsNotWant e'.event → IsNotWant e.event
head-not e e' past es one other never-so = let both : (e ∷ es) ≡ e' ∷ es = sym one ∙ other in let same : e' ≡ e = cc in subst (λ (i : Entry). IsNotWant i.event) same never-so

module _ (c : Configuration) (p : ℕ) (program : List ℕ) (positive : 0 < period c (main_level c p)) (keeps : KeepsToItself c p program) (none : LocksNothing program) where
  abbrev v : ℕ → World
  v n = alone c p program n

  works-not : (n : ℕ) (next : Phase) (e : Entry) → (step_of c (v n) (Choice.Budget (main_id p) next)).past ≡ e ∷ (v n).past → IsNotWant e.event
  works-not n Phase.In e is = head-not e (quiet_entry (Label.In (main_id p))) _ (v n).past is refl (quiet-not (Label.In (main_id p)))
  works-not n Phase.Out e is = head-not e (quiet_entry (Label.Out (main_id p))) _ (v n).past is refl (quiet-not (Label.Out (main_id p)))
  works-not n Phase.Body e is =
      let image = (v n).images p in
      head-not e _ _ (v n).past is refl (turn-not c (v n).past p image (tick_in c image 0)
      (not-done c program image 5 KernelCall.Lock lock-number none (code-alone c p program positive keeps n)))

  rests-not : (n : ℕ) (e : Entry) → (step_of c (v n) Choice.Idle).past ≡ e ∷ (v n).past → IsNotWant e.event
  rests-not n e is = head-not e (quiet_entry Label.Idle) _ (v n).past is refl (quiet-not Label.Idle)

  next-not : (n : ℕ) (e : Entry) → (v (suc n)).past ≡ e ∷ (v n).past → IsNotWant e.event
  next-not n e is =
      elim (cases_lt 0 (rem c.costs.switch (own c p (v n).past).job)) [
        | inl some ↦ works-not n _ e (subst (λ choice. (step_of c (v n) choice).past ≡ e ∷ (v n).past) (alone-works c p (v n).past some) is)
        | inr over ↦ rests-not n e (subst (λ choice. (step_of c (v n) choice).past ≡ e ∷ (v n).past) (alone-rests c p (v n).past (omega arith)) is)
      ]

  alone-not : (n : ℕ) → list_any (does is_for_want (main_id p)) (v n).past ≡ false
  alone-not zero = refl
  alone-not (suc n) =
      let grown = entry-by c (v n) (choice_alone c p (v n).past) in
      ap (list_any (does is_for_want (main_id p))) grown.1
      ∙ neither (does is_for_want (main_id p) grown.0) (list_any (does is_for_want (main_id p)) (v n).past) (does-not p grown.0 (next-not n grown.0 grown.1)) (alone-not n)
    where
      neither : (a b : Bool) → a ≡ false → b ≡ false → (a || b) ≡ false
      neither a b one other = grind (arith, nat_tests)

any-front : (test : Entry → Bool) (n : ℕ) (es : List Entry) → list_any test es ≡ false → list_any test (take n es) ≡ false
any-front test zero es none = refl
any-front test (suc n) [] none = refl
any-front test (suc n) (e ∷ es) none =
    let both = parts (test e) (list_any test es) none in
    neither (test e) (list_any test (take n es)) both.0 (any-front test n es both.1)
  where
    parts : (a b : Bool) → (a || b) ≡ false → (a ≡ false) × (b ≡ false)
    parts a b is = grind (arith, nat_tests)

    neither : (a b : Bool) → a ≡ false → b ≡ false → (a || b) ≡ false
    neither a b one other = grind (arith, nat_tests)

own-not : (p : ℕ) (e : Entry) → is_of_process p e ≡ false → does is_for_want (main_id p) e ≡ false
own-not p e other = grind (arith, nat_tests)

-- so where it never overruns, it always has enough
pub enough-always : (c : Configuration) (p : ℕ) (program : List ℕ) → WindowsAsAlone → IsChecked c → IsAccepted c → KeepsToItself c p program → LocksNothing program
    → NeverOverrunsWith c p program → AlwaysHasEnough c p program
enough-always c p program windows checked accepted keeps none never =
    record {
      enough = λ programs tick mine begins.
          both (overruns p (own_window c programs p tick)) (list_any (does is_for_want (main_id p)) (own_window c programs p tick))
          (sym (own-overruns p (window_from c programs p tick)) ∙ never.never programs tick mine begins) (no-want programs tick mine begins);
    }
  where
    P : ℕ
    P = period c (main_level c p)

    positive : 0 < period c (main_level c p)
    positive = checked.positive (main_level c p) (checked.levels p keeps.known)

    both : (a b : Bool) → a ≡ false → b ≡ false → (not a && not b) ≡ true
    both a b one other = grind (arith, nat_tests)

    no-want : (programs : List (List ℕ)) (tick : ℕ) → slice_index_or programs p [] ≡ program → (tick % period c (main_level c p)) ≡ 0
        → list_any (does is_for_want (main_id p)) (own_window c programs p tick) ≡ false
    no-want programs tick mine begins =
        let es = take P (alone c p (slice_index_or programs p []) (tick + P)).past in
        ap (list_any (does is_for_want (main_id p)))
        (windows c programs p tick P checked accepted (subst (KeepsToItself c p) (sym mine) keeps) begins (begins-sum c p tick P begins (mod_self P)))
        ∙ sym (any-own p (does is_for_want (main_id p)) (own-not p) es)
        ∙ any-front (does is_for_want (main_id p)) P (alone c p (slice_index_or programs p []) (tick + P)).past
        (subst (λ code. list_any (does is_for_want (main_id p)) (alone c p code (tick + P)).past ≡ false) (sym mine) (alone-not c p program positive keeps none (tick + P)))
