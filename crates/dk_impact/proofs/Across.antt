-- By itself a process runs the same in two configurations of which it sees the same but the period, tick by tick of a window.
use Rattle.dk_impact.proofs.Names.{ℕ, zero, suc, ◌≡◌, ◌+◌, ◌-◌, ◌*◌, ◌%◌, ◌<◌, ◌≤◌, ◌⊎◌, inl, inr, Bool, false, cond, not, ◌&&◌, ◌||◌, List, [], ◌∷◌, length, map, Option, Some, None, true, replicate, zero_context, refl, sym, ap, ◌∙◌, subst, arith, cases_lt, mod-eq_of_lt, Configuration, IsChecked, IsAccepted, period, main_level, budget, Phase, Work, Choice, Label, Event, Entry, label_of, work_done, breaks_hold, reg, is_of, does, is_end, is_user, longest_hold, Job, phase, rem, Hold, aged, held_after, held_by, mod-next, main_id, the_job, Outcome, KernelCall, Tick, body_tick, Image, World, Turn, quiet_entry, quiet_step, thread_turn, tick_in, step_of, budget_period, update-same, alone, choice_alone, entries_of, KeepsToItself, Own, own, booked, after, fresh, IsPlainEvent, Plain, filter-in, filter-out, booked-after, own-within, own-begins, alone-works, alone-rests, turn-label, alone-long, on, SeesTheSameButTime, LocksNothing, renamed, IsSameAcross, nat_tests}
use Rattle.dk_impact.proofs.Seen.{Users, users-next, IsOwnEvent, Whose, SameLevels, HeldAsLong, Turns, turns, lock_in, left_in, lock-user, lock-same, lock-no-less, want-told}
use Rattle.dk_impact.proofs.Budgets.{JobsAlike, Budgets, room-of, room-after, works-alike, rests-alike, left-by, told-want}
use Rattle.dk_impact.proofs.Spent.{moves-on, start_of, start-is, start-begins, over-by, finish}
use Rattle.dk_impact.proofs.Whose.{whose-in, whose-out, whose-idle, whose-body, time-number, create-number, lock-number, left-number, not-done}

-- what is said of the process is the same but for its number
record Alike (B B' p' : ℕ) (o o' : Own) : Type 0 where
  entries : map (renamed p') o.entries ≡ o'.entries
  job : JobsAlike B B' o.job o'.job
  held : o.held ≡ o'.held
  ended : o.ended ≡ o'.ended

entries-if : (p' : ℕ) (b : Bool) (e : Entry) (es : List Entry) → map (renamed p') (cond b (e ∷ es) es) ≡ cond b (renamed p' e ∷ map (renamed p') es) (map (renamed p') es)
entries-if p' b e es = grind (arith, nat_tests)

abbrev entries_with : Bool → Entry → List Entry → List Entry
entries_with b e es = cond b (e ∷ es) es

abbrev job_with : Bool → Bool → Bool → Bool → Bool → Job → Job
job_with paid out waits ends ended j =
    the_job j.share (cond paid 1 0 + j.used) (cond out 1 0 + j.out_ticks) (waits || ((ends && not ended) || j.closed))

abbrev held_with : Bool → Bool → Option Event → List Hold → List Hold
held_with ends of event held = cond ends [] (cond of (held_after event (map aged held)) held)

-- the same entry leaves it the same
after-alike : (B B' p p' : ℕ) (e e' : Entry) (o o' : Own) → Whose p p' e.label e'.label → renamed p' e ≡ e' → Alike B B' p' o o' → Alike B B' p' (after p e o) (after p' e' o')
after-alike B B' p p' e e' o o' whose names alike =
    record {
      entries = entries-after p p' e e' o o' whose names alike.entries;
      job = record {
        used = grind (arith, nat_tests, main_id, used);
        out_ticks = grind (arith, nat_tests, main_id, outs);
        closed = grind (arith, nat_tests, main_id, shut, gone);
        shares = alike.job.shares;
      };
      held = grind (arith, nat_tests, main_id, hold);
      ended = grind (arith, nat_tests, main_id, gone);
    }
  where
    used : o.job.used ≡ o'.job.used
    used = alike.job.used

    outs : o.job.out_ticks ≡ o'.job.out_ticks
    outs = alike.job.out_ticks

    shut : o.job.closed ≡ o'.job.closed
    shut = alike.job.closed

    hold : o.held ≡ o'.held
    hold = alike.held

    gone : o.ended ≡ o'.ended
    gone = alike.ended

    entries-after : (q q' : ℕ) (i i' : Entry) (x x' : Own) → Whose q q' i.label i'.label → renamed q' i ≡ i' → map (renamed q') x.entries ≡ x'.entries
        → map (renamed q') (after q i x).entries ≡ (after q' i' x').entries
    entries-after q q' i i' x x' of same before = grind (arith, nat_tests, main_id, entries-if)

own-plain : (Q : ℕ → Type 0) (event : Option Event) → IsOwnEvent Q event → IsPlainEvent event
own-plain Q None mine = tt
own-plain Q (Some Event.Wait) mine = tt
own-plain Q (Some Event.Exit) mine = tt
own-plain Q (Some (Event.Create serial level quota)) mine = mine
own-plain Q (Some (Event.Delete serial)) mine = tt
own-plain Q (Some (Event.Lock m)) mine = tt
own-plain Q (Some (Event.Unlock m)) mine = tt
own-plain Q (Some (Event.Slack amount)) mine = mine
own-plain Q (Some (Event.Put value)) mine = tt
own-plain Q (Some (Event.Fault kind)) mine = tt
own-plain Q (Some (Event.Refused refusal)) mine = tt

plain-next : (p : ℕ) (e : Entry) (past : List Entry) → IsPlainEvent e.event → Plain (entries_of p past) → Plain (entries_of p (e ∷ past))
plain-next p e past event plain = grind (arith, nat_tests, Plain, filter-in, filter-out)

-- a tick in both worlds
record Ticks (Q : ℕ → Type 0) (p p' : ℕ) (w v w' v' : World) : Type 0 where
  e : Entry
  e' : Entry
  past : w'.past ≡ e ∷ w.past
  past' : v'.past ≡ e' ∷ v.past
  whose : Whose p p' e.label e'.label
  renames : renamed p' e ≡ e'
  event : IsOwnEvent Q e.event
  image : w'.images p ≡ v'.images p'
  code : (w'.images p).code ≡ (w.images p).code

turn-if : (P : Turn → Type 0) (b : Bool) (x y : Turn) → P x → P y → P (cond b x y)
turn-if P b x y first second = grind (arith, nat_tests, first)

module _ (c c' : Configuration) (p p' : ℕ) (program : List ℕ) (sees : SeesTheSameButTime c p c' p' program)
    (positive : 0 < period c (main_level c p)) (positive' : 0 < period c' (main_level c' p'))
    (keeps : KeepsToItself c p program) (keeps' : KeepsToItself c' p' program) where
  fresh-alike : (o : Own) (o' : Own) → Alike (budget c p) (budget c' p') p' o o' → Alike (budget c p) (budget c' p') p' (fresh c p positive o) (fresh c' p' positive' o')
  fresh-alike o o' alike =
      record {
        entries = alike.entries;
        job = record { used = refl; out_ticks = refl; closed = refl; shares = by o.ended o'.ended alike.ended };
        held = alike.held;
        ended = alike.ended;
      }
    where
      by : (b b' : Bool) → b ≡ b' → ((cond b 0 (budget c p) ≡ 0) × (cond b' 0 (budget c' p') ≡ 0)) ⊎ ((cond b 0 (budget c p) ≡ budget c p) × (cond b' 0 (budget c' p') ≡ budget c' p'))
      by true true same = inl (refl, refl)
      by false false same = inr (refl, refl)
      by true false same = cc
      by false true same = cc

  -- after a tick both windows end, or neither does
  abbrev InStep : ℕ → ℕ → Type 0
  InStep n n' =
      ((suc n % period c (main_level c p) ≡ 0) × (suc n' % period c' (main_level c' p') ≡ 0))
      ⊎ ((suc n % period c (main_level c p) ≡ suc (n % period c (main_level c p)))
      × (suc n' % period c' (main_level c' p') ≡ suc (n' % period c' (main_level c' p'))))

  -- the same entry
  booked-alike : (e e' : Entry) (past past' : List Entry) → Whose p p' e.label e'.label → renamed p' e ≡ e' → Plain (entries_of p (e ∷ past))
      → Plain (entries_of p' (e' ∷ past')) → Alike (budget c p) (budget c' p') p' (own c p past) (own c' p' past') → Alike (budget c p) (budget c' p') p' (booked c p e past) (booked c' p' e' past')
  booked-alike e e' past past' whose names plain plain' alike =
      subst (λ o. Alike (budget c p) (budget c' p') p' o (booked c' p' e' past')) (sym (booked-after c p positive e past plain))
      (subst (λ o. Alike (budget c p) (budget c' p') p' (after p e (own c p past)) o) (sym (booked-after c' p' positive' e' past' plain'))
      (after-alike (budget c p) (budget c' p') p p' e e' (own c p past) (own c' p' past') whose names alike))

  -- the same entry, and maybe a new window
  own-alike : (n n' : ℕ) (e e' : Entry) (past past' : List Entry) → length past ≡ n → length past' ≡ n' → InStep n n' → Whose p p' e.label e'.label → renamed p' e ≡ e'
      → Plain (entries_of p (e ∷ past)) → Plain (entries_of p' (e' ∷ past')) → Alike (budget c p) (budget c' p') p' (own c p past) (own c' p' past')
      → Alike (budget c p) (budget c' p') p' (own c p (e ∷ past)) (own c' p' (e' ∷ past'))
  own-alike n n' e e' past past' long long' step whose names plain plain' alike =
      let after_both = booked-alike e e' past past' whose names plain plain' alike in
      elim step [
        | inl ends ↦
            let begins : suc (length past) % period c (main_level c p) ≡ 0 = ap (λ k. suc k % period c (main_level c p)) long ∙ ends.0 in
            let begins' : suc (length past') % period c' (main_level c' p') ≡ 0 = ap (λ k. suc k % period c' (main_level c' p')) long' ∙ ends.1 in
            subst (λ o. Alike (budget c p) (budget c' p') p' o (own c' p' (e' ∷ past'))) (sym (own-begins c p positive (e ∷ past) (booked c p e past) plain begins refl refl refl))
            (subst (λ o. Alike (budget c p) (budget c' p') p' (fresh c p positive (booked c p e past)) o) (sym (own-begins c' p' positive' (e' ∷ past') (booked c' p' e' past') plain' begins' refl refl refl))
            (fresh-alike (booked c p e past) (booked c' p' e' past') after_both))
        | inr on ↦ grind (arith, nat_tests, on, own, own-within, booked)
      ]

  -- the one world after n ticks and the other after n'
  record At (n n' : ℕ) : Type 0 where
    alike : Alike (budget c p) (budget c' p') p' (own c p (alone c p program n).past) (own c' p' (alone c' p' program n').past)
    image : (alone c p program n).images p ≡ (alone c' p' program n').images p'
    code : ((alone c p program n).images p).code ≡ program
    users : Users (HeldAsLong c c') (held_by (main_id p) (alone c p program n).past)
    plain : Plain (entries_of p (alone c p program n).past)
    plain' : Plain (entries_of p' (alone c' p' program n').past)

  abbrev Next : ℕ → ℕ → Type 0
  Next n n' = Ticks (HeldAsLong c c') p p' (alone c p program n) (alone c' p' program n') (alone c p program (suc n)) (alone c' p' program (suc n'))

  -- what the ticks leave, before the windows that they end give way to the next
  record Left (n n' : ℕ) (e e' : Entry) : Type 0 where
    alike : Alike (budget c p) (budget c' p') p' (booked c p e (alone c p program n).past) (booked c' p' e' (alone c' p' program n').past)
    users : Users (HeldAsLong c c') (held_by (main_id p) (e ∷ (alone c p program n).past))
    plain : Plain (entries_of p (e ∷ (alone c p program n).past))
    plain' : Plain (entries_of p' (e' ∷ (alone c' p' program n').past))

  left-by-tick : (n n' : ℕ) → At n n' → (t : Next n n') → Left n n' t.e t.e'
  left-by-tick n n' at t =
      let w = alone c p program n in
      let v = alone c' p' program n' in
      let event : IsPlainEvent t.e.event = own-plain (HeldAsLong c c') t.e.event t.event in
      let event' : IsPlainEvent t.e'.event = subst (λ (i : Entry). IsPlainEvent i.event) t.renames event in
      let plain = plain-next p t.e w.past event at.plain in
      let plain' = plain-next p' t.e' v.past event' at.plain' in
      record {
        alike = booked-alike t.e t.e' w.past v.past t.whose t.renames plain plain' at.alike;
        users = subst (λ (o : Own). Users (HeldAsLong c c') o.held) (sym (booked-after c p positive t.e w.past plain))
            (users-next (HeldAsLong c c') (does is_end (main_id p) t.e) (is_of (main_id p) t.e) t.e.event (held_by (main_id p) w.past) t.event at.users);
        plain = plain;
        plain' = plain';
      }

  at-next : (n n' : ℕ) → InStep n n' → At n n' → Next n n' → At (suc n) (suc n')
  at-next n n' step at t =
      let w = alone c p program n in
      let v = alone c' p' program n' in
      let left = left-by-tick n n' at t in
      let alike = own-alike n n' t.e t.e' w.past v.past (alone-long c p program n) (alone-long c' p' program n') step t.whose t.renames left.plain left.plain' at.alike in
      record {
        alike = subst (λ es. Alike (budget c p) (budget c' p') p' (own c p es) (own c' p' (alone c' p' program (suc n')).past)) (sym t.past)
            (subst (λ es. Alike (budget c p) (budget c' p') p' (own c p (t.e ∷ w.past)) (own c' p' es)) (sym t.past') alike);
        image = t.image;
        code = t.code ∙ at.code;
        users = subst (λ es. Users (HeldAsLong c c') (held_by (main_id p) es)) (sym t.past) left.users;
        plain = subst (λ es. Plain (entries_of p es)) (sym t.past) left.plain;
        plain' = subst (λ es. Plain (entries_of p' es)) (sym t.past') left.plain';
      }

  levels-by : (image : Image) → image.code ≡ program → (tick_in c image 0).outcome ≡ Outcome.CallDone KernelCall.Create → SameLevels c p c' p'
  levels-by image code is =
      elim sees.levels [
        | inl same ↦ same
        | inr none ↦ absurd (not-done c program image 3 KernelCall.Create create-number none code is)
      ]

  turn-code : (past : List Entry) (choice : Choice) (image : Image) (tick : Tick) → (thread_turn c past choice (main_id p) image tick).image.code ≡ image.code
  turn-code past choice image tick = turn-if (λ t. t.image.code ≡ image.code) _ _ _ refl refl

  -- in a tick of the main's body what is left is the same, or more and read by no call that tells it
  abbrev in_body : ℕ → Label
  in_body q = label_of (Choice.Budget (main_id q) Phase.Body) Work.Call

  works : (n n' : ℕ) (at : At n n') (budgets : Budgets c p c' p' program n) (next : Phase)
      → Choice.Budget (main_id p) next ≡ choice_alone c p (alone c p program n).past
      → Ticks (HeldAsLong c c') p p' (alone c p program n) (alone c' p' program n')
      (step_of c (alone c p program n) (Choice.Budget (main_id p) next)) (step_of c' (alone c' p' program n') (Choice.Budget (main_id p') next))
  works n n' at budgets Phase.In chosen =
      record { e = quiet_entry (Label.In (main_id p)); e' = quiet_entry (Label.In (main_id p')); past = refl; past' = refl; whose = whose-in p p'; renames = refl; event = tt; image = at.image; code = refl }
  works n n' at budgets Phase.Out chosen =
      record { e = quiet_entry (Label.Out (main_id p)); e' = quiet_entry (Label.Out (main_id p')); past = refl; past' = refl; whose = whose-out p p'; renames = refl; event = tt; image = at.image; code = refl }
  works n n' at budgets Phase.Body chosen =
      let w = alone c p program n in
      let v = alone c' p' program n' in
      let choice = Choice.Budget (main_id p) Phase.Body in
      let choice' = Choice.Budget (main_id p') Phase.Body in
      let image = w.images p in
      let tick = tick_in c image 0 in
      let label = label_of choice (work_done tick.outcome) in
      let label' = label_of choice' (work_done tick.outcome) in
      let m = reg tick.context 1 in
      let whose : Whose p p' label label' = whose-body p p' (work_done tick.outcome) in
      let one : Turn = thread_turn c w.past choice (main_id p) image tick in
      let other : Turn = thread_turn c' v.past choice' (main_id p') (v.images p') (tick_in c' (v.images p') 0) in
      let never_locks : LocksNothing program → tick.outcome ≡ Outcome.CallDone KernelCall.Lock → ⊥ = λ none is. not-done c program image 5 KernelCall.Lock lock-number none at.code is in
      let lefts = left-by c c' p p' program sees.switch w.past v.past n label label' whose at.alike.job budgets in
      let granted : tick.outcome ≡ Outcome.CallDone KernelCall.Lock → lock_in c p label w.past m ≡ None → HeldAsLong c c' m = λ is none.
      elim sees.mutexes [
        | inl same ↦ same.holds m (lock-user (is_user c m p) (longest_hold c m) _ m (left_in c p label w.past) _ none)
        | inr nothing ↦ absurd (never_locks nothing is)
      ] in
      let locks : breaks_hold c (held_by (main_id p) w.past) (image.contexts 0) tick.outcome ≡ false → tick.outcome ≡ Outcome.CallDone KernelCall.Lock
      → lock_in c p label w.past m ≡ lock_in c' p' label' v.past m = λ lasts is.
      elim sees.mutexes [
        | inr nothing ↦ absurd (never_locks nothing is)
        | inl same ↦ elim lefts [
          | inl equal ↦ lock-same c c' p p' keeps.threads keeps'.threads keeps.slack keeps'.slack w.past v.past at.alike.held at.users at.plain at.plain' label label' whose m (same.users m) (same.holds m) equal
          | inr more ↦ lock-no-less c c' p p' keeps.threads keeps'.threads keeps.slack keeps'.slack w.past v.past at.alike.held at.users at.plain at.plain' label label' whose m (same.users m) (same.holds m) more.0
              (λ want. told-want p one.entry (work_done tick.outcome) (turn-label c w.past choice (main_id p) image tick) (want-told c p w.past image tick lasts is want)
              (more.2 one.entry (ap (λ chosen_is. (step_of c w chosen_is).past) (sym chosen))))
        ]
      ] in
      let left : tick.outcome ≡ Outcome.CallDone KernelCall.Left → left_in c p label w.past ≡ left_in c' p' label' v.past = λ is.
      elim lefts [
        | inl equal ↦ equal
        | inr more ↦ absurd (not-done c program image 10 KernelCall.Left left-number more.1 at.code is)
      ] in
      let both : Turns (HeldAsLong c c') p p' one (thread_turn c' v.past choice' (main_id p') image tick) =
      turns c c' p p' keeps.threads keeps'.threads keeps.slack keeps'.slack w.past v.past at.alike.held at.users at.plain at.plain' image tick
      (not-done c program image 9 KernelCall.Time time-number keeps.clock at.code) (levels-by image at.code) whose granted locks left in
      let ticks : tick ≡ tick_in c' (v.images p') 0 =
      ap (λ k. body_tick k image.code (image.contexts 0) image.memory) sees.call ∙ ap (λ (i : Image). tick_in c' i 0) at.image in
      let turn : thread_turn c' v.past choice' (main_id p') image tick ≡ other =
      ap (λ (i : Image). thread_turn c' v.past choice' (main_id p') i tick) at.image ∙ ap (thread_turn c' v.past choice' (main_id p') (v.images p')) ticks in
      let all : Turns (HeldAsLong c c') p p' one other = subst (Turns (HeldAsLong c c') p p' one) turn both in
      record {
        e = one.entry;
        e' = other.entry;
        past = refl;
        past' = refl;
        whose = all.whose;
        renames = all.renames;
        event = all.event;
        image = update-same p one.image w.images ∙ all.image ∙ sym (update-same p' other.image v.images);
        code = ap (λ (i : Image). i.code) (update-same p one.image w.images) ∙ turn-code w.past choice image tick;
      }

  rests : (n n' : ℕ) (at : At n n')
      → Ticks (HeldAsLong c c') p p' (alone c p program n) (alone c' p' program n') (quiet_step Choice.Idle (alone c p program n)) (quiet_step Choice.Idle (alone c' p' program n'))
  rests n n' at = record { e = quiet_entry Label.Idle; e' = quiet_entry Label.Idle; past = refl; past' = refl; whose = whose-idle p p'; renames = refl; event = tt; image = at.image; code = refl }

  -- what is left decides who has the next tick
  next-tick : (n n' : ℕ) → At n n' → Budgets c p c' p' program n → Next n n'
  next-tick n n' at budgets =
      let w = alone c p program n in
      let v = alone c' p' program n' in
      let job = (own c p w.past).job in
      let job' = (own c' p' v.past).job in
      let room = room-of c p c' p' program n budgets in
      elim (cases_lt 0 (rem c.costs.switch job)) [
        | inl some ↦
            let more = works-alike c.costs.switch (budget c p) (budget c' p') job job' room at.alike.job some in
            let some' : 0 < rem c'.costs.switch job' = subst (λ k. 0 < rem k job') sees.switch more.0 in
            let phases : phase c.costs.switch job ≡ phase c'.costs.switch job' = more.1 ∙ ap (λ k. phase k job') sees.switch in
            let mine : choice_alone c p w.past ≡ Choice.Budget (main_id p) (phase c.costs.switch job) = alone-works c p w.past some in
            let mine' : choice_alone c' p' v.past ≡ Choice.Budget (main_id p') (phase c.costs.switch job) =
            alone-works c' p' v.past some' ∙ ap (Choice.Budget (main_id p')) (sym phases) in
            subst (λ choice. Ticks (HeldAsLong c c') p p' w v (step_of c w choice) (step_of c' v (choice_alone c' p' v.past))) (sym mine)
            (subst (λ choice. Ticks (HeldAsLong c c') p p' w v (step_of c w (Choice.Budget (main_id p) (phase c.costs.switch job))) (step_of c' v choice)) (sym mine')
            (works n n' at budgets (phase c.costs.switch job) (sym mine)))
        | inr none ↦
            let over : rem c.costs.switch job ≡ 0 = omega arith in
            let over' : rem c'.costs.switch job' ≡ 0 = ap (λ k. rem k job') (sym sees.switch) ∙ rests-alike c.costs.switch (budget c p) (budget c' p') job job' room at.alike.job over in
            subst (λ choice. Ticks (HeldAsLong c c') p p' w v (step_of c w choice) (step_of c' v (choice_alone c' p' v.past))) (sym (alone-rests c p w.past over))
            (subst (λ choice. Ticks (HeldAsLong c c') p p' w v (quiet_step Choice.Idle w) (step_of c' v choice)) (sym (alone-rests c' p' v.past over'))
            (rests n n' at))
      ]

  -- before the first tick all windows begin
  abbrev none : Own
  none = record { entries = []; job = the_job 0 0 0 false; held = []; ended = false }

  first-alike : Alike (budget c p) (budget c' p') p' (own c p []) (own c' p' [])
  first-alike =
      subst (λ o. Alike (budget c p) (budget c' p') p' o (own c' p' [])) (sym (own-begins c p positive [] none tt (mod-eq_of_lt positive) refl refl refl))
      (subst (λ o. Alike (budget c p) (budget c' p') p' (fresh c p positive none) o) (sym (own-begins c' p' positive' [] none tt (mod-eq_of_lt positive') refl refl refl))
      (record { entries = refl; job = record { used = refl; out_ticks = refl; closed = refl; shares = inr (refl, refl) }; held = refl; ended = refl }))

  first : At 0 0
  first = record { alike = first-alike; image = first-image; code = refl; users = tt; plain = tt; plain' = tt }
    where
      first-image : (alone c p program 0).images p ≡ (alone c' p' program 0).images p'
      first-image = ap (λ k. (let i : Image = record { code = program; memory = replicate k 0; contexts = λ serial. zero_context } in i)) sees.memory

  same-there : (n n' : ℕ) → At n n' → IsSameAcross p p' (alone c p program n) (alone c' p' program n')
  same-there n n' at = grind (arith, nat_tests, at)

  -- in windows of one length each tick of the one is that tick of the other
  module _ (period_is : period c (main_level c p) ≡ period c' (main_level c' p')) (budgets : (n : ℕ) → Budgets c p c' p' program n) where
    in-step : (n : ℕ) → InStep n n
    in-step n = grind (arith, nat_tests, mod-next, on)

    at : (n : ℕ) → At n n
    at zero = first
    at (suc n) = at-next n n (in-step n) (at n) (next-tick n n (at n) (budgets n))

    pub across : (n : ℕ) → IsSameAcross p p' (alone c p program n) (alone c' p' program n)
    across n = same-there n n (at n)

  -- in windows of two lengths the process does the same while its budget lasts, and then rests
  module _ (plains : (n : ℕ) → Plain (entries_of p (alone c p program n).past)) (plains' : (n : ℕ) → Plain (entries_of p' (alone c' p' program n).past))
      (room : 2 * c.costs.switch + 1 ≤ budget c p) (room' : 2 * c'.costs.switch + 1 ≤ budget c' p')
      (fits : budget c p ≤ period c (main_level c p)) (fits' : budget c' p' ≤ period c' (main_level c' p'))
      (last : ℕ) (whole : suc last ≡ budget c p) (whole' : suc last ≤ budget c' p') where
    -- m and m' are starts of windows
    while-it-lasts : (m m' : ℕ) → m % period c (main_level c p) ≡ 0 → m' % period c' (main_level c' p') ≡ 0 → ((j : ℕ) → j ≤ last → Budgets c p c' p' program (on j m))
        → At m m' → (j : ℕ) → j ≤ last → At (on j m) (on j m')
    while-it-lasts m m' begins begins' budgets at zero within = at
    while-it-lasts m m' begins begins' budgets at (suc j) within =
        let before = while-it-lasts m m' begins begins' budgets at j (omega arith) in
        at-next (on j m) (on j m')
        (inr (moves-on (period c (main_level c p)) m j begins (omega (arith, within, whole, fits)), moves-on (period c' (main_level c' p')) m' j begins' (omega (arith, within, whole', fits'))))
        before (next-tick (on j m) (on j m') before (budgets j (omega arith)))

    window : (m m' : ℕ) → m % period c (main_level c p) ≡ 0 → m' % period c' (main_level c' p') ≡ 0 → ((j : ℕ) → j ≤ last → Budgets c p c' p' program (on j m)) → At m m'
        → At (on (period c (main_level c p)) m) (on (period c' (main_level c' p')) m')
    window m m' begins begins' budgets at =
        let before = while-it-lasts m m' begins begins' budgets at last (omega arith) in
        let t = next-tick (on last m) (on last m') before (budgets last (omega arith)) in
        let left = left-by-tick (on last m) (on last m') before t in
        let end = on (period c (main_level c p)) m in
        let end' = on (period c' (main_level c' p')) m' in
        let over : rem c.costs.switch (booked c p t.e (alone c p program (on last m)).past).job ≡ 0 = over-by c p program positive plains room fits m last t.e begins whole t.past in
        let over' : rem c'.costs.switch (booked c' p' t.e' (alone c' p' program (on last m')).past).job ≡ 0 =
        ap (λ k. rem k (booked c' p' t.e' (alone c' p' program (on last m')).past).job) (sym sees.switch)
        ∙ rests-alike c.costs.switch (budget c p) (budget c' p') _ _ (room-after c p c' p' program (on last m) (budgets last (omega arith)) t.e t.past) left.alike.job over in
        let one = finish c p program positive plains room fits m last t.e begins (omega (arith, whole, fits)) t.past over in
        let other = finish c' p' program positive' plains' room' fits' m' last t.e' begins' (omega (arith, whole', fits')) t.past' over' in
        record {
          alike =
              subst (λ o. Alike (budget c p) (budget c' p') p' o (own c' p' (alone c' p' program end').past)) (sym one.0)
              (subst (λ o. Alike (budget c p) (budget c' p') p' (fresh c p positive (booked c p t.e (alone c p program (on last m)).past)) o) (sym other.0)
              (fresh-alike _ _ left.alike));
          image = one.1 ∙ t.image ∙ sym other.1;
          code = ap (λ (i : Image). i.code) one.1 ∙ t.code ∙ before.code;
          users = subst (λ (o : Own). Users (HeldAsLong c c') o.held) (sym one.0) left.users;
          plain = plains end;
          plain' = plains' end';
        }

    windows : (k : ℕ) → ((i : ℕ) → i < k → (j : ℕ) → j ≤ last → Budgets c p c' p' program (on j (start_of (period c (main_level c p)) i)))
        → At (start_of (period c (main_level c p)) k) (start_of (period c' (main_level c' p')) k)
    windows zero budgets = first
    windows (suc k) budgets =
        window (start_of (period c (main_level c p)) k) (start_of (period c' (main_level c' p')) k)
        (start-begins (period c (main_level c p)) k positive) (start-begins (period c' (main_level c' p')) k positive') (budgets k (omega arith))
        (windows k (λ i less. budgets i (omega arith)))

    pub across-windows : (k : ℕ) → ((i : ℕ) → i < k → (j : ℕ) → j ≤ last → Budgets c p c' p' program (on j (start_of (period c (main_level c p)) i)))
        → IsSameAcross p p' (alone c p program (k * period c (main_level c p))) (alone c' p' program (k * period c' (main_level c' p')))
    across-windows k budgets =
        subst (λ n. IsSameAcross p p' (alone c p program n) (alone c' p' program (k * period c' (main_level c' p')))) (start-is (period c (main_level c p)) k)
        (subst (λ n. IsSameAcross p p' (alone c p program (start_of (period c (main_level c p)) k)) (alone c' p' program n)) (start-is (period c' (main_level c' p')) k)
        (same-there (start_of (period c (main_level c p)) k) (start_of (period c' (main_level c' p')) k) (windows k budgets)))

-- by itself a process that keeps to itself makes no child and never asks for slack
pub plain-alone : (c : Configuration) (p : ℕ) (program : List ℕ) → 0 < period c (main_level c p) → KeepsToItself c p program → (n : ℕ) → Plain (entries_of p (alone c p program n).past)
plain-alone c p program positive keeps n =
    let sees : SeesTheSameButTime c p c p program =
    record { switch = refl; call = refl; memory = refl; mutexes = inl (record { users = λ m. refl; holds = λ m is. refl }); levels = inl (refl, refl) } in
    (at c c p p program sees positive positive keeps keeps refl (λ k. inl refl) n).plain

-- and its code stays the program
pub code-alone : (c : Configuration) (p : ℕ) (program : List ℕ) → 0 < period c (main_level c p) → KeepsToItself c p program → (n : ℕ) → ((alone c p program n).images p).code ≡ program
code-alone c p program positive keeps n =
    let sees : SeesTheSameButTime c p c p program =
    record { switch = refl; call = refl; memory = refl; mutexes = inl (record { users = λ m. refl; holds = λ m is. refl }); levels = inl (refl, refl) } in
    (at c c p p program sees positive positive keeps keeps refl (λ k. inl refl) n).code

pub any-period : (c c' : Configuration) (p p' : ℕ) (program : List ℕ) → IsChecked c → IsAccepted c → IsChecked c' → IsAccepted c' → KeepsToItself c p program → KeepsToItself c' p' program
    → SeesTheSameButTime c p c' p' program → budget c p ≤ budget c' p' → (k : ℕ)
    → ((i : ℕ) → i < k → (j : ℕ) → suc j ≤ budget c p → Budgets c p c' p' program (on j (start_of (period c (main_level c p)) i)))
    → IsSameAcross p p' (alone c p program (k * period c (main_level c p))) (alone c' p' program (k * period c' (main_level c' p')))
any-period c c' p p' program checked accepted checked' accepted' keeps keeps' sees more k budgets =
    let positive = checked.positive (main_level c p) (checked.levels p keeps.known) in
    let positive' = checked'.positive (main_level c' p') (checked'.levels p' keeps'.known) in
    let room = checked.budgets p keeps.known in
    let last = budget c p - 1 in
    let whole : suc last ≡ budget c p = omega (arith, room) in
    across-windows c c' p p' program sees positive positive' keeps keeps' (plain-alone c p program positive keeps) (plain-alone c' p' program positive' keeps')
    room (checked'.budgets p' keeps'.known) (budget_period c p checked accepted keeps.known) (budget_period c' p' checked' accepted' keeps'.known)
    last whole (omega (arith, whole, more)) k (λ i less j within. budgets i less j (omega (arith, whole, within)))
