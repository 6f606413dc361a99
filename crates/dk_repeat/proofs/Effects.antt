-- What a call does to two threads that are twins is the same, unless it reads the tick.
use Rattle.dk_repeat.proofs.Names.{ℕ, ◌≡◌, ◌+◌, ◌-◌, ◌*◌, ◌/◌, ◌<◌, Bool, true, false, cond, not, ◌&&◌, ◌||◌, eqb, leb, ltb, List, [], ◌∷◌, ◌++◌, length, Option, Some, None, refl, sym, ap, ◌∙◌, subst, length-append, sum_by, is_none, list_any, Configuration, period, main_level, max_level, slots, budget, IsChecked, ThreadId, Label, Event, Refusal, Entry, Thread, family, is_main, is_void, is_ended_by, thread_body_left, held_by, next_serial, first_refusal, standing_children, least_share, create_refusal, delete_refusal, lock_refusal, slack_refusal, is_running_child, family-charged, Context, Outcome, KernelCall, reg, effect, call_effect, or_refused, done, creates, answers, quiet_entry, lock_with, unlock_with, wait_with}
use Rattle.dk_repeat.proofs.Since.{LevelsBegin, Since, Stop, row_since, stop_since, stands, stands-behind}
use Rattle.dk_repeat.proofs.Pairs.{Pairs, filter-pairs, sum-pairs, any-pairs, pairs-length}
use Rattle.dk_repeat.proofs.Twins.{Twin, held-same, left-same}

-- the reasons to refuse a create, with the numbers that they read
abbrev create_with : Configuration → Bool → ℕ → ℕ → ℕ → ℕ → ℕ → ℕ → ℕ → Option Refusal
create_with c main p children quotas level quota entry instructions =
    first_refusal
    ((not main, Refusal.NotMain)
    ∷ (ltb level (main_level c p) || ltb (max_level c p) level, Refusal.Level)
    ∷ (leb instructions entry, Refusal.Entry)
    ∷ (leb (slots c p) children, Refusal.Slots)
    ∷ (ltb ((quota * period c level) / period c (main_level c p)) (least_share c), Refusal.TooSmall)
    ∷ (ltb (budget c p) (quotas + quota + least_share c), Refusal.Budget)
    ∷ [])

abbrev delete_with : Bool → Bool → Option Refusal
delete_with main there = first_refusal ((not main, Refusal.NotMain) ∷ (not there, Refusal.NoThread) ∷ [])

-- a child that is neither void nor ended, counted from a tick
abbrev standing_since : Configuration → ℕ → Since → Bool
standing_since c d r = not (eqb r.id.serial 0) && stands c d r.level r.start r.stop

and-group : (a b e : Bool) → ((a && b) && e) ≡ (a && (b && e))
and-group true b e = refl
and-group false b e = refl

abbrev never_stops : Stop → Bool
never_stops Stop.never = true
never_stops Stop.before = false
never_stops (Stop.since e) = false

some-at : (b : Bool) (e : ℕ) → never_stops (cond b Stop.before (Stop.since e)) ≡ false
some-at true e = refl
some-at false e = refl

none-at : (A : ℕ) (o : Option ℕ) → is_none o ≡ never_stops (stop_since A o)
none-at A None = refl
none-at A (Some s) = sym (some-at (ltb s A) (s - A))

module _ (c : Configuration) (one other : List Entry) (begins : LevelsBegin c (length one)) (begins' : LevelsBegin c (length other))
    (held : (x : ThreadId) → held_by x one ≡ held_by x other) (checked : IsChecked c)
    (new : List Entry)
    (rows : (p : ℕ) → p < length c.processes → Pairs (Twin c (length one) (length other)) (family c p (new ++ one)) (family c p (new ++ other)))
    (label : Label) where
  abbrev Twins : Thread → Thread → Type 0
  Twins x y = Twin c (length one) (length other) x y

  abbrev d : ℕ
  d = length new

  abbrev before : List Entry
  before = quiet_entry label ∷ (new ++ one)

  abbrev before' : List Entry
  before' = quiet_entry label ∷ (new ++ other)

  rows-charged : (p : ℕ) → p < length c.processes → Pairs Twins (family c p before) (family c p before')
  rows-charged p known =
      subst (λ xs. Pairs Twins xs (family c p before')) (sym (family-charged c p label (new ++ one)))
      (subst (λ ys. Pairs Twins (family c p (new ++ one)) ys) (sym (family-charged c p label (new ++ other))) (rows p known))

  process-same : (x y : Thread) → Twins x y → x.id.process ≡ y.id.process
  process-same x y t = ap (λ r. r.id.process) t.same

  main-same : (x y : Thread) → Twins x y → is_main x ≡ is_main y
  main-same x y t = ap (λ r. eqb r.id.serial 0) t.same

  held-charged : (x y : Thread) → Twins x y → held_by x.id before ≡ held_by y.id before'
  held-charged x y t = held-same x.id one other (quiet_entry label ∷ new) (held x.id) ∙ ap (λ r. held_by r.id before') t.same

  left-charged : (x y : Thread) → Twins x y
      → thread_body_left c (length (new ++ one)) before x ≡ thread_body_left c (length (new ++ other)) before' y
  left-charged x y t =
      ap (λ n. thread_body_left c n before x) (length-append new one)
      ∙ left-same c one other begins begins' held checked (quiet_entry label ∷ new) rows-charged d x y t
      ∙ sym (ap (λ n. thread_body_left c n before' y) (length-append new other))

  positive' : (x y : Thread) → Twins x y → 0 < period c y.level
  positive' x y t = subst (λ i. 0 < period c i) (ap (λ r. r.level) t.same) t.positive

  child-behind : (A : ℕ) → LevelsBegin c A → (y : Thread) → 0 < period c y.level
      → (not (is_main y) && not (is_void y) && not (is_ended_by c (d + A) y)) ≡ standing_since c d (row_since A y)
  child-behind A begins y positive =
      and-group (not (is_main y)) (not (is_void y)) (not (is_ended_by c (d + A) y)) ∙ ap (λ b. not (is_main y) && b) (stands-behind c A begins d y positive)

  standing-same : (p q : ℕ) → p < length c.processes → p ≡ q
      → Pairs Twins (standing_children c (length (new ++ one)) before p) (standing_children c (length (new ++ other)) before' q)
  standing-same p q known is =
      subst (λ r. Pairs Twins (standing_children c (length (new ++ one)) before p) (standing_children c (length (new ++ other)) before' r)) is
      (subst (λ n. Pairs Twins (standing_children c n before p) (standing_children c (length (new ++ other)) before' p)) (sym (length-append new one))
      (subst (λ n. Pairs Twins (standing_children c (d + length one) before p) (standing_children c n before' p)) (sym (length-append new other))
      (filter-pairs Twins (λ y. not (is_main y) && not (is_void y) && not (is_ended_by c (d + length one) y))
      (λ y. not (is_main y) && not (is_void y) && not (is_ended_by c (d + length other) y)) (family c p before) (family c p before') (rows-charged p known)
      (λ x y t. child-behind (length one) begins x t.positive ∙ ap (standing_since c d) t.same ∙ sym (child-behind (length other) begins' y (positive' x y t))))))

  create-same : (x y : Thread) → Twins x y → (level quota entry instructions : ℕ)
      → create_refusal c (length (new ++ one)) before x level quota entry instructions ≡ create_refusal c (length (new ++ other)) before' y level quota entry instructions
  create-same x y t level quota entry instructions =
      let p = process-same x y t in
      let xs = standing_children c (length (new ++ one)) before x.id.process in
      let ys = standing_children c (length (new ++ other)) before' y.id.process in
      let children : Pairs Twins xs ys = standing-same x.id.process y.id.process t.known p in
      ap (λ b. create_with c b x.id.process (length xs) (sum_by (λ (z : Thread). z.quota) xs) level quota entry instructions) (main-same x y t)
      ∙ ap (λ q. create_with c (is_main y) q (length xs) (sum_by (λ (z : Thread). z.quota) xs) level quota entry instructions) p
      ∙ ap (λ n. create_with c (is_main y) y.id.process n (sum_by (λ (z : Thread). z.quota) xs) level quota entry instructions) (pairs-length Twins xs ys children)
      ∙ ap (λ n. create_with c (is_main y) y.id.process (length ys) n level quota entry instructions)
      (sum-pairs Twins (λ (z : Thread). z.quota) (λ (z : Thread). z.quota) xs ys children (λ z w u. ap (λ r. r.quota) u.same))

  serial-same : (x y : Thread) → Twins x y → next_serial c before x.id.process ≡ next_serial c before' y.id.process
  serial-same x y t =
      pairs-length Twins (family c x.id.process before) (family c x.id.process before') (rows-charged x.id.process t.known)
      ∙ ap (λ p. length (family c p before')) (process-same x y t)

  running-same : (serial : ℕ) (z w : Thread) → Twins z w → is_running_child serial z ≡ is_running_child serial w
  running-same serial z w u =
      ap (λ b. not (is_main z) && (eqb z.id.serial serial) && b) (none-at (length one) z.stop)
      ∙ ap (λ (r : Since). not (eqb r.id.serial 0) && (eqb r.id.serial serial) && never_stops r.stop) u.same
      ∙ sym (ap (λ b. not (is_main w) && (eqb w.id.serial serial) && b) (none-at (length other) w.stop))

  delete-same : (x y : Thread) → Twins x y → (serial : ℕ) → delete_refusal c before x serial ≡ delete_refusal c before' y serial
  delete-same x y t serial =
      ap (λ b. delete_with b (list_any (is_running_child serial) (family c x.id.process before))) (main-same x y t)
      ∙ ap (delete_with (is_main y))
      (any-pairs Twins (is_running_child serial) (is_running_child serial) (family c x.id.process before) (family c x.id.process before') (rows-charged x.id.process t.known)
      (running-same serial)
      ∙ ap (λ p. list_any (is_running_child serial) (family c p before')) (process-same x y t))

  lock-same : (x y : Thread) → Twins x y → (m : ℕ) → lock_refusal c (length (new ++ one)) before x m ≡ lock_refusal c (length (new ++ other)) before' y m
  lock-same x y t m =
      ap (λ p. lock_with c p m (thread_body_left c (length (new ++ one)) before x) (held_by x.id before)) (process-same x y t)
      ∙ ap (λ left. lock_with c y.id.process m left (held_by x.id before)) (left-charged x y t)
      ∙ ap (λ hs. lock_with c y.id.process m (thread_body_left c (length (new ++ other)) before' y) hs) (held-charged x y t)

  call-same : (x y : Thread) → Twins x y → (instructions : ℕ) (context : Context) (call : KernelCall) → (call ≡ KernelCall.Time → ⊥)
      → call_effect c (length (new ++ one)) before x instructions context call ≡ call_effect c (length (new ++ other)) before' y instructions context call
  call-same x y t instructions context KernelCall.Wait no_tick = ap (λ hs. or_refused (wait_with hs) (done Event.Wait)) (held-charged x y t)
  call-same x y t instructions context KernelCall.Exit no_tick = refl
  call-same x y t instructions context KernelCall.Create no_tick =
      ap (λ r. or_refused r (creates (next_serial c before x.id.process) context)) (create-same x y t (reg context 1) (reg context 2) (reg context 3) instructions)
      ∙ ap (λ s. or_refused (create_refusal c (length (new ++ other)) before' y (reg context 1) (reg context 2) (reg context 3) instructions) (creates s context)) (serial-same x y t)
  call-same x y t instructions context KernelCall.Delete no_tick = ap (λ r. or_refused r (done (Event.Delete (reg context 1)))) (delete-same x y t (reg context 1))
  call-same x y t instructions context KernelCall.Lock no_tick = ap (λ r. or_refused r (done (Event.Lock (reg context 1)))) (lock-same x y t (reg context 1))
  call-same x y t instructions context KernelCall.Unlock no_tick = ap (λ hs. or_refused (unlock_with (reg context 1) hs) (done (Event.Unlock (reg context 1)))) (held-charged x y t)
  call-same x y t instructions context KernelCall.Slack no_tick =
      ap (λ (i : ThreadId). or_refused (slack_refusal c (record { id = i; level = x.level; quota = x.quota; start = x.start; stop = x.stop }) (reg context 1)) (done (Event.Slack (reg context 1))))
      (ap (λ r. r.id) t.same)
  call-same x y t instructions context KernelCall.Put no_tick = refl
  call-same x y t instructions context KernelCall.Time no_tick = absurd (no_tick refl)
  call-same x y t instructions context KernelCall.Left no_tick = ap answers (left-charged x y t)

  pub effect-same : (x y : Thread) → Twins x y → (instructions : ℕ) (context : Context) (outcome : Outcome) → (outcome ≡ Outcome.CallDone KernelCall.Time → ⊥)
      → effect c (length (new ++ one)) before x instructions context outcome ≡ effect c (length (new ++ other)) before' y instructions context outcome
  effect-same x y t instructions context Outcome.Ran no_tick = refl
  effect-same x y t instructions context Outcome.InCall no_tick = refl
  effect-same x y t instructions context (Outcome.Fault kind) no_tick = refl
  effect-same x y t instructions context (Outcome.CallDone call) no_tick = call-same x y t instructions context call (λ e. no_tick (ap Outcome.CallDone e))
