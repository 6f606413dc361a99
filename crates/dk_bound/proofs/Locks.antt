-- What an event of the chosen thread has met: what a lock, an unlock and a wait say of its holds.
use Rattle.dk_bound.proofs.Names.{none-holds, ℕ, ◌≡◌, ◌+◌, ◌-◌, ◌<◌, inl, inr, Bool, true, false, cond, not, ◌&&◌, ◌||◌, leb, ltb, List, [], ◌∷◌, length, refl, sym, ap, ◌∙◌, subst, arith, map, option_map_or, cases_Bool, not-false, nat_tests, Configuration, IsChecked, longest_hold, is_user, ThreadId, Event, Entry, is_of, is_budget_of, is_out_of, is_wait, stops, Thread, threads, family, job, body_left, thread_body_left, is_innermost, Hold, aged, held_after, held_by, is_holding, is_held, innermost_left, lock_reasons, Follows, without_event, done_refusal, job-charged, quiet-stops, Has, same-row, Passed, Turn, now_rem, Kind, paid, lent, kernel, idle, done-event, of-payer, of-borrower, of-nobody, payer-budget_of, payer-none, ThreadsFit, among-threads, held-mine}
use Rattle.std.proofs.Common.{Option, Some, None}
use Rattle.dk_bound.proofs.Nesting.{LockFits, EventFits, LocksOwn, ends}
use Rattle.dk_bound.proofs.Bodies.{body-spent}

pub held-quiet : (x : ThreadId) (e : Entry) (past : List Entry) → is_of x e ≡ true → held_by x (without_event e ∷ past) ≡ map aged (held_by x past)
held-quiet x e past mine = held-mine x (without_event e) past (quiet-stops x e.label) mine

abbrev pub spent_by : ThreadId → Entry → ℕ
spent_by x e = cond (is_budget_of x e) 1 0

-- what is left of the body with the present tick counted
pub body-charged : (c : Configuration) (e : Entry) (past : List Entry) (x : Thread)
    → thread_body_left c (length past) (without_event e ∷ past) x ≡ thread_body_left c (length past) past x - spent_by x.id e
body-charged c e past x =
    let j = job c (length past) past x in
    ap (body_left c.costs.switch) (job-charged c e.label past x)
    ∙ body-spent c.costs.switch j.share j.used j.out_ticks (cond (is_out_of x.id e) 1 0 + j.out_ticks) (spent_by x.id e) j.closed

-- why a thread has an entry
pub data Mine (c : Configuration) (past : List Entry) (e : Entry) (x : Thread) : Type 0 where
  by_budget : (k : ℕ) → k < length c.levels → Passed c past k → Turn c past k x → is_budget_of x.id e ≡ true → Mine c past e x
  by_slack : now_rem c past x ≡ 0 → is_budget_of x.id e ≡ false → Mine c past e x

pub mine-kind : (c : Configuration) (past : List Entry) (e : Entry) (x : Thread) → ThreadsFit c past → Has (threads c past) x → is_of x.id e ≡ true
    → Kind c past e.label → Mine c past e x
mine-kind c past e x fit among mine (paid k y known passed has turn pays borrows level) =
    let is : x.id ≡ y.id = of-payer x.id y.id e pays mine in
    let row : y ≡ x = same-row (threads c past) y x fit.distinct has among (sym is) in
    by_budget k known passed (subst (Turn c past k) row turn) (payer-budget_of x.id e (pays ∙ ap Some (sym is)))
mine-kind c past e x fit among mine (lent k y known passed has none fitting pays borrows level) =
    let is : x.id ≡ y.id = of-borrower x.id y.id e borrows mine in
    let row : y ≡ x = same-row (threads c past) y x fit.distinct has among (sym is) in
    by_slack (subst (λ z. now_rem c past z ≡ 0) row none) (payer-none x.id e pays)
mine-kind c past e x fit among mine (kernel k known passed left pays borrows level) = absurd (of-nobody x.id e pays borrows mine)
mine-kind c past e x fit among mine (idle passed pays borrows level) = absurd (of-nobody x.id e pays borrows mine)

-- a done event of the thread has met no refusal
pub met : (c : Configuration) (past : List Entry) (e : Entry) (x : Thread) (event : Event) → ThreadsFit c past → Has (threads c past) x → Follows c past e
    → is_of x.id e ≡ true → e.event ≡ Some event → done_refusal c (length past) (without_event e ∷ past) x event ≡ None
met c past e x event fit among follows mine is =
    let done = done-event c past e x.id event follows mine is in
    let known = (fit.rows x among).known in
    let place : Has (family c done.row.id.process past) done.row = subst (λ i. Has (family c i.process past) done.row) (sym done.same) done.among in
    let has : Has (threads c past) done.row = among-threads c past done.row (subst (λ i. i.process < length c.processes) (sym done.same) known) place in
    let row : done.row ≡ x = same-row (threads c past) done.row x fit.distinct has among done.same in
    subst (λ y. done_refusal c (length past) (without_event e ∷ past) y event ≡ None) row done.unrefused

abbrev pub AreMet : Configuration → List Entry → Entry → Thread → Option Event → Type 0
AreMet c past e x event = (given : Event) → event ≡ Some given → done_refusal c (length past) (without_event e ∷ past) x given ≡ None

-- what a done lock says
pub record LockMet (c : Configuration) (high m : ℕ) (x : Thread) (held : List Hold) : Type 0 where
  pub user : is_user c m x.id.process ≡ true
  pub in_time : LockFits c high m held

lock-parts : (c : Configuration) (high m body : ℕ) (x : Thread) (held now_held : List Hold) → IsChecked c → now_held ≡ held → body ≡ high
    → not (is_user c m x.id.process) ≡ false → is_held m now_held ≡ false
    → (ltb body (longest_hold c m) || (is_holding now_held && leb (innermost_left c now_held) (longest_hold c m))) ≡ false
    → LockMet c high m x held
lock-parts c high m body x held now_held checked same equal one two three =
    let user = not-false (is_user c m x.id.process) one in
    let three' : (ltb high (longest_hold c m) || (is_holding held && leb (innermost_left c held) (longest_hold c m))) ≡ false =
    subst (λ hs. (ltb high (longest_hold c m) || (is_holding hs && leb (innermost_left c hs) (longest_hold c m))) ≡ false) same
    (subst (λ b. (ltb b (longest_hold c m) || (is_holding now_held && leb (innermost_left c now_held) (longest_hold c m))) ≡ false) equal three) in
    record {
      user = user;
      in_time =
          record {
            free = subst (λ hs. is_held m hs ≡ false) same two;
            positive = checked.holds m x.id.process user;
            ends_in_time = grind (arith, nat_tests);
            ends_first =
                elim (cases_Bool (is_holding held)) [
                  | inl holding ↦
                      let inner : (ltb high (longest_hold c m) || (true && leb (innermost_left c held) (longest_hold c m))) ≡ false = rw holding at three' in
                      inr (grind (arith, nat_tests))
                  | inr free ↦ inl free
                ];
          };
    }

pub lock-met : (c : Configuration) (e : Entry) (past : List Entry) (x : Thread) (m : ℕ) → IsChecked c → is_of x.id e ≡ true
    → done_refusal c (length past) (without_event e ∷ past) x (Event.Lock m) ≡ None
    → LockMet c (thread_body_left c (length past) past x - spent_by x.id e) m x (map aged (held_by x.id past))
lock-met c e past x m checked mine none =
    let now = without_event e ∷ past in
    let n = length past in
    let parts = none-holds (lock_reasons c n now x m) none in
    lock-parts c (thread_body_left c n past x - spent_by x.id e) m (thread_body_left c n now x) x (map aged (held_by x.id past)) (held_by x.id now) checked
    (held-quiet x.id e past mine) (body-charged c e past x) parts.0 parts.1.0 parts.1.1.0

pub unlock-met : (c : Configuration) (e : Entry) (past : List Entry) (x : Thread) (m : ℕ) → is_of x.id e ≡ true
    → done_refusal c (length past) (without_event e ∷ past) x (Event.Unlock m) ≡ None → is_innermost m (map aged (held_by x.id past)) ≡ true
unlock-met c e past x m mine none = grind (arith, nat_tests)

aged-none : (held : List Hold) → is_holding (map aged held) ≡ false → held ≡ []
aged-none [] h = refl
aged-none (k ∷ held) h = absurd (cc)

pub wait-met : (c : Configuration) (e : Entry) (past : List Entry) (x : Thread) → is_of x.id e ≡ true
    → done_refusal c (length past) (without_event e ∷ past) x Event.Wait ≡ None → held_by x.id past ≡ []
wait-met c e past x mine none = grind (arith, nat_tests, none-holds, aged-none, held-quiet)

pub event-fits : (c : Configuration) (e : Entry) (past : List Entry) (x : Thread) (event : Option Event) → IsChecked c → is_of x.id e ≡ true → AreMet c past e x event
    → EventFits c (thread_body_left c (length past) past x - spent_by x.id e) (map aged (held_by x.id past)) event
event-fits c e past x (Some (Event.Lock m)) checked mine are = (lock-met c e past x m checked mine (are (Event.Lock m) refl)).in_time
event-fits c e past x (Some (Event.Unlock m)) checked mine are = unlock-met c e past x m mine (are (Event.Unlock m) refl)
event-fits c e past x None checked mine are = tt
event-fits c e past x (Some event) checked mine are = tt

pub locks-own : (c : Configuration) (e : Entry) (past : List Entry) (x : Thread) (event : Option Event) → IsChecked c → is_of x.id e ≡ true → AreMet c past e x event
    → LocksOwn c x.id.process event
locks-own c e past x (Some (Event.Lock m)) checked mine are = (lock-met c e past x m checked mine (are (Event.Lock m) refl)).user
locks-own c e past x None checked mine are = tt
locks-own c e past x (Some event) checked mine are = tt

abbrev pub waits : Option Event → Bool
waits event = option_map_or is_wait event false

-- a thread that waits holds nothing, before and after
pub waits-none : (c : Configuration) (e : Entry) (past : List Entry) (x : Thread) (event : Option Event) → is_of x.id e ≡ true → AreMet c past e x event
    → waits event ≡ true → held_after event (map aged (held_by x.id past)) ≡ []
waits-none c e past x (Some Event.Wait) mine are h = ap (map aged) (wait-met c e past x mine (are Event.Wait refl))
waits-none c e past x None mine are h = absurd (cc)
waits-none c e past x (Some event) mine are h = absurd (cc)

-- an entry of a thread that does not stop it has no end as its event
pub runs-on : (x : ThreadId) (e : Entry) → stops x e ≡ false → is_of x e ≡ true → ends e.event ≡ false
runs-on x e runs mine = grind (arith, nat_tests)
