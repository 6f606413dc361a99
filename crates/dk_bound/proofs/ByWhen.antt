-- By when in its window a main has had so many ticks of its share: an induction along the window.
use Rattle.dk_bound.proofs.Names.{ℕ, zero, suc, ◌≡◌, ◌+◌, ◌-◌, ◌%◌, ◌<◌, ◌≤◌, ◌⊎◌, inl, inr, true, false, IsTrue, List, [], ◌∷◌, length, drop, refl, sym, ap, ◌∙◌, subst, arith, Some, None, cases_Bool, cases_lt, nat_tests, length-drop, Configuration, IsChecked, IsAccepted, ahead, NoFasterSlack, period, main_level, window_start, Entry, Has, payer, borrower, is_budget_of, Thread, threads, family, share, is_main, Job, job, thread_rem, blocking, own_demand, Audited, past_at, job_from, HadShare, mod-next, window_start-le, spent, count-charged, main_id, main_row, spent-payer, paid_by_kernel, sum_by-term, share-same, main-has, main-or-child, child-of, ThreadsFit, threads-fit, AllFair, job_at, job-moves, stays-closed, payer-budget_of, now_rem, Kind, paid, lent, kernel, idle, kind, Always, HasHad, ByWhen}
use Rattle.dk_bound.proofs.Holding.{HoldersFit}
use Rattle.dk_bound.proofs.Demands.{kept}
use Rattle.dk_bound.proofs.Fits.{steady-fair, ready-of}
use Rattle.dk_bound.proofs.Blocking.{blocking-falls, blocking-pays}
use Rattle.dk_bound.proofs.Joint.{holders-fit, steady, kernel-counts}
use Rattle.dk_bound.proofs.Bounded.{past_at-later, window-start}
use Rattle.dk_bound.proofs.Received.{share-then}
use Rattle.dk_bound.proofs.Laws.{received, begins_free, blocks_at_most}
use Rattle.dk_bound.proofs.Ahead.{work_ahead, paid_before, ahead-entry, ahead-moves, ahead-start, counted-paid}
use Rattle.dk_bound.proofs.Before.{main-among, passed-faster, no-slack, LaterFree, later-free, Stands, itself, slower, before, turn-stands}

-- a job that has had k ticks of its share, or never will
abbrev HadIt : ℕ → Job → Type 0
HadIt k j = (k ≤ j.used) ⊎ (j.share < k) ⊎ IsTrue j.closed

record Lacks (k : ℕ) (j : Job) : Type 0 where
  some : j.used < k
  enough : k ≤ j.share
  open_yet : j.closed ≡ false

had-or-lacks : (k : ℕ) (j : Job) → HadIt k j ⊎ Lacks k j
had-or-lacks k j =
    elim (cases_lt j.used k) [
      | inr had ↦ inl (inl (omega arith))
      | inl some ↦
          elim (cases_lt j.share k) [
            | inl small ↦ inl (inr (inl small))
            | inr enough ↦
                elim (cases_Bool j.closed) [
                  | inl shut ↦ inl (inr (inr shut))
                  | inr stays ↦ inr (record { some = some; enough = omega arith; open_yet = stays })
                ]
          ]
    ]

lacks-rem : (c : Configuration) (k n : ℕ) (past : List Entry) (x : Thread) → Lacks k (job c n past x) → 0 < thread_rem c n past x
lacks-rem c k n past x lacks = let some = lacks.some in let enough = lacks.enough in rw lacks.open_yet (omega arith)

-- what a main needs at a tick, of which so many are left until the tick by when it is to have had k
record Behind (c : Configuration) (p end k left n : ℕ) (past : List Entry) : Type 0 where
  free : LaterFree c p past
  room : blocking c past (main_level c p) + work_ahead c p end n past + k ≤ left + (job c n past (main_row c p past)).used

-- all that is known along the window
record Known (c : Configuration) (p : ℕ) (past : List Entry) : Type 0 where
  checked : IsChecked c
  accepted : IsAccepted c
  audited : Audited c past
  here : p < length c.processes
  slack : NoFasterSlack c (main_level c p)

-- a level with something left has unfinished work
level-works : (c : Configuration) (past : List Entry) (x : Thread) → Has (threads c past) x → 0 < now_rem c past x → 0 < own_demand c (length past) past x.level
level-works c past x among left = grind (arith, nat_tests, sum_by-term, kept)

abbrev Shortens : Configuration → ℕ → Entry → List Entry → Type 0
Shortens c p e past =
    blocking c (e ∷ past) (main_level c p) + 1
    ≤ blocking c past (main_level c p) + (paid_by_kernel (main_level c p) e + paid_before c p e past + spent (main_id p) e)

stood : (c : Configuration) (p : ℕ) (e : Entry) (past : List Entry) (y : Thread) → Known c p (e ∷ past) → ThreadsFit c past → HoldersFit c (length past) past
    → 0 < own_demand c (length past) past (main_level c p) → Has (threads c past) y → payer e.label ≡ Some y.id → Stands c p past y → Shortens c p e past
stood c p e past y know fit inv works among pays (itself is) =
    let falls = blocking-falls c e past (main_level c p) know.checked know.audited.0 know.audited.1 inv works in
    let mine : payer e.label ≡ Some (main_id p) = pays ∙ ap (λ z. Some z.id) is in
    let one : spent (main_id p) e ≡ 1 = spent-payer (main_id p) e mine in
    omega (arith, falls, one)
stood c p e past y know fit inv works among pays (slower slow) =
    let less = blocking-pays c e past (main_level c p) y know.checked know.audited.0 know.audited.1 inv works among slow (payer-budget_of y.id e pays) in
    omega (arith, less)
stood c p e past y know fit inv works among pays (before le first) =
    let falls = blocking-falls c e past (main_level c p) know.checked know.audited.0 know.audited.1 inv works in
    let one = counted-paid c p e past y (fit.rows y among) (fit.place y among) le first pays in
    omega (arith, falls, one)

-- the tick was for the main, or for what comes before it, or shortened what it waits for
shortens : (c : Configuration) (p : ℕ) (e : Entry) (past : List Entry) → Known c p (e ∷ past) → ThreadsFit c past → HoldersFit c (length past) past
    → 0 < now_rem c past (main_row c p past) → LaterFree c p past → borrower e.label ≡ None → Kind c past e.label → Shortens c p e past
shortens c p e past know fit inv left free unlent (paid k y known passed has turn pays borrows at) =
    let works = level-works c past (main_row c p past) (main-among c p past know.here) left in
    stood c p e past y know fit inv works has pays (turn-stands c p k past y know.checked know.audited.0 fit know.here left free has turn)
shortens c p e past know fit inv left free unlent (lent k y known passed has none room pays borrows at) =
    let wrong : Some y.id ≡ None = sym borrows ∙ unlent in absurd (cc)
shortens c p e past know fit inv left free unlent (kernel k known passed some pays borrows at) =
    let works = level-works c past (main_row c p past) (main-among c p past know.here) left in
    let falls = blocking-falls c e past (main_level c p) know.checked know.audited.0 know.audited.1 inv works in
    let fast = passed-faster c p k past know.here left passed in
    let one = kernel-counts (main_level c p) k e fast at in
    omega (arith, falls, one)
shortens c p e past know fit inv left free unlent (idle passed pays borrows at) =
    let m = main_level c p in
    let known : m < length c.levels = know.checked.levels p know.here in
    let none = (passed m known).ready (main_row c p past) (main-among c p past know.here) refl in
    absurd (omega arith)

fair-of : (c : Configuration) (p : ℕ) (past : List Entry) → Known c p past → AllFair c past
fair-of c p past know = steady-fair c past (steady c past know.checked know.accepted know.audited)

before-of : (c : Configuration) (p : ℕ) (e : Entry) (past : List Entry) → Known c p (e ∷ past) → Known c p past
before-of c p e past know =
    record { checked = know.checked; accepted = know.accepted; audited = know.audited.0; here = know.here; slack = know.slack }

-- the entry of a tick of the main's window: one tick less is left
behind-entry : (c : Configuration) (p end k left : ℕ) (e : Entry) (past : List Entry) → Known c p (e ∷ past) → Lacks k (job c (length past) past (main_row c p past))
    → Behind c p end k (suc left) (length past) past → Behind c p end k left (length past) (e ∷ past)
behind-entry c p end k left e past know lacks behind =
    let n = length past in
    let x = main_row c p past in
    let some = lacks-rem c k n past x lacks in
    let fit = threads-fit c past know.checked know.audited.0 in
    let inv = holders-fit c past know.checked know.accepted know.audited.0 in
    let fair = fair-of c p (e ∷ past) know in
    let unlent = no-slack c p e past fit know.audited know.here some know.slack in
    let less : Shortens c p e past = shortens c p e past know fit inv some behind.free unlent (kind c past e know.audited.1) in
    let work = ahead-entry c p end e past know.checked know.here fair know.audited (ready-of c e past fair know.audited) in
    let used : (job c n (e ∷ past) (main_row c p (e ∷ past))).used ≡ spent (main_id p) e + (job c n past x).used = count-charged (is_budget_of (main_id p)) c e past (main_level c p) in
    let room = behind.room in
    record {
      free = later-free c p e past know.checked know.audited inv know.here some know.slack behind.free;
      room = omega (arith, less, work, used, room);
    }

-- what was had stays so until the window ends
had-stays : (c : Configuration) (p k : ℕ) (e : Entry) (past : List Entry) → Known c p (e ∷ past) → HadIt k (job c (length past) past (main_row c p past))
    → HadIt k (job c (length past) (e ∷ past) (main_row c p (e ∷ past)))
had-stays c p k e past know (inl had) =
    let used : (job c (length past) (e ∷ past) (main_row c p (e ∷ past))).used ≡ spent (main_id p) e + (job c (length past) past (main_row c p past)).used =
    count-charged (is_budget_of (main_id p)) c e past (main_level c p) in
    inl (omega (arith, had, used))
had-stays c p k e past know (inr (inl small)) =
    let same : (job c (length past) (e ∷ past) (main_row c p (e ∷ past))).share ≡ (job c (length past) past (main_row c p past)).share =
    share-same c p (window_start c (main_level c p) (length past)) e past (main_row c p past) know.checked know.here know.audited (main-has c p past) (window_start-le c (main_level c p) (length past)) in
    inr (inl (omega (arith, small, same)))
had-stays c p k e past know (inr (inr shut)) = inr (inr (stays-closed c e past (main_row c p past) shut))

-- where the window begins
behind-starts : (c : Configuration) (p k f : ℕ) (past : List Entry) → Known c p past → length past % period c (main_level c p) ≡ 0 → 0 < f → ahead c p f + k ≤ f
    → Behind c p (length past + f) k f (length past) past
behind-starts c p k f past know begins some room =
    let m = main_level c p in
    let all = ahead-start c p f past know.checked know.here (fair-of c p past know) know.audited begins some in
    let most = blocks_at_most c past know.checked know.accepted know.audited m (know.checked.levels p know.here) in
    record {
      free = λ y among level from apart. begins_free c past know.checked know.accepted know.audited y among (subst (λ i. length past % period c i ≡ 0) (sym level) begins);
      room = omega (arith, all, most, room);
    }

abbrev State : Configuration → ℕ → ℕ → ℕ → ℕ → ℕ → List Entry → Type 0
State c p end k left n past = HadIt k (job c n past (main_row c p past)) ⊎ Behind c p end k left n past

charged : (c : Configuration) (p end k left : ℕ) (e : Entry) (past : List Entry) → Known c p (e ∷ past) → State c p end k (suc left) (length past) past
    → State c p end k left (length past) (e ∷ past)
charged c p end k left e past know (inl had) = inl (had-stays c p k e past know had)
charged c p end k left e past know (inr behind) =
    elim (had-or-lacks k (job c (length past) past (main_row c p past))) [
      | inl had ↦ inl (had-stays c p k e past know had)
      | inr lacks ↦ inr (behind-entry c p end k left e past know lacks behind)
    ]

-- the next tick of the same window
moved : (c : Configuration) (p end k left : ℕ) (e : Entry) (past : List Entry) → Known c p (e ∷ past) → suc (length past) < end
    → suc (length past) % period c (main_level c p) ≡ suc (length past % period c (main_level c p))
    → State c p end k left (length past) (e ∷ past) → State c p end k left (suc (length past)) (e ∷ past)
moved c p end k left e past know early within (inl had) =
    inl (subst (HadIt k) (sym (job-moves c (length past) (e ∷ past) (main_row c p (e ∷ past)) within)) had)
moved c p end k left e past know early within (inr behind) =
    let n = length past in
    let same : (job c (suc n) (e ∷ past) (main_row c p (e ∷ past))).used ≡ (job c n (e ∷ past) (main_row c p (e ∷ past))).used =
    ap (λ j. j.used) (job-moves c n (e ∷ past) (main_row c p (e ∷ past)) within) in
    let work = ahead-moves c p end e past know.checked know.here (fair-of c p (e ∷ past) know) know.audited early in
    let room = behind.room in
    inr (record { free = behind.free; room = omega (arith, same, work, room) })

-- within a window that starts at s
pub goes-on : (c : Configuration) (i s n : ℕ) → 0 < period c i → s % period c i ≡ 0 → s ≤ n → suc n < s + period c i → suc n % period c i ≡ suc (n % period c i)
goes-on c i s n positive begins from under = grind (arith, nat_tests, mod-next, window-start)

along : (c : Configuration) (p s f k left : ℕ) (past : List Entry) → Known c p past → s % period c (main_level c p) ≡ 0 → f ≤ period c (main_level c p)
    → ahead c p f + k ≤ f → s ≤ length past → length past + left ≡ s + f → 0 < left → State c p (s + f) k left (length past) past
along c p s f k left [] know begins within room from at some =
    let zero_s : s ≡ 0 = omega arith in
    let same : left ≡ f = omega arith in
    subst (λ w. State c p (w + f) k left 0 []) (sym zero_s)
    (subst (λ l. State c p (0 + f) k l 0 []) (sym same)
    (inr (behind-starts c p k f [] know (subst (λ w. w % period c (main_level c p) ≡ 0) zero_s begins) (omega arith) room)))
along c p s f k left (e ∷ past) know begins within room from at some =
    let n = length past in
    elim (cases_lt n s) [
      | inl new ↦
          let start : s ≡ suc n = omega arith in
          let same : left ≡ f = omega arith in
          subst (λ w. State c p (w + f) k left (suc n) (e ∷ past)) (sym start)
          (subst (λ l. State c p (suc n + f) k l (suc n) (e ∷ past)) (sym same)
          (inr (behind-starts c p k f (e ∷ past) know (subst (λ w. w % period c (main_level c p) ≡ 0) start begins) (omega arith) room)))
      | inr old ↦
          let positive = know.checked.positive (main_level c p) (know.checked.levels p know.here) in
          let before = along c p s f k (suc left) past (before-of c p e past know) begins within room (omega arith) (omega arith) (omega arith) in
          moved c p (s + f) k left e past know (omega arith) (goes-on c (main_level c p) s n positive begins (omega arith) (omega arith))
          (charged c p (s + f) k left e past know before)
    ]

had-of : (c : Configuration) (p end k n : ℕ) (past : List Entry) → State c p end k 0 n past → HadIt k (job c n past (main_row c p past))
had-of c p end k n past (inl had) = had
had-of c p end k n past (inr behind) = let room = behind.room in inl (omega (arith, room))

-- at the tick by when it is to have had k
at-last : (c : Configuration) (p s f k : ℕ) (past : List Entry) → Known c p past → s % period c (main_level c p) ≡ 0 → f ≤ period c (main_level c p)
    → ahead c p f + k ≤ f → length past ≡ s + f → 0 < f → HasHad c past (main_row c p past) s k
at-last c p s f k [] know begins within room at some = absurd (omega arith)
at-last c p s f k (e ∷ past) know begins within room at some =
    let n = length past in
    let m = main_level c p in
    let all = e ∷ past in
    let x = main_row c p all in
    let before = along c p s f k 1 past (before-of c p e past know) begins within room (omega arith) (omega arith) (omega arith) in
    let had : HadIt k (job c n all x) = had-of c p (s + f) k n all (charged c p (s + f) k 0 e past know before) in
    let start = window-start c m s n begins (omega arith) (omega arith) in
    let had' : HadIt k (job c s all x) = subst (λ w. HadIt k (job_at c w all x)) start had in
    subst (λ es. HadIt k (job c s es x)) (sym (past_at-later all (s + period c m) (omega arith))) had'

-- at the end of its window, by what it has received
pub at-end : (c : Configuration) (p s k : ℕ) (past : List Entry) (x : Thread) → IsChecked c → IsAccepted c → Audited c past → p < length c.processes → s % period c x.level ≡ 0 → length past ≡ s + period c x.level
    → Has (threads c past) x → x.id.process ≡ p → HasHad c past x s k
at-end c p s k past x checked accepted audited here begins at among of_p =
    let had : HadShare c past x s = (received c past checked accepted audited).0 x s among begins (omega arith) in
    let start : window_start c x.level s ≡ s = rw begins (omega arith) in
    let whole : (job_from c past x s).share ≡ share c (past_at past s) x s =
    ap (λ es. share c es x (window_start c x.level s)) (past_at-later past (s + period c x.level) (omega arith))
    ∙ ap (share c past x) start ∙ share-then c p s past x checked here audited of_p (omega arith) in
    elim had [
      | inr shut ↦ inr (inr shut.0)
      | inl all ↦
          elim (cases_lt (job_from c past x s).share k) [
            | inl small ↦ inr (inl small)
            | inr enough ↦ inl (omega (arith, all, whole, enough))
          ]
    ]

pub audited-drop : (c : Configuration) (k : ℕ) (past : List Entry) → Audited c past → Audited c (drop k past)
audited-drop c zero past audited = audited
audited-drop c (suc k) [] audited = audited
audited-drop c (suc k) (e ∷ past) audited = audited-drop c k past audited.0

pub by_when : Always ByWhen
by_when c past checked accepted audited x s f k among main begins le enough =
    let early = past_at past (s + f) in
    let p = x.id.process in
    let audited' = audited-drop c (length past - (s + f)) past audited in
    let size : length early ≡ s + f = length-drop (length past - (s + f)) past ∙ omega arith in
    let fit = threads-fit c early checked audited' in
    let here = (fit.rows x among).known in
    let same : main_row c p early ≡ x = is-main p early (fit.place x among) checked here audited' main in
    let level : main_level c p ≡ x.level = ap (λ y. y.level) same in
    elim enough.room [
      | inl whole ↦
          let at : length early ≡ s + period c x.level = size ∙ ap (λ w. s + w) (whole ∙ ap (period c) level) in
          at-end c p s k early x checked accepted audited' here begins at among refl
      | inr room ↦
          let fits = room.1 in
          elim (cases_lt 0 f) [
            | inr none ↦ inl (omega arith)
            | inl some ↦
                subst (λ y. HasHad c early y s k) same
                (at-last c p s f k early (record { checked = checked; accepted = accepted; audited = audited'; here = here; slack = room.0 })
                (subst (λ i. s % period c i ≡ 0) (sym level) begins) enough.within fits size some)
          ]
    ]
  where
    is-main : (p : ℕ) (es : List Entry) → Has (family c p es) x → IsChecked c → p < length c.processes → Audited c es → is_main x ≡ true → main_row c p es ≡ x
    is-main p es place checked here audited main =
        elim (main-or-child c p es x place) [
          | inl is ↦ is
          | inr child ↦ let no = (child-of c p es x checked here audited child).row.no_main in absurd (cc)
        ]
