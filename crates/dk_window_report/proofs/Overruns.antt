-- Where nothing overran, each thread waited or was stopped in each window.
use Rattle.std.proofs.Common.{ℕ, zero, suc, ◌≡◌, ◌+◌, ◌-◌, ◌*◌, ◌/◌, ◌%◌, ◌<◌, ◌≤◌, inl, inr, ◌∙◌, refl, sym, ap, subst, arith, Bool, true, false, cond, List, [], ◌∷◌, ◌++◌, length, map, take, drop, length-append}
use Rattle.std.specs.Prelude.{◌||◌, ◌&&◌, not, nat_lt, nat_le, if◌then◌else◌, count_by, sum_by, Option, Some, None}
use Rattle.std.specs.List.{list_any}
use Rattle.std.specs.Option.{option_or, option_map_or}
use Rattle.std.specs.Bool.{then_some}
use Rattle.std.proofs.lemmas.List.{length-take-le, length-drop, drop-take, take-take}
use Rattle.std.proofs.lemmas.Nat.{le-div}
use Rattle.std.proofs.lemmas.Nat.Gcd.{mod-eq-zero_of_dvd}
use Rattle.std.proofs.lemmas.Bool.{cases_Bool, lt-ltb, ltb-true, leb-true, and_parts, or_right}
use Rattle.std.proofs.Math.Nat.{div-add-mod, zero-mod, mod-lt, mod-le, le_of_mul-le-mul_left}
use Rattle.dk_config.specs.Configuration.{Configuration}
use Rattle.dk_config.specs.Sums.{below}
use Rattle.dk_config.specs.Windows.{period, main_level, window_start, window_end}
use Rattle.dk_trace.specs.declared.ThreadId.{ThreadId}
use Rattle.dk_trace.specs.declared.Event.{Event}
use Rattle.dk_trace.specs.declared.Entry.{Entry}
use Rattle.dk_trace.specs.Members.{Has}
use Rattle.dk_trace.specs.Entries.{does, is_wait, is_of, stops, thread_of}
use Rattle.dk_trace.specs.Threads.{Thread, family, main_thread, made_by}
use Rattle.dk_trace.specs.Jobs.{is_stopped_in}
use Rattle.dk_trace.specs.Guarantees.{Received, job_from}
use Rattle.dk_trace.proofs.Members.{append-left, append-right, map-has, has-flat, numbers-has, sum_by-term}
use Rattle.dk_trace.proofs.Rows.{has-next, dvd-end}
use Rattle.dk_trace.proofs.Windows.{count_by-cons}
use Rattle.dk_window_report.specs.declared.row.Did.{Did}
use Rattle.dk_trace.proofs.Whose.{of-thread}
use Rattle.dk_ledger.specs.Heading.{Heading}
use Rattle.dk_window_report.specs.Windows.{window_at, ended_windows, did_in, is_overrun, unstopped, stopped_once}
use Rattle.dk_window_report.specs.Owners.{Owner, owners, main_owner, made_of, made_in, own_entries, did_of, numbers_of, child_owner, level_at, ticks_left}
use Rattle.dk_window_report.specs.Clean.{overruns}
use Rattle.dk_window_report.specs.Overruns.{IsHeadingOf, IsCounted, AllCounted, AllWaited, IsWaited, window_from, owner_of}

-- ---- who is reported

-- the thread is reported, and its windows begin where those of its level do
record IsReported (c : Configuration) (h : Heading) (past : List Entry) (x : Thread) : Type 0 where
  owner : Has (owners h past) (owner_of c x)
  start : x.start % period c x.level ≡ 0

main-reported : (c : Configuration) (h : Heading) (p : ℕ) → IsHeadingOf c h → p < length c.processes → IsReported c h [] (main_thread c p)
main-reported c h p heading there =
    let rows = heading.processes in
    let same : main_owner h p ≡ owner_of c (main_thread c p) =
    ap (λ k. record { id = record { process = p; serial = 0 }; period = k; since = 0 }) (heading.periods (level_at h p) ∙ ap (period c) (heading.levels p)) in
    record {
      owner = subst (Has (owners h [])) same (map-has (main_owner h) (below (length h.processes)) p (numbers-has 0 (length h.processes) p (omega arith) (omega (arith, rows, there))));
      start = zero-mod (period c (main_level c p));
    }

-- a child that is made is reported
child-reported : (c : Configuration) (h : Heading) (p n : ℕ) (event : Option Event) (x : Thread) → IsHeadingOf c h → Has (made_by c p n event) x → 0 < period c x.level
    → Has (made_of h n (record { process = p; serial = 0 }) event) (owner_of c x) × (x.start % period c x.level ≡ 0)
child-reported c h p n None x heading made positive = absurd made
child-reported c h p n (Some (Event.Create serial level quota)) x heading (inr none) positive = absurd none
child-reported c h p n (Some (Event.Create serial level quota)) x heading (inl is) positive =
    let P = period c level in
    let id : ThreadId = record { process = p; serial = serial } in
    let row : Thread = record { id = id; level = level; quota = quota; start = window_end c level n; stop = None } in
    let some : 0 < P = subst (λ (y : Thread). 0 < period c y.level) (sym is) positive in
    let low = mod-lt n some in
    let most = mod-le n P in
    let since : suc n + ticks_left P n ≡ window_end c level n = omega (arith, low, most, some) in
    let same : child_owner h n p serial level ≡ owner_of c row =
    ap (λ k. record { id = id; period = k; since = suc n + ticks_left k n }) (heading.periods level)
    ∙ ap (λ k. record { id = id; period = P; since = k }) since in
    (inl (same ∙ ap (owner_of c) is), subst (λ (y : Thread). y.start % period c y.level ≡ 0) is (mod-eq-zero_of_dvd P (dvd-end c level n)))
child-reported c h p n (Some other) x heading made positive = absurd made

new-reported : (c : Configuration) (h : Heading) (p : ℕ) (e : Entry) (past : List Entry) (x : Thread) (b : Bool) → b ≡ is_of (record { process = p; serial = 0 }) e
    → IsHeadingOf c h → Has (if b then made_by c p (length past) e.event else []) x → 0 < period c x.level → IsReported c h (e ∷ past) x
new-reported c h p e past x false is heading made positive = absurd made
new-reported c h p e past x true is heading made positive =
    let main : ThreadId = record { process = p; serial = 0 } in
    let who : thread_of e.label ≡ Some main = of-thread main e (sym is) in
    let one = child-reported c h p (length past) e.event x heading made positive in
    record {
      owner = append-right (owners h past) (made_in h (length past) e) (owner_of c x)
          (subst (λ o. Has (option_map_or (λ y. made_of h (length past) y e.event) o []) (owner_of c x)) (sym who) one.0);
      start = one.1;
    }

reported : (c : Configuration) (h : Heading) (p : ℕ) (past : List Entry) (x : Thread) → IsHeadingOf c h → p < length c.processes → Has (family c p past) x → 0 < period c x.level → IsReported c h past x
reported c h p [] x heading there (inr none) positive = absurd none
reported c h p [] x heading there (inl is) positive = subst (IsReported c h []) is (main-reported c h p heading there)
reported c h p (e ∷ past) x heading there has positive =
    elim (has-next e (length past) (family c p past) (if is_of (record { process = p; serial = 0 }) e then made_by c p (length past) e.event else []) x has) [
      | inl old ↦
          let before = reported c h p past old.0 heading there old.1 (subst (λ (y : Thread). 0 < period c y.level) (sym old.2) positive) in
          let later : IsReported c h (e ∷ past) old.0 = record {
            owner = append-left (owners h past) (made_in h (length past) e) (owner_of c old.0) before.owner;
            start = before.start;
          } in
          subst (IsReported c h (e ∷ past)) old.2 (record { owner = later.owner; start = later.start })
      | inr new ↦ new-reported c h p e past x (is_of (record { process = p; serial = 0 }) e) refl heading new positive
    ]

-- ---- a stop is in its window

record IsStoppedAt (past : List Entry) (id : ThreadId) (t : ℕ) : Type 0 where
  newer : List Entry
  older : List Entry
  entry : Entry
  parts : past ≡ newer ++ entry ∷ older
  tick : length older ≡ t
  stopped : stops id entry ≡ true

stopped-later : (e : Entry) (past : List Entry) (id : ThreadId) (t : ℕ) → IsStoppedAt past id t → IsStoppedAt (e ∷ past) id t
stopped-later e past id t at =
    record { newer = e ∷ at.newer; older = at.older; entry = at.entry; parts = ap (λ es. e ∷ es) at.parts; tick = at.tick; stopped = at.stopped }

stopped-now : (e : Entry) (past : List Entry) (id : ThreadId) (t : ℕ) (o : Option ℕ) (b : Bool) → b ≡ stops id e → (o ≡ Some t → IsStoppedAt past id t)
    → option_or o (then_some b (length past)) ≡ Some t → IsStoppedAt (e ∷ past) id t
stopped-now e past id t (Some u) b is before h = stopped-later e past id t (before h)
stopped-now e past id t None true is before h =
    let tick : length past ≡ t = cc in record { newer = []; older = past; entry = e; parts = refl; tick = tick; stopped = sym is }
stopped-now e past id t None false is before h = absurd (cc)

new-unstopped : (c : Configuration) (p n : ℕ) (event : Option Event) (b : Bool) (x : Thread) → Has (if b then made_by c p n event else []) x → x.stop ≡ None
new-unstopped c p n event false x has = absurd has
new-unstopped c p n None true x has = absurd has
new-unstopped c p n (Some (Event.Create serial level quota)) true x (inl is) = sym (ap (λ (y : Thread). y.stop) is)
new-unstopped c p n (Some (Event.Create serial level quota)) true x (inr none) = absurd none
new-unstopped c p n (Some other) true x has = absurd has

stopped-at : (c : Configuration) (p : ℕ) (past : List Entry) (x : Thread) (t : ℕ) → Has (family c p past) x → x.stop ≡ Some t → IsStoppedAt past x.id t
stopped-at c p [] x t (inr none) h = absurd none
stopped-at c p [] x t (inl is) h = absurd (let no : None ≡ Some t = ap (λ (y : Thread). y.stop) is ∙ h in cc)
stopped-at c p (e ∷ past) x t has h =
    elim (has-next e (length past) (family c p past) (if is_of (record { process = p; serial = 0 }) e then made_by c p (length past) e.event else []) x has) [
      | inl old ↦
          let y = old.0 in
          let stop : option_or y.stop (then_some (stops y.id e) (length past)) ≡ Some t = ap (λ (z : Thread). z.stop) old.2 ∙ h in
          subst (λ (z : Thread). IsStoppedAt (e ∷ past) z.id t) old.2
          (stopped-now e past y.id t y.stop (stops y.id e) refl (λ is. stopped-at c p past y t old.1 is) stop)
      | inr new ↦ absurd (let no : None ≡ Some t = sym (new-unstopped c p (length past) e.event (is_of (record { process = p; serial = 0 }) e) x new) ∙ h in cc)
    ]

-- what stands at a place of a list is in each part of the list that has the place
any-part : (test : Entry → Bool) (newer older : List Entry) (e : Entry) (k n : ℕ) → k ≤ length newer → length newer < k + n → test e ≡ true
    → list_any test (take n (drop k (newer ++ e ∷ older))) ≡ true
any-part test [] older e (suc k) n within below-end is = absurd (omega (arith, within))
any-part test [] older e zero zero within below-end is = absurd (omega (arith, below-end))
any-part test [] older e zero (suc n) within below-end is = ap (λ b. b || list_any test (take n older)) is
any-part test (y ∷ ys) older e zero zero within below-end is = absurd (omega (arith, below-end))
any-part test (y ∷ ys) older e zero (suc n) within below-end is =
    or_right (test y) _ (any-part test ys older e zero n (omega arith) (omega (arith, below-end)) is)
any-part test (y ∷ ys) older e (suc k) n within below-end is = any-part test ys older e k n (omega (arith, within)) (omega (arith, below-end)) is

-- ---- a window that has ended

-- its entries
window-is : (c : Configuration) (past : List Entry) (x : Thread) (s : ℕ) → s % period c x.level ≡ 0 → s + period c x.level ≤ length past
    → window_from c past x s ≡ take (period c x.level) (drop (length past - (s + period c x.level)) past)
window-is c past x s start ended =
    let P = period c x.level in
    let k = length past - (s + P) in
    let size = length-drop k past in
    let count : length (drop k past) - (s - s % P) ≡ P = omega (arith, size, start, ended) in
    ap (λ n. take n (drop k past)) count

order-div : (p x y : ℕ) → 0 < p → y * p ≤ x * p → y ≤ x
order-div p x y positive h =
    let turned : p * y ≤ p * x = omega (arith, h) in
    le_of_mul-le-mul_left turned positive

-- it is one of the windows that are counted
window-counted : (past : List Entry) (P start s : ℕ) → 0 < P → start % P ≡ 0 → s % P ≡ 0 → start ≤ s → s + P ≤ length past
    → Has (ended_windows P (own_entries start past)) (take P (drop (length past - (s + P)) past))
window-counted past P start s some begins here after ended =
    let own = own_entries start past in
    let a = s / P in
    let b = start / P in
    let i = a - b in
    let at = div-add-mod s P in
    let from = div-add-mod start P in
    let order : b ≤ a = order-div P a b some (omega (arith, at, from, begins, here, after)) in
    let sum : a ≡ i + b = omega (arith, order) in
    let parts : a * P ≡ i * P + b * P = ap (λ k. k * P) sum ∙ (let both : (i + b) * P ≡ i * P + b * P = omega arith in both) in
    let next : (i + 1) * P ≡ i * P + P = omega arith in
    let place : start + (i + 1) * P ≡ s + P = omega (arith, parts, next, at, from, begins, here) in
    let size : length own ≡ length past - start = length-take-le (length past - start) past (omega arith) in
    let fits : (i + 1) * P ≤ length own = omega (arith, place, size, ended) in
    let whole = le-div (i + 1) (length own) P some fits in
    let m = (i + 1) * P in
    let k = length past - (s + P) in
    let within : P ≤ m = omega (arith, next) in
    let count : length past - start ≡ k + m = omega (arith, place, ended) in
    let behind : length own - m ≡ k = omega (arith, size, place, ended) in
    let is : window_at P own i ≡ take P (drop k past) =
    ap (λ n. take P (drop n own)) behind ∙ ap (λ n. take P (drop k (take n past))) count
    ∙ ap (take P) (drop-take k m past) ∙ take-take P m (drop k past) within in
    subst (Has (ended_windows P own)) is
    (map-has (window_at P own) (below (length own / P)) i (numbers-has 0 (length own / P) i (omega arith) (omega (arith, whole))))

pub all_counted : (c : Configuration) (h : Heading) (past : List Entry) → IsHeadingOf c h → AllCounted c h past
all_counted c h past heading x s had =
    let P = period c x.level in
    let at = has-flat (λ p. family c p past) 0 (length c.processes) x had.thread in
    let who = reported c h at.0 past x heading (omega (arith, at.1)) at.2 had.level in
    let w = window-counted past P x.start s had.level who.start had.start had.begun had.ended in
    record {
      owner = who.owner;
      did = subst (λ es. Has (did_of (owner_of c x) past) (did_in x.id es)) (sym (window-is c past x s had.start had.ended))
          (map-has (did_in x.id) (ended_windows P (own_entries x.start past)) (take P (drop (length past - (s + P)) past)) w);
    }

-- ---- nothing overran

no-test : {A : Type 0} (test : A → Bool) (xs : List A) (x : A) → count_by test xs ≡ 0 → Has xs x → test x ≡ false
no-test test xs x none has =
    elim (cases_Bool (test x)) [
      | inl is ↦
          let most = sum_by-term (λ y. cond (test y) 1 0) xs x has in
          let one : cond {A = ℕ} (test x) 1 0 ≡ 1 = ap (λ b. cond {A = ℕ} b 1 0) is in
          absurd (omega (arith, most, one, none))
      | inr isnt ↦ isnt
    ]

-- what overran overran too where it isn't stopped again
overran-le : (a w s : Bool) → cond {A = ℕ} (a && not (w || s)) 1 0 ≤ cond {A = ℕ} (a && not (w || false)) 1 0
overran-le false w s = omega arith
overran-le true true s = omega arith
overran-le true false true = omega arith
overran-le true false false = omega arith

map-overran : (ds : List Did) → count_by is_overrun ds ≤ count_by is_overrun (map unstopped ds)
map-overran [] = omega arith
map-overran (d ∷ ds) =
    let one = overran-le (nat_lt 0 d.used) d.waited d.stopped in
    let whole = count_by-cons is_overrun d ds in
    let later = count_by-cons is_overrun (unstopped d) (map unstopped ds) in
    let rest = map-overran ds in
    omega (arith, one, whole, later, rest)

if-overran : (b : Bool) (ds : List Did) → count_by is_overrun ds ≤ count_by is_overrun (stopped_once ds)
    → count_by is_overrun ds ≤ count_by is_overrun (if b then map unstopped ds else stopped_once ds)
if-overran true ds h = map-overran ds
if-overran false ds h = h

once-overran : (ds : List Did) → count_by is_overrun ds ≤ count_by is_overrun (stopped_once ds)
once-overran [] = omega arith
once-overran (d ∷ ds) =
    let whole = count_by-cons is_overrun d ds in
    let later = count_by-cons is_overrun d (if d.stopped then map unstopped ds else stopped_once ds) in
    let rest = if-overran d.stopped ds (once-overran ds) in
    omega (arith, whole, later, rest)

no-overrun : (c : Configuration) (h : Heading) (past : List Entry) (x : Thread) (s : ℕ) → IsCounted c h past x s → overruns h past ≡ 0
    → is_overrun (did_in x.id (window_from c past x s)) ≡ false
no-overrun c h past x s counted none =
    let f = λ (o : Owner). (numbers_of past o).overran in
    let most = sum_by-term f (owners h past) (owner_of c x) counted.owner in
    let zero-sum : sum_by f (owners h past) ≡ 0 = omega (arith, none) in
    let fewer = once-overran (did_of (owner_of c x) past) in
    no-test is_overrun (did_of (owner_of c x) past) (did_in x.id (window_from c past x s)) (omega (arith, most, zero-sum, fewer)) counted.did

-- who used something and didn't overrun has waited or was stopped
used-waited : (used : ℕ) (b : Bool) → 0 < used → (nat_lt 0 used && not b) ≡ false → b ≡ true
used-waited used true some h = refl
used-waited used false some h = absurd (let yes = lt-ltb 0 used some in let no : true ≡ false = sym (ap (λ a. a && true) yes) ∙ h in cc)

-- a stop of the window is in it
stop-in-window : (c : Configuration) (past : List Entry) (x : Thread) (s t : ℕ) → s % period c x.level ≡ 0 → s + period c x.level ≤ length past
    → IsStoppedAt past x.id t → s ≤ t → t < s + period c x.level → list_any (stops x.id) (window_from c past x s) ≡ true
stop-in-window c past x s t start ended at from until =
    let P = period c x.level in
    let k = length past - (s + P) in
    let size = ap length at.parts ∙ length-append at.newer (at.entry ∷ at.older) in
    let tick = at.tick in
    ap (list_any (stops x.id)) (window-is c past x s start ended)
    ∙ ap (λ es. list_any (stops x.id) (take P (drop k es))) at.parts
    ∙ any-part (stops x.id) at.newer at.older at.entry k P (omega (arith, size, tick, until, ended)) (omega (arith, size, tick, from, ended)) at.stopped

closed-stop : (c : Configuration) (p : ℕ) (past : List Entry) (x : Thread) (s : ℕ) → Has (family c p past) x → s % period c x.level ≡ 0 → s + period c x.level ≤ length past
    → (o : Option ℕ) → o ≡ x.stop → option_map_or (λ stop. nat_le (window_start c x.level s) stop && nat_lt stop (window_end c x.level s)) o false ≡ true
    → list_any (stops x.id) (window_from c past x s) ≡ true
closed-stop c p past x s has start ended None is h = absurd (cc)
closed-stop c p past x s has start ended (Some t) is h =
    let parts = and_parts (nat_le (window_start c x.level s) t) (nat_lt t (window_end c x.level s)) h in
    let from = leb-true (window_start c x.level s) t parts.0 in
    let until = ltb-true t (window_end c x.level s) parts.1 in
    stop-in-window c past x s t start ended (stopped-at c p past x t has (sym is)) (omega (arith, from, start)) (omega (arith, until, start))

closed-waited : (c : Configuration) (p : ℕ) (past : List Entry) (x : Thread) (s : ℕ) → Has (family c p past) x → s % period c x.level ≡ 0 → s + period c x.level ≤ length past
    → (job_from c past x s).closed ≡ true → IsWaited c past x s
closed-waited c p past x s has start ended closed =
    let waited = list_any (does is_wait x.id) (window_from c past x s) in
    elim (cases_Bool waited) [
      | inl is ↦ ap (λ b. b || list_any (stops x.id) (window_from c past x s)) is
      | inr isnt ↦
          let stopped : is_stopped_in c s x ≡ true = sym (ap (λ b. b || is_stopped_in c s x) isnt) ∙ closed in
          or_right waited _ (closed-stop c p past x s has start ended x.stop refl stopped)
    ]

pub all_waited : (c : Configuration) (h : Heading) (past : List Entry) → IsHeadingOf c h → Received c past → overruns h past ≡ 0 → AllWaited c past
all_waited c h past heading received none x s had =
    let at = has-flat (λ p. family c p past) 0 (length c.processes) x had.thread in
    let counted = all_counted c h past heading x s had in
    let overran = no-overrun c h past x s counted none in
    elim (received.0 x s had.thread had.start had.ended) [
      | inl whole ↦
          let share = had.share in
          let some : 0 < (did_in x.id (window_from c past x s)).used = omega (arith, share, whole) in
          used-waited (did_in x.id (window_from c past x s)).used _ some overran
      | inr out ↦ closed-waited c at.0 past x s at.2 had.start had.ended out.0
    ]
