-- Allotments of slack: no window has lent its spare before each process had its allotment.
use Rattle.dk_slack_promise.proofs.Names.{ℕ, zero, suc, ◌≡◌, ◌+◌, ◌-◌, ◌*◌, ◌/◌, ◌%◌, ◌<◌, ◌≤◌, ◌⊎◌, ◌&&◌, inl, inr, Bool, true, false, cond, eqb, leb, List, [], ◌∷◌, length, refl, sym, ap, ◌∙◌, subst, arith, Option, Some, None, MatchOption, is_some, option_map, option_or, unwrap_or, count_by, cases_Bool, cases_lt, cases_eq, nat_tests, zero-mod, mod-lt, Configuration, IsChecked, IsAccepted, below, first_of, main_level, period, window_start, spare, Entry, ThreadId, borrower, window, Thread, own_demand, fits, work_at, wish_at, chosen, Audited, Always, NoAnswer, IsFirst, first_of-is, Passed, no-demand, no-work, threads-fit, steady, steady-fair, own-entry, own-moves, Kind, paid, lent, kernel, idle, kind, count-begins, count-charged, count_by-cons, mod-next, window-goes-on, window_start-within, window_start-le, past_at}
use Rattle.std.specs.Prelude.{take, drop}
use Rattle.std.specs.Option.{option_map_or}
use Rattle.std.proofs.Math.Nat.{mul-le-mul_left, mul-le-mul_right}
use Rattle.dk_config.specs.Sums.{sum_from}
use Rattle.dk_config.proofs.Sums.{sum_from-add, sum_from-eq, sum_from-le, sum_from-term}
use Rattle.dk_trace.specs.Choices.{claims_slack_at}
use Rattle.dk_trace.specs.Guarantees.{lent_to}
use Rattle.dk_trace.proofs.Starts.{begins-together}
use Rattle.dk_trace.proofs.Spans.{whole-times}
use Rattle.dk_bound.proofs.Laws.{granted}
use Rattle.dk_bound.proofs.ByWhen.{goes-on}
use Rattle.dk_bound.proofs.Received.{past_at-earlier, past_at-now}
use Rattle.dk_slack_promise.specs.Lent.{is_lent, ticks_lent}
use Rattle.dk_slack_promise.specs.Long.{IsOpen, is_lent_to}
use Rattle.dk_slack_promise.specs.Allotted.{IsAllotted, own_lent, KeepsTo, AllottedFits, AllottedLends}
use Rattle.dk_slack_promise.proofs.Rest.{work-none, idle_at_rest}
use Rattle.dk_slack_promise.proofs.Pressed.{IsPressed}
use Rattle.dk_slack_promise.proofs.Lent.{HasRoom, room-begins, room-charged, room-step, lent_fits}
use Rattle.dk_slack_promise.proofs.Ended.{ended, counted-ended, past-twice}
use Rattle.dk_slack_promise.proofs.First.{one_of, claims-none, open-claims, open-not, idle-chosen, lent-by}
use Rattle.dk_slack_promise.proofs.Long.{idle-label}

-- the entries that pass the test in the window of level i so far
abbrev pub counted : (Entry → Bool) → Configuration → ℕ → List Entry → ℕ → ℕ
counted test c now past i = count_by test (window c now past i)

-- within a window the entry counts where it is
pub counted-next : (test : Entry → Bool) (c : Configuration) (e : Entry) (past : List Entry) (i : ℕ) → suc (length past) % period c i ≡ suc (length past % period c i)
    → counted test c (suc (length past)) (e ∷ past) i ≡ one_of test e + counted test c (length past) past i
counted-next test c e past i long = ap (count_by test) (window-goes-on c e past i long) ∙ count_by-cons test e (window c (length past) past i)

-- how many windows of its level of the present window of level j are over, and that process q was lent no more than so many allotments before
pub record Bursts (c : Configuration) (s : ℕ → ℕ) (q j : ℕ) (past : List Entry) : Type 0 where
  pub over : ℕ
  pub place : window_start c (main_level c q) (length past) ≡ window_start c j (length past) + over * period c (main_level c q)
  pub most : counted (is_lent_to q) c (length past) past j ≤ s q * over + own_lent c (length past) past q

bursts-begin : (c : Configuration) (s : ℕ → ℕ) (q j : ℕ) (past : List Entry) → IsChecked c → main_level c q ≤ j → j < length c.levels → length past % period c j ≡ 0 → Bursts c s q j past
bursts-begin c s q j past checked le known begins =
    let short = begins-together (length past) (period c (main_level c q)) (period c j) (checked.divides (main_level c q) j le known) begins in
    let none = count-begins (is_lent_to q) c past j begins in
    record { over = 0; place = omega (arith, short, begins); most = omega (arith, none) }

pub bursts : (c : Configuration) (s : ℕ → ℕ) (q j : ℕ) (past : List Entry) → IsChecked c → q < length c.processes → main_level c q ≤ j → j < length c.levels → KeepsTo c s past → Bursts c s q j past
bursts c s q j [] checked here le known keeps = bursts-begin c s q j [] checked le known (zero-mod (period c j))
bursts c s q j (e ∷ past) checked here le known keeps =
    let n = length past in
    let i = main_level c q in
    let test = is_lent_to q in
    elim (mod-next n (period c j) (checked.positive j known)) [
      | inl begins ↦ bursts-begin c s q j (e ∷ past) checked le known begins.0
      | inr long ↦
          let b = bursts c s q j past checked here le known keeps.0 in
          let place = b.place in
          let few = b.most in
          let next_j = counted-next test c e past j long in
          let start = window_start-within c j n long in
          elim (mod-next n (period c i) (checked.positive i (omega (arith, le, known)))) [
            | inr short ↦
                let next_i = counted-next test c e past i short in
                let start_i = window_start-within c i n short in
                record { over = b.over; place = omega (arith, place, start, start_i); most = omega (arith, few, next_j, next_i) }
            | inl ends ↦
                let own : own_lent c n (e ∷ past) q ≡ one_of test e + own_lent c n past q = count-charged test c e past i in
                let limit = keeps.1 q here in
                let more : s q * suc b.over ≡ s q * b.over + s q = omega arith in
                let next : suc b.over * period c i ≡ b.over * period c i + period c i = omega arith in
                let last = ends.1 in
                let first = ends.0 in
                record {
                  over = suc b.over;
                  place = omega (arith, place, start, next, last, first);
                  most = omega (arith, few, next_j, own, limit, more);
                }
          ]
    ]

-- fewer windows are over than there are
pub over-less : (m K P : ℕ) → m * P < K * P → m < K
over-less m K P less =
    elim (cases_lt m K) [
      | inl fine ↦ fine
      | inr more ↦ let le : K * P ≤ m * P = mul-le-mul_right P (omega (arith, more)) in absurd (omega (arith, less, le))
    ]

-- in a window of level j a process was lent d ticks less than its allotments there, if it was so in its own window, whose count may have one more
term-le : (c : Configuration) (s : ℕ → ℕ) (q j d x own : ℕ) (past : List Entry) → IsChecked c → main_level c q ≤ j → j < length c.levels
    → (b : Bursts c s q j past) → x ≤ s q * b.over + own → own + d ≤ s q → x + d ≤ s q * (period c j / period c (main_level c q))
term-le c s q j d x own past checked le known b most fit =
    let n = length past in
    let i = main_level c q in
    let K = period c j / period c i in
    let whole : period c j ≡ K * period c i = whole-times (period c i) (period c j) (checked.divides i j le known) in
    let place = b.place in
    let low = window_start-le c i n in
    let inside : n % period c j < period c j = mod-lt n (checked.positive j known) in
    let few = over-less b.over K (period c i) (omega (arith, place, low, inside, whole)) in
    let product : s q * suc b.over ≤ s q * K = mul-le-mul_left (s q) few in
    let more : s q * suc b.over ≡ s q * b.over + s q = omega arith in
    omega (arith, product, more, most, fit)

-- now no process has more than its allotment in its window
pub keeps-now : (c : Configuration) (s : ℕ → ℕ) (q : ℕ) (past : List Entry) → IsChecked c → q < length c.processes → KeepsTo c s past → own_lent c (length past) past q ≤ s q
keeps-now c s q [] checked here keeps =
    let none = count-begins (is_lent_to q) c [] (main_level c q) (zero-mod (period c (main_level c q))) in omega (arith, none)
keeps-now c s q (e ∷ past) checked here keeps =
    let i = main_level c q in
    elim (mod-next (length past) (period c i) (checked.positive i (checked.levels q here))) [
      | inl begins ↦ (let none = count-begins (is_lent_to q) c (e ∷ past) i begins.0 in omega (arith, none))
      | inr long ↦
          let next = counted-next (is_lent_to q) c e past i long in
          let own : own_lent c (length past) (e ∷ past) q ≡ one_of (is_lent_to q) e + own_lent c (length past) past q = count-charged (is_lent_to q) c e past i in
          let limit = keeps.1 q here in
          omega (arith, next, own, limit)
    ]

-- to whom the tick is lent
to-whom : (q : ℕ) (o : Option ThreadId) → option_map_or (λ x. eqb x.process q) o false ≡ true → (z : ThreadId) × (o ≡ Some z) × (z.process ≡ q)
to-whom q None is = absurd (cc)
to-whom q (Some z) is = (z, refl, grind (arith, nat_tests))

-- where level j claims no tick is lent to a process that is slower
pub not-slower : (c : Configuration) (j q : ℕ) (e : Entry) (past : List Entry) → IsChecked c → Audited c (e ∷ past) → j < length c.levels → (claims_slack_at c past j ≡ None → ⊥)
    → j < main_level c q → is_lent_to q e ≡ false
not-slower c j q e past checked audited known claims slow =
    elim (cases_Bool (is_lent_to q e)) [
      | inr out ↦ out
      | inl mine ↦
          let r = to-whom q (borrower e.label) mine in
          let l = lent-by c j e past r.0 audited known claims r.1 in
          let w = l.wisher in
          let row = (threads-fit c past checked audited.0).rows l.who w.among in
          let low = row.low in
          let level = w.level in
          let own : l.who.id.process ≡ q = ap (λ (v : ThreadId). v.process) l.same ∙ r.2 in
          let same : main_level c l.who.id.process ≡ main_level c q = ap (main_level c) own in
          absurd (omega (arith, low, level, same, slow))
    ]

-- a level with unfinished work claims
works-claim : (c : Configuration) (past : List Entry) (j : ℕ) → 0 < own_demand c (length past) past j → claims_slack_at c past j ≡ None → ⊥
works-claim c past j works none =
    let both = claims-none (work_at c past j) (wish_at c past j) none in
    let rest = no-demand c past j (no-work c past j both.0) in
    absurd (omega (arith, works, rest))

-- while a level has unfinished work slower processes are lent nothing in its window
slower-none : (c : Configuration) (j q : ℕ) (past : List Entry) → IsChecked c → IsAccepted c → Audited c past → j < length c.levels → j < main_level c q
    → 0 < own_demand c (length past) past j → counted (is_lent_to q) c (length past) past j ≡ 0
slower-none c j q [] checked accepted audited known slow works = count-begins (is_lent_to q) c [] j (zero-mod (period c j))
slower-none c j q (e ∷ past) checked accepted audited known slow works =
    let n = length past in
    elim (mod-next n (period c j) (checked.positive j known)) [
      | inl begins ↦ count-begins (is_lent_to q) c (e ∷ past) j begins.0
      | inr long ↦
          let fair = steady-fair c (e ∷ past) (steady c (e ∷ past) checked accepted audited) in
          let own = own-moves c j n (e ∷ past) long in
          let before = own-entry c j e past checked fair audited in
          let worked : 0 < own_demand c n past j = omega (arith, own, before, works) in
          let rest = slower-none c j q past checked accepted audited.0 known slow worked in
          let next = counted-next (is_lent_to q) c e past j long in
          let off : one_of (is_lent_to q) e ≡ 0 = rw (not-slower c j q e past checked audited known (works-claim c past j worked) slow) refl in
          omega (arith, rest, next, off)
    ]

-- each tick that is lent is lent to a process
lent-there : (c : Configuration) (e : Entry) (past : List Entry) → IsChecked c → Audited c (e ∷ past) → is_lent e ≡ true → Kind c past e.label
    → (q : ℕ) × (q < length c.processes) × (is_lent_to q e ≡ true)
lent-there c e past checked audited lends (paid k x low passed has turn pays borrows level) = absurd (let h : is_some {T = ThreadId} None ≡ true = rw borrows at lends in cc)
lent-there c e past checked audited lends (lent k x low passed has none fitting pays borrows level) =
    let row = (threads-fit c past checked audited.0).rows x has in
    let same : eqb x.id.process x.id.process ≡ true = grind (arith, nat_tests) in
    (x.id.process, row.known, rw (borrows, same) refl)
lent-there c e past checked audited lends (kernel k low passed left pays borrows level) = absurd (let h : is_some {T = ThreadId} None ≡ true = rw borrows at lends in cc)
lent-there c e past checked audited lends (idle passed pays borrows level) = absurd (let h : is_some {T = ThreadId} None ≡ true = rw borrows at lends in cc)

-- what is lent is lent to the processes
pub lent-sum : (c : Configuration) (k : ℕ) (past : List Entry) → IsChecked c → Audited c past
    → count_by is_lent (take k past) ≤ sum_from 0 (length c.processes) (λ q. count_by (is_lent_to q) (take k past))
lent-sum c zero past checked audited = omega arith
lent-sum c (suc k) [] checked audited = omega arith
lent-sum c (suc k) (e ∷ past) checked audited =
    let N = length c.processes in
    let one : ℕ → ℕ = λ q. one_of (is_lent_to q) e in
    let rest : ℕ → ℕ = λ q. count_by (is_lent_to q) (take k past) in
    let before = lent-sum c k past checked audited.0 in
    let a = count_by-cons is_lent e (take k past) in
    let each : sum_from 0 N (λ q. count_by (is_lent_to q) (e ∷ take k past)) ≡ sum_from 0 N (λ q. one q + rest q) =
    sum_from-eq 0 N (λ q. count_by (is_lent_to q) (e ∷ take k past)) (λ q. one q + rest q) (λ q. count_by-cons (is_lent_to q) e (take k past)) in
    let split = sum_from-add 0 N one rest in
    elim (cases_Bool (is_lent e)) [
      | inr out ↦ (let off : one_of is_lent e ≡ 0 = rw out refl in omega (arith, before, a, each, split, off))
      | inl lends ↦
          let on : one_of is_lent e ≡ 1 = rw lends refl in
          let r = lent-there c e past checked audited lends (kind c past e audited.1) in
          let mine : one r.0 ≡ 1 = rw r.2 refl in
          let term = sum_from-term 0 N one r.0 (omega arith) (omega (arith, r.1)) in
          omega (arith, before, a, each, split, on, mine, term)
    ]

pub sum_from-less : (low n : ℕ) (f g : ℕ → ℕ) (p : ℕ) → ((k : ℕ) → low ≤ k → k < low + n → f k ≤ g k) → low ≤ p → p < low + n → f p + 1 ≤ g p
    → sum_from low n f + 1 ≤ sum_from low n g
sum_from-less low zero f g p le a b one = absurd (omega (arith, a, b))
sum_from-less low (suc n) f g p le a b one =
    elim (cases_eq low p) [
      | inl same ↦
          let here : f low + 1 ≤ g low = subst (λ k. f k + 1 ≤ g k) (sym same) one in
          let rest = sum_from-le (suc low) n f g (λ k x y. le k (omega (arith, x)) (omega (arith, y))) in
          omega (arith, here, rest)
      | inr other ↦
          let here = le low (omega arith) (omega arith) in
          let rest = sum_from-less (suc low) n f g p (λ k x y. le k (omega (arith, x)) (omega (arith, y))) (omega (arith, a, other)) (omega (arith, b)) one in
          omega (arith, here, rest)
    ]

-- what a process is allotted in a window of level j
abbrev allotment : Configuration → (ℕ → ℕ) → ℕ → ℕ → ℕ
allotment c s j q = cond (leb (main_level c q) j) (s q * (period c j / period c (main_level c q))) 0

-- where each process has at most its allotments of a window, and one has less, the window has lent less than the spare
under-spare : (c : Configuration) (s : ℕ → ℕ) (p j k : ℕ) (past : List Entry) → IsChecked c → Audited c past → p < length c.processes → j < length c.levels → IsAllotted c s
    → ((q : ℕ) → q < length c.processes → count_by (is_lent_to q) (take k past) ≤ allotment c s j q)
    → count_by (is_lent_to p) (take k past) + 1 ≤ allotment c s j p → count_by is_lent (take k past) < spare c j
under-spare c s p j k past checked audited here known fit each less =
    let N = length c.processes in
    let all = lent-sum c k past checked audited in
    let sum = sum_from-less 0 N (λ q. count_by (is_lent_to q) (take k past)) (allotment c s j) p (λ q a b. each q (omega (arith, b))) (omega arith) (omega (arith, here)) less in
    let spared : sum_from 0 N (allotment c s j) ≤ spare c j = fit j known in
    omega (arith, all, sum, spared)

-- a level with unfinished work has not lent its spare, where a process that is not slower hasn't had its allotment
lent-less : (c : Configuration) (s : ℕ → ℕ) (p j : ℕ) (past : List Entry) → IsChecked c → IsAccepted c → Audited c past → p < length c.processes → j < length c.levels → IsAllotted c s
    → KeepsTo c s past → main_level c p ≤ j → 0 < own_demand c (length past) past j → own_lent c (length past) past p < s p
    → ticks_lent c (length past) past j < spare c j
lent-less c s p j past checked accepted audited here known fit keeps le works less =
    let n = length past in
    under-spare c s p j (n - window_start c j n) past checked audited here known fit each mine
  where
    each : (q : ℕ) → q < length c.processes → counted (is_lent_to q) c (length past) past j ≤ allotment c s j q
    each q there =
        elim (cases_lt j (main_level c q)) [
          | inl slow ↦ (let none = slower-none c j q past checked accepted audited known slow works in omega (arith, none))
          | inr reaches ↦
              let fast : leb (main_level c q) j ≡ true = grind (arith, nat_tests) in
              let b = bursts c s q j past checked there (omega (arith, reaches)) known keeps in
              let limit = keeps-now c s q past checked there keeps in
              let term = term-le c s q j 0 (counted (is_lent_to q) c (length past) past j) (own_lent c (length past) past q) past checked (omega (arith, reaches)) known b b.most (omega (arith, limit)) in
              rw fast (omega (arith, term))
        ]

    mine : counted (is_lent_to p) c (length past) past j + 1 ≤ allotment c s j p
    mine =
        let fast : leb (main_level c p) j ≡ true = grind (arith, nat_tests) in
        let b = bursts c s p j past checked here le known keeps in
        let term = term-le c s p j 1 (counted (is_lent_to p) c (length past) past j) (own_lent c (length past) past p) past checked le known b b.most (omega (arith, less)) in
        rw fast term

pub allotted_fits : Always AllottedFits
allotted_fits c past checked accepted audited s p here fit keeps free less =
    lent_fits c past checked accepted audited (λ j known works. at j known works)
  where
    at : (j : ℕ) → j < length c.levels → 0 < own_demand c (length past) past j → ticks_lent c (length past) past j < spare c j
    at j known works =
        elim (cases_lt j (main_level c p)) [
          | inl faster ↦ let none = free j faster in absurd (omega (arith, none, works))
          | inr from ↦ lent-less c s p j past checked accepted audited here known fit keeps (omega (arith, from)) works less
        ]

claim-of : (wish : Option Thread) (b : Bool) → option_or None (option_map (λ x. true) wish) ≡ Some b → (b ≡ true) × (wish ≡ None → ⊥)
claim-of None b is = absurd (cc)
claim-of (Some x) b is = (cc, λ none. absurd (cc))

-- the first claim is a wish, where no level up to that of an open process has work
wish-first : (c : Configuration) (past : List Entry) (i k : ℕ) (o : Option Bool) → i < length c.levels → i < k → Passed c past k → (claims_slack_at c past i ≡ None → ⊥)
    → MatchOption o (NoAnswer (claims_slack_at c past) 0 (0 + length c.levels)) (IsFirst (claims_slack_at c past) 0 (0 + length c.levels))
    → (o ≡ Some true) × ((q : ℕ) × (q < length c.levels) × (wish_at c past q ≡ None → ⊥))
wish-first c past i k None known less passed some none = absurd (some (none i (omega arith) (omega (arith, known))))
wish-first c past i k (Some b) known less passed some first =
    let q = first.place in
    elim (cases_lt i q) [
      | inl later ↦ absurd (some (first.before i (omega arith) later))
      | inr early ↦
          let empty = work-none c past q (passed q (omega (arith, early, less))) in
          let answer : option_or (option_map (λ w. false) (work_at c past q)) (option_map (λ x. true) (wish_at c past q)) ≡ Some b = first.answer in
          let claim : option_or None (option_map (λ x. true) (wish_at c past q)) ≡ Some b = rw empty at answer in
          let r = claim-of (wish_at c past q) b claim in
          (ap Some r.0, (q, omega (arith, early, known), r.1))
    ]

wish-found : (c : Configuration) (past : List Entry) (q : ℕ) (o : Option Thread) → q < length c.levels → (wish_at c past q ≡ None → ⊥)
    → MatchOption o (NoAnswer (wish_at c past) 0 (0 + length c.levels)) (IsFirst (wish_at c past) 0 (0 + length c.levels)) → (y : Thread) × (o ≡ Some y)
wish-found c past q None known some none = absurd (some (none q (omega arith) (omega (arith, known))))
wish-found c past q (Some y) known some first = (y, refl)

lent-due : (claims : Option Bool) (fit : Bool) (wish : Option Thread) (y : Thread) → claims ≡ Some true → fit ≡ true → wish ≡ Some y
    → cond (unwrap_or claims false && fit) (option_map (λ x. x.id) wish) None ≡ Some y.id
lent-due claims fit wish y slack fitting first = rw (slack, fitting, first) refl

-- where a process is open, no level up to its own has work and slack fits, the tick is lent
must-lend : (c : Configuration) (p k : ℕ) (e : Entry) (past : List Entry) → Audited c (e ∷ past) → main_level c p < length c.levels → main_level c p < k → Passed c past k
    → IsOpen c past p → fits c (length past) past ≡ true → borrower e.label ≡ None → ⊥
must-lend c p k e past audited known less passed is fitting unlent =
    let L = length c.levels in
    let first = wish-first c past (main_level c p) k (first_of (claims_slack_at c past) (below L)) known less passed (open-claims c past p is) (first_of-is (claims_slack_at c past) 0 L) in
    let q = first.1 in
    let found = wish-found c past q.0 (first_of (wish_at c past) (below L)) q.1 q.2 (first_of-is (wish_at c past) 0 L) in
    let due : lent_to c past ≡ Some (found.0).id =
    lent-due (first_of (claims_slack_at c past) (below L)) (fits c (length past) past) (first_of (wish_at c past) (below L)) found.0 first.0 fitting found.1 in
    let wrong : None ≡ Some (found.0).id = sym unlent ∙ (granted c (e ∷ past) audited).1 ∙ due in
    absurd (cc)

-- what is known along a window of the level of process p
pub record Asks (c : Configuration) (s : ℕ → ℕ) (p : ℕ) (past : List Entry) : Type 0 where
  pub checked : IsChecked c
  pub accepted : IsAccepted c
  pub audited : Audited c past
  pub here : p < length c.processes
  pub fit : IsAllotted c s
  pub keeps : KeepsTo c s past

pub asks-before : (c : Configuration) (s : ℕ → ℕ) (p : ℕ) (e : Entry) (past : List Entry) → Asks c s p (e ∷ past) → Asks c s p past
asks-before c s p e past know =
    record { checked = know.checked; accepted = know.accepted; audited = know.audited.0; here = know.here; fit = know.fit; keeps = know.keeps.0 }

-- no slower level has the tick while the process is open
not-past : (c : Configuration) (s : ℕ → ℕ) (p k : ℕ) (e : Entry) (past : List Entry) → Asks c s p (e ∷ past) → IsOpen c past p → own_lent c (length past) past p < s p
    → Passed c past k → borrower e.label ≡ None → k ≤ main_level c p
not-past c s p k e past know is less passed borrows =
    elim (cases_lt (main_level c p) k) [
      | inr fine ↦ omega (arith, fine)
      | inl slow ↦
          let fitting = allotted_fits c past know.checked know.accepted know.audited.0 s p know.here know.fit know.keeps.0
          (λ j faster. no-demand c past j (passed j (omega (arith, faster, slow)))) less in
          absurd (must-lend c p k e past know.audited (know.checked.levels p know.here) slow passed is fitting borrows)
    ]

-- so each tick goes to work of a level up to its own, or is lent
pub open-presses : (c : Configuration) (s : ℕ → ℕ) (p : ℕ) (e : Entry) (past : List Entry) → Asks c s p (e ∷ past) → IsOpen c past p → own_lent c (length past) past p < s p
    → (w : Kind c past e.label) → IsPressed c past e.label (main_level c p) w
open-presses c s p e past know is less (paid k x low passed has turn pays borrows level) = not-past c s p k e past know is less passed borrows
open-presses c s p e past know is less (lent k x low passed has none fitting pays borrows level) = tt
open-presses c s p e past know is less (kernel k low passed left pays borrows level) = not-past c s p k e past know is less passed borrows
open-presses c s p e past know is less (idle passed pays borrows level) =
    let choice = idle-chosen (chosen c past) e.label know.audited.1.choice (idle-label e.label pays borrows level) in
    absurd (open-not c past p is ((idle_at_rest c past know.checked know.accepted know.audited.0).0 choice))

-- as long as the process hasn't had its allotment: its level's window has room for its spare, and lent nothing to slower processes
record Behind (c : Configuration) (p : ℕ) (past : List Entry) : Type 0 where
  room : HasRoom c (main_level c p) past
  none : (q : ℕ) → main_level c p < main_level c q → counted (is_lent_to q) c (length past) past (main_level c p) ≡ 0

abbrev State : Configuration → (ℕ → ℕ) → ℕ → List Entry → Type 0
State c s p past = Behind c p past ⊎ (s p ≤ own_lent c (length past) past p)

-- until it was lent its allotment, the process is open at each tick of the window that starts at r
abbrev Opens : Configuration → (ℕ → ℕ) → ℕ → ℕ → List Entry → Type 0
Opens c s p r past = (u : ℕ) → r ≤ u → u < length past → IsOpen c (past_at past u) p ⊎ (s p ≤ own_lent c u (past_at past u) p)

opens-before : (c : Configuration) (s : ℕ → ℕ) (p r : ℕ) (e : Entry) (past : List Entry) → Opens c s p r (e ∷ past) → Opens c s p r past
opens-before c s p r e past opens u from under =
    subst (λ q. IsOpen c q p ⊎ (s p ≤ own_lent c u q p)) (past_at-earlier e past u (omega (arith, under))) (opens u from (omega (arith, under)))

open-now : (c : Configuration) (s : ℕ → ℕ) (p r : ℕ) (e : Entry) (past : List Entry) → Opens c s p r (e ∷ past) → r ≤ length past
    → IsOpen c past p ⊎ (s p ≤ own_lent c (length past) past p)
open-now c s p r e past opens from =
    subst (λ q. IsOpen c q p ⊎ (s p ≤ own_lent c (length past) q p)) (past_at-earlier e past (length past) (omega arith) ∙ past_at-now past)
    (opens (length past) from (omega arith))

behind-begins : (c : Configuration) (s : ℕ → ℕ) (p : ℕ) (past : List Entry) → Asks c s p past → length past % period c (main_level c p) ≡ 0 → Behind c p past
behind-begins c s p past know begins = record {
  room = room-begins c (main_level c p) past know.checked know.accepted know.audited (know.checked.levels p know.here) begins;
  none = λ q slow. count-begins (is_lent_to q) c past (main_level c p) begins;
}

state-step : (c : Configuration) (s : ℕ → ℕ) (p r : ℕ) (e : Entry) (past : List Entry) → Asks c s p (e ∷ past) → Opens c s p r (e ∷ past) → r ≤ length past
    → suc (length past) % period c (main_level c p) ≡ suc (length past % period c (main_level c p)) → State c s p past → State c s p (e ∷ past)
state-step c s p r e past know opens from long (inr had) =
    let next = counted-next (is_lent_to p) c e past (main_level c p) long in inr (omega (arith, had, next))
state-step c s p r e past know opens from long (inl behind) =
    let i = main_level c p in
    let next = counted-next (is_lent_to p) c e past i long in
    elim (cases_lt (own_lent c (length past) past p) (s p)) [
      | inr had ↦ inr (omega (arith, had, next))
      | inl less ↦
          elim (open-now c s p r e past opens from) [
            | inr had ↦ absurd (omega (arith, had, less))
            | inl is ↦
                let w = kind c past e know.audited.1 in
                let known = know.checked.levels p know.here in
                inl (record {
                  room = room-step c i e past know.checked know.accepted know.audited known long w (open-presses c s p e past know is less w) behind.room;
                  none = λ q slow.
                      let off : one_of (is_lent_to q) e ≡ 0 = rw (not-slower c i q e past know.checked know.audited known (open-claims c past p is) slow) refl in
                      let more = counted-next (is_lent_to q) c e past i long in
                      let before = behind.none q slow in
                      omega (arith, off, more, before);
                })
          ]
    ]

along : (c : Configuration) (s : ℕ → ℕ) (p r : ℕ) (past : List Entry) → Asks c s p past → Opens c s p r past → r % period c (main_level c p) ≡ 0
    → r ≤ length past → length past < r + period c (main_level c p) → State c s p past
along c s p r [] know opens begins from under = inl (behind-begins c s p [] know (zero-mod (period c (main_level c p))))
along c s p r (e ∷ past) know opens begins from under =
    let n = length past in
    let i = main_level c p in
    elim (cases_lt n r) [
      | inl new ↦
          let start : r ≡ suc n = omega (arith, new, from) in
          inl (behind-begins c s p (e ∷ past) know (subst (λ v. v % period c i ≡ 0) start begins))
      | inr old ↦
          let before = along c s p r past (asks-before c s p e past know) (opens-before c s p r e past opens) begins (omega (arith, old)) (omega (arith, under)) in
          state-step c s p r e past know opens (omega (arith, old))
          (goes-on c i r n (know.checked.positive i (know.checked.levels p know.here)) begins (omega (arith, old)) (omega (arith, under))) before
    ]

-- a process that is open until its last tick and still has less than its allotment would have lent more than it was allotted
last-lends : (c : Configuration) (s : ℕ → ℕ) (p r : ℕ) (e : Entry) (past : List Entry) → Asks c s p (e ∷ past) → suc (length past) ≡ r + period c (main_level c p)
    → window_start c (main_level c p) (length past) ≡ r → Behind c p past → IsOpen c past p → own_lent c (length past) past p < s p
    → own_lent c (length past) (e ∷ past) p < s p → ⊥
last-lends c s p r e past know size start behind is less short =
    let n = length past in
    let i = main_level c p in
    let known = know.checked.levels p know.here in
    let w = kind c past e know.audited.1 in
    let charged = room-charged c i e past know.checked know.accepted know.audited known w (open-presses c s p e past know is less w) behind.room in
    let few = under-spare c s p i (suc n - window_start c i n) (e ∷ past) know.checked know.audited know.here known know.fit each mine in
    absurd (omega (arith, charged, few, size, start))
  where
    each : (q : ℕ) → q < length c.processes → counted (is_lent_to q) c (length past) (e ∷ past) (main_level c p) ≤ allotment c s (main_level c p) q
    each q there =
        let i = main_level c p in
        let n = length past in
        let known = know.checked.levels p know.here in
        let more : counted (is_lent_to q) c n (e ∷ past) i ≡ one_of (is_lent_to q) e + counted (is_lent_to q) c n past i = count-charged (is_lent_to q) c e past i in
        elim (cases_lt i (main_level c q)) [
          | inl slow ↦
              let off : one_of (is_lent_to q) e ≡ 0 = rw (not-slower c i q e past know.checked know.audited known (open-claims c past p is) slow) refl in
              let none = behind.none q slow in
              omega (arith, more, off, none)
          | inr reaches ↦
              let fast : leb (main_level c q) i ≡ true = grind (arith, nat_tests) in
              let b = bursts c s q i past know.checked there (omega (arith, reaches)) known know.keeps.0 in
              let own : own_lent c n (e ∷ past) q ≡ one_of (is_lent_to q) e + own_lent c n past q = count-charged (is_lent_to q) c e past (main_level c q) in
              let limit = know.keeps.1 q there in
              let most = b.most in
              let term = term-le c s q i 0 (counted (is_lent_to q) c n (e ∷ past) i) (own_lent c n (e ∷ past) q) past know.checked (omega (arith, reaches)) known b (omega (arith, most, more, own)) (omega (arith, limit)) in
              rw fast (omega (arith, term))
        ]

    mine : counted (is_lent_to p) c (length past) (e ∷ past) (main_level c p) + 1 ≤ allotment c s (main_level c p) p
    mine =
        let i = main_level c p in
        let n = length past in
        let known = know.checked.levels p know.here in
        let fast : leb i i ≡ true = grind (arith, nat_tests) in
        let b = bursts c s p i past know.checked know.here (omega arith) known know.keeps.0 in
        let own : own_lent c n (e ∷ past) p ≡ one_of (is_lent_to p) e + own_lent c n past p = count-charged (is_lent_to p) c e past i in
        let most = b.most in
        let term = term-le c s p i 1 (own_lent c n (e ∷ past) p) (own_lent c n (e ∷ past) p) past know.checked (omega arith) known b (omega (arith, most, own)) (omega (arith, short)) in
        rw fast term

-- after the last tick of the window
all-lent : (c : Configuration) (s : ℕ → ℕ) (p r : ℕ) (e : Entry) (past : List Entry) → Asks c s p (e ∷ past) → Opens c s p r (e ∷ past) → r % period c (main_level c p) ≡ 0
    → suc (length past) ≡ r + period c (main_level c p) → window_start c (main_level c p) (length past) ≡ r → s p ≤ own_lent c (length past) (e ∷ past) p
all-lent c s p r e past know opens begins size start =
    let n = length past in
    let i = main_level c p in
    let positive = know.checked.positive i (know.checked.levels p know.here) in
    let more : own_lent c n (e ∷ past) p ≡ one_of (is_lent_to p) e + own_lent c n past p = count-charged (is_lent_to p) c e past i in
    elim (along c s p r past (asks-before c s p e past know) (opens-before c s p r e past opens) begins (omega (arith, size, positive)) (omega (arith, size))) [
      | inr had ↦ omega (arith, had, more)
      | inl behind ↦
          elim (cases_lt (own_lent c n (e ∷ past) p) (s p)) [
            | inr had ↦ omega (arith, had)
            | inl short ↦
                elim (open-now c s p r e past opens (omega (arith, size, positive))) [
                  | inr had ↦ absurd (omega (arith, had, more, short))
                  | inl is ↦ absurd (last-lends c s p r e past know size start behind is (omega (arith, more, short)) short)
                ]
          ]
    ]

pub keeps-drop : (c : Configuration) (s : ℕ → ℕ) (k : ℕ) (past : List Entry) → KeepsTo c s past → KeepsTo c s (drop k past)
keeps-drop c s zero past keeps = keeps
keeps-drop c s (suc k) [] keeps = tt
keeps-drop c s (suc k) (e ∷ past) keeps = keeps-drop c s k past keeps.0

pub allotted_lends : Always AllottedLends
allotted_lends c past checked accepted audited s p r here fit keeps begins le opens =
    let i = main_level c p in
    let positive = checked.positive i (checked.levels p here) in
    let w = ended c past i r positive audited begins le in
    let size = w.size in
    let entries = w.last ∷ w.before in
    let keeps' : KeepsTo c s entries = subst (KeepsTo c s) w.is (keeps-drop c s (length past - (r + period c i)) past keeps) in
    let open_at : Opens c s p r entries =
    λ u from under.
    let same : past_at entries u ≡ past_at past u = ap (λ q. past_at q u) (sym w.is) ∙ past-twice past (r + period c i) u (omega (arith, under, size)) in
    subst (λ q. IsOpen c q p ⊎ (s p ≤ own_lent c u q p)) (sym same) (opens u from (omega (arith, under, size))) in
    let know : Asks c s p entries = record { checked = checked; accepted = accepted; audited = w.audited; here = here; fit = fit; keeps = keeps' } in
    let all = all-lent c s p r w.last w.before know open_at begins size w.start in
    let own = counted-ended (is_lent_to p) c past i r begins w in
    omega (arith, all, own)
