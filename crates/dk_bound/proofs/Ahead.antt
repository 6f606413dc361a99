-- What still comes before a main until a tick: it falls by each tick that it gets, and nothing is added to it as windows begin.
use Rattle.dk_bound.proofs.Names.{ℕ, suc, ◌≡◌, ◌+◌, ◌-◌, ◌*◌, ◌/◌, ◌%◌, ◌<◌, ◌≤◌, ◌⊎◌, inl, inr, true, false, ◌&&◌, eqb, leb, ltb, List, ◌∷◌, length, refl, ap, ◌∙◌, arith, min, Option, Some, option_map_or, cases_Bool, nat_tests, Configuration, IsChecked, sum_from, period, release, main_level, max_level, slots, budget, window_end, level_blocking, sum_from-le, sum_from-add, sum_from-term, Entry, payer, Has, Thread, family, kernel_rem, Audited, mod-next, spent, count-charged, paid-le, window_start-within, kernel_paid, one_or_none, pays, begins-together, spent-payer, paid_by_kernel, sum_by-term, RowFits, AllFair, windows_begun, stands_after, slowest_before, may_come_before, budgets_begun, ahead}
use Rattle.dk_bound.proofs.Begins.{process-begins}
use Rattle.dk_bound.proofs.Demands.{kept, up_to, process_demand, process_paid, process-entry, process-moves, kernel_rem-moves, KernelReady}

-- the windows of level i that begin after tick n and before another
abbrev pub windows_later : Configuration → ℕ → ℕ → ℕ → ℕ
windows_later c i n end = windows_begun c i (end - window_end c i n)

-- one more window has begun than in the time after the first
rounded : (P f : ℕ) → 0 < P → 0 < f → (f + (P - 1)) / P ≡ suc ((f - P + (P - 1)) / P)
rounded P f positive some = grind (arith, nat_tests)

pub later-within : (c : Configuration) (i n end : ℕ) → suc n % period c i ≡ suc (n % period c i) → windows_later c i (suc n) end ≡ windows_later c i n end
later-within c i n end within = ap (λ w. windows_begun c i (end - (w + period c i))) (window_start-within c i n within)

pub later-begins : (c : Configuration) (i n end : ℕ) → 0 < period c i → suc n % period c i ≡ 0 → suc (n % period c i) ≡ period c i → suc n < end
    → windows_later c i n end ≡ suc (windows_later c i (suc n) end)
later-begins c i n end positive begins full early = grind (arith, nat_tests, rounded)

pub later-start : (c : Configuration) (i s f : ℕ) → 0 < period c i → s % period c i ≡ 0 → 0 < f → windows_begun c i f ≡ suc (windows_later c i s (s + f))
later-start c i s f positive begins some = grind (arith, nat_tests)

-- the kernel's own work of level i until a tick
abbrev pub kernel_left : Configuration → ℕ → ℕ → List Entry → ℕ → ℕ
kernel_left c end n past i = kernel_rem c n past i + release c i * windows_later c i n end

kernel-entry : (c : Configuration) (end i : ℕ) (e : Entry) (past : List Entry) → KernelReady c e past
    → kernel_left c end (length past) (e ∷ past) i + kernel_paid i e ≤ kernel_left c end (length past) past i
kernel-entry c end i e past ready = grind (arith, nat_tests, kernel_paid, paid-le, one_or_none, pays, count-charged)

kernel-moves : (c : Configuration) (end i : ℕ) (e : Entry) (past : List Entry) → 0 < period c i → suc (length past) < end
    → kernel_left c end (suc (length past)) (e ∷ past) i ≤ kernel_left c end (length past) (e ∷ past) i
kernel-moves c end i e past positive early =
    let n = length past in
    elim (mod-next n (period c i) positive) [
      | inl begins ↦
          let later = later-begins c i n end positive begins.0 begins.1 early in
          let product : release c i * windows_later c i n end ≡ release c i + release c i * windows_later c i (suc n) end =
          ap (λ k. release c i * k) later ∙ omega arith in
          omega (arith, product)
      | inr within ↦
          let stays = kernel_rem-moves c i n (e ∷ past) within in
          let same : release c i * windows_later c i (suc n) end ≡ release c i * windows_later c i n end = ap (λ k. release c i * k) (later-within c i n end within) in
          omega (arith, stays, same)
    ]

kernel-start : (c : Configuration) (f i : ℕ) (past : List Entry) → 0 < period c i → length past % period c i ≡ 0 → 0 < f
    → kernel_left c (length past + f) (length past) past i ≤ release c i * windows_begun c i f
kernel-start c f i past positive begins some = grind (arith, nat_tests, later-start)

-- what process q gets at its levels up to b until a tick
abbrev pub process_left : Configuration → ℕ → ℕ → List Entry → ℕ → ℕ → ℕ
process_left c end n past q b =
    process_demand c q b n past + budget c q * (period c b / period c (main_level c q)) * windows_later c b n end

process-goes : (c : Configuration) (end q b : ℕ) (e : Entry) (past : List Entry) → IsChecked c → q < length c.processes → b < length c.levels
    → AllFair c (e ∷ past) → Audited c (e ∷ past)
    → process_left c end (length past) (e ∷ past) q b + process_paid c q b e past ≤ process_left c end (length past) past q b
process-goes c end q b e past checked here known fair audited = grind (arith, nat_tests, process-entry)

-- a window of level b that begins holds no more than was counted for it
whole-window : (c : Configuration) (q b : ℕ) (past : List Entry) → IsChecked c → q < length c.processes → b < length c.levels
    → AllFair c past → Audited c past → length past % period c b ≡ 0
    → process_demand c q b (length past) past ≤ budget c q * (period c b / period c (main_level c q))
whole-window c q b past checked here known fair audited begins = grind (arith, nat_tests, process-begins)

process-on : (c : Configuration) (end q b : ℕ) (e : Entry) (past : List Entry) → IsChecked c → q < length c.processes → b < length c.levels
    → AllFair c (e ∷ past) → Audited c (e ∷ past) → suc (length past) < end
    → process_left c end (suc (length past)) (e ∷ past) q b ≤ process_left c end (length past) (e ∷ past) q b
process-on c end q b e past checked here known fair audited early =
    let n = length past in
    let K = budget c q * (period c b / period c (main_level c q)) in
    let positive = checked.positive b known in
    elim (mod-next n (period c b) positive) [
      | inl begins ↦
          let later = later-begins c b n end positive begins.0 begins.1 early in
          let product : K * windows_later c b n end ≡ K + K * windows_later c b (suc n) end = ap (λ k. K * k) later ∙ omega arith in
          let whole = whole-window c q b (e ∷ past) checked here known fair audited begins.0 in
          omega (arith, product, whole)
      | inr within ↦
          let step = process-moves c q b e past checked here known audited within in
          let same : K * windows_later c b (suc n) end ≡ K * windows_later c b n end = ap (λ k. K * k) (later-within c b n end within) in
          omega (arith, step, same)
    ]

process-start : (c : Configuration) (f q b : ℕ) (past : List Entry) → IsChecked c → q < length c.processes → b < length c.levels
    → AllFair c past → Audited c past → length past % period c b ≡ 0 → 0 < f
    → process_left c (length past + f) (length past) past q b ≤ budgets_begun c q f b
process-start c f q b past checked here known fair audited begins some =
    let n = length past in
    let K = budget c q * (period c b / period c (main_level c q)) in
    let later = later-start c b n f (checked.positive b known) begins some in
    let product : K * windows_begun c b f ≡ K + K * windows_later c b n (n + f) = ap (λ k. K * k) later ∙ omega arith in
    let whole = whole-window c q b past checked here known fair audited begins in
    omega (arith, product, whole)

-- a level that may come before is not slower than the main's
reach-of : (c : Configuration) (p q b : ℕ) → may_come_before c p q ≡ Some b → b ≤ main_level c p
reach-of c p q b is = grind (arith, nat_tests)

-- a thread that is faster than the main of p, or of its level and of a process that stands before, is counted
reached : (c : Configuration) (p : ℕ) (y : Thread) → RowFits c y → y.level ≤ main_level c p → (y.level < main_level c p) ⊎ (y.id.process < p)
    → (b : ℕ) × (may_come_before c p y.id.process ≡ Some b) × (y.level ≤ b)
reached c p y fits le before =
    let q = y.id.process in
    let m = main_level c p in
    let l = main_level c q in
    let low = fits.low in
    let high = fits.high in
    let fast : ltb m l ≡ false = grind (arith, nat_tests) in
    let ahead : ((eqb l m) && leb p q) ≡ false =
    elim before [
      | inl faster ↦ (let other : eqb l m ≡ false = grind (arith, nat_tests) in rw other refl)
      | inr earlier ↦
          let first : leb p q ≡ false = grind (arith, nat_tests) in
          elim (cases_Bool (eqb l m)) [ inl t ↦ rw (t, first) refl | inr t ↦ rw t refl ]
    ] in
    let stands : stands_after c p q ≡ false = rw (fast, ahead) refl in
    elim (cases_Bool (eqb (slots c q) 0)) [
      | inl alone ↦
          let none : slots c q ≡ 0 = grind (arith, nat_tests) in
          (l, rw (stands, alone) refl, elim fits.child [ inl main ↦ omega arith | inr child ↦ absurd (omega arith) ])
      | inr more ↦ (
        min (max_level c q) (slowest_before c p q),
        rw (stands, more) refl,
        elim before [
          | inl faster ↦
              let most : y.level ≤ slowest_before c p q = elim (cases_Bool (ltb q p)) [ inl t ↦ rw t le | inr t ↦ rw t (omega arith) ] in
              omega arith
          | inr earlier ↦
              let first : ltb q p ≡ true = grind (arith, nat_tests) in
              let most : y.level ≤ slowest_before c p q = rw first le in
              omega arith
        ],
      )
    ]

-- all that the levels up to m still need until a tick, of each process at its levels up to the one that is told
abbrev pub work_left : Configuration → ℕ → (ℕ → Option ℕ) → ℕ → ℕ → List Entry → ℕ
work_left c m reach end n past =
    sum_from 0 (suc m) (kernel_left c end n past)
    + sum_from 0 (length c.processes) (λ q. option_map_or (process_left c end n past q) (reach q) 0)

-- what the tick was to it
abbrev pub paid_to : Configuration → (ℕ → Option ℕ) → Entry → List Entry → ℕ
paid_to c reach e past = sum_from 0 (length c.processes) (λ q. option_map_or (λ b. process_paid c q b e past) (reach q) 0)

-- for the main of p
abbrev pub work_ahead : Configuration → ℕ → ℕ → ℕ → List Entry → ℕ
work_ahead c p end n past = work_left c (main_level c p) (may_come_before c p) end n past

abbrev pub paid_before : Configuration → ℕ → Entry → List Entry → ℕ
paid_before c p e past = paid_to c (may_come_before c p) e past

pub each-le : (o : Option ℕ) (f g : ℕ → ℕ) → ((b : ℕ) → o ≡ Some b → f b ≤ g b) → option_map_or f o 0 ≤ option_map_or g o 0
each-le o f g le = grind (arith, nat_tests)

each-falls : (o : Option ℕ) (f g h : ℕ → ℕ) → ((b : ℕ) → o ≡ Some b → f b + g b ≤ h b) → option_map_or f o 0 + option_map_or g o 0 ≤ option_map_or h o 0
each-falls o f g h le = grind (arith, nat_tests)

-- no level that is told is slower than m
abbrev pub ReachesTo : ℕ → (ℕ → Option ℕ) → Type 0
ReachesTo m reach = (q b : ℕ) → reach q ≡ Some b → b ≤ m

pub left-entry : (c : Configuration) (m end : ℕ) (reach : ℕ → Option ℕ) (e : Entry) (past : List Entry) → IsChecked c → m < length c.levels → ReachesTo m reach
    → AllFair c (e ∷ past) → Audited c (e ∷ past) → KernelReady c e past
    → work_left c m reach end (length past) (e ∷ past) + paid_by_kernel m e + paid_to c reach e past ≤ work_left c m reach end (length past) past
left-entry c m end reach e past checked known low fair audited ready =
    let n = length past in
    let N = length c.processes in
    let after : ℕ → ℕ = λ q. option_map_or (process_left c end n (e ∷ past) q) (reach q) 0 in
    let pays : ℕ → ℕ = λ q. option_map_or (λ b. process_paid c q b e past) (reach q) 0 in
    let before : ℕ → ℕ = λ q. option_map_or (process_left c end n past q) (reach q) 0 in
    let kernel = sum_from-le 0 (suc m) (λ i. kernel_left c end n (e ∷ past) i + kernel_paid i e) (kernel_left c end n past)
    (λ i a b. kernel-entry c end i e past ready) in
    let split = sum_from-add 0 (suc m) (kernel_left c end n (e ∷ past)) (λ i. kernel_paid i e) in
    let all = sum_from-le 0 N (λ q. after q + pays q) before
    (λ q from under. each-falls (reach q) (process_left c end n (e ∷ past) q) (λ b. process_paid c q b e past) (process_left c end n past q)
    (λ b is. let most = low q b is in process-goes c end q b e past checked (omega arith) (omega arith) fair audited)) in
    let split' = sum_from-add 0 N after pays in
    omega (arith, kernel, split, all, split')

pub left-moves : (c : Configuration) (m end : ℕ) (reach : ℕ → Option ℕ) (e : Entry) (past : List Entry) → IsChecked c → m < length c.levels → ReachesTo m reach
    → AllFair c (e ∷ past) → Audited c (e ∷ past) → suc (length past) < end
    → work_left c m reach end (suc (length past)) (e ∷ past) ≤ work_left c m reach end (length past) (e ∷ past)
left-moves c m end reach e past checked known low fair audited early =
    let n = length past in
    let N = length c.processes in
    let kernel = sum_from-le 0 (suc m) (kernel_left c end (suc n) (e ∷ past)) (kernel_left c end n (e ∷ past))
    (λ i a b. kernel-moves c end i e past (checked.positive i (omega arith)) early) in
    let all = sum_from-le 0 N (λ q. option_map_or (process_left c end (suc n) (e ∷ past) q) (reach q) 0)
    (λ q. option_map_or (process_left c end n (e ∷ past) q) (reach q) 0)
    (λ q from under. each-le (reach q) (process_left c end (suc n) (e ∷ past) q) (process_left c end n (e ∷ past) q)
    (λ b is. let most = low q b is in process-on c end q b e past checked (omega arith) (omega arith) fair audited early)) in
    omega (arith, kernel, all)

pub left-start : (c : Configuration) (m f : ℕ) (reach : ℕ → Option ℕ) (past : List Entry) → IsChecked c → m < length c.levels → ReachesTo m reach
    → AllFair c past → Audited c past → length past % period c m ≡ 0 → 0 < f
    → work_left c m reach (length past + f) (length past) past
    ≤ sum_from 0 (suc m) (λ i. release c i * windows_begun c i f) + sum_from 0 (length c.processes) (λ q. option_map_or (budgets_begun c q f) (reach q) 0)
left-start c m f reach past checked known low fair audited begins some =
    let n = length past in
    let N = length c.processes in
    let together : (i : ℕ) → i ≤ m → n % period c i ≡ 0 = λ i le. begins-together n (period c i) (period c m) (checked.divides i m le known) begins in
    let kernel = sum_from-le 0 (suc m) (kernel_left c (n + f) n past) (λ i. release c i * windows_begun c i f)
    (λ i a b. kernel-start c f i past (checked.positive i (omega arith)) (together i (omega arith)) some) in
    let all = sum_from-le 0 N (λ q. option_map_or (process_left c (n + f) n past q) (reach q) 0)
    (λ q. option_map_or (budgets_begun c q f) (reach q) 0)
    (λ q from under. each-le (reach q) (process_left c (n + f) n past q) (budgets_begun c q f)
    (λ b is. let most = low q b is in process-start c f q b past checked (omega arith) (omega arith) fair audited (together b most) some)) in
    omega (arith, kernel, all)

pub ahead-entry : (c : Configuration) (p end : ℕ) (e : Entry) (past : List Entry) → IsChecked c → p < length c.processes
    → AllFair c (e ∷ past) → Audited c (e ∷ past) → KernelReady c e past
    → work_ahead c p end (length past) (e ∷ past) + paid_by_kernel (main_level c p) e + paid_before c p e past ≤ work_ahead c p end (length past) past
ahead-entry c p end e past checked here fair audited ready = grind (arith, nat_tests, left-entry, reach-of)

pub ahead-moves : (c : Configuration) (p end : ℕ) (e : Entry) (past : List Entry) → IsChecked c → p < length c.processes
    → AllFair c (e ∷ past) → Audited c (e ∷ past) → suc (length past) < end
    → work_ahead c p end (suc (length past)) (e ∷ past) ≤ work_ahead c p end (length past) (e ∷ past)
ahead-moves c p end e past checked here fair audited early = grind (arith, nat_tests, left-moves, reach-of)

pub ahead-start : (c : Configuration) (p f : ℕ) (past : List Entry) → IsChecked c → p < length c.processes
    → AllFair c past → Audited c past → length past % period c (main_level c p) ≡ 0 → 0 < f
    → level_blocking c (main_level c p) + work_ahead c p (length past + f) (length past) past ≤ ahead c p f
ahead-start c p f past checked here fair audited begins some = grind (arith, nat_tests, left-start, reach-of)

-- a tick of a thread of a level that is told
pub told-paid : (c : Configuration) (b : ℕ) (reach : ℕ → Option ℕ) (e : Entry) (past : List Entry) (y : Thread) → y.id.process < length c.processes → Has (family c y.id.process past) y
    → reach y.id.process ≡ Some b → y.level ≤ b → payer e.label ≡ Some y.id → 1 ≤ paid_to c reach e past
told-paid c b reach e past y here place is le pays =
    let q = y.id.process in
    let fast : leb y.level b ≡ true = grind (arith, nat_tests) in
    let one : spent y.id e ≡ 1 = spent-payer y.id e pays in
    let term = sum_by-term (kept (up_to b) (λ z. spent z.id e)) (family c q past) y place in
    let term' : spent y.id e ≤ process_paid c q b e past = rw fast at term in
    let mine : option_map_or (λ l. process_paid c q l e past) (reach q) 0 ≡ process_paid c q b e past =
    ap (λ o. option_map_or (λ l. process_paid c q l e past) o 0) is in
    let whole = sum_from-term 0 (length c.processes) (λ z. option_map_or (λ l. process_paid c z l e past) (reach z) 0) q (omega arith) (omega arith) in
    omega (arith, one, term', mine, whole)

-- a tick of a thread that is counted
pub counted-paid : (c : Configuration) (p : ℕ) (e : Entry) (past : List Entry) (y : Thread) → RowFits c y → Has (family c y.id.process past) y
    → y.level ≤ main_level c p → (y.level < main_level c p) ⊎ (y.id.process < p) → payer e.label ≡ Some y.id → 1 ≤ paid_before c p e past
counted-paid c p e past y fits place le before pays =
    let r = reached c p y fits le before in
    told-paid c r.0 (may_come_before c p) e past y fits.known place r.1 r.2 pays
