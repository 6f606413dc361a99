-- What the levels up to j need and what they had in the window is at most what the configuration says, so slack from the spare of the timeline always fits.
use Rattle.std.proofs.Math.Bool.{and-false}
use Rattle.std.proofs.Common.{ℕ, zero, suc, ◌≡◌, ◌+◌, ◌-◌, ◌%◌, ◌<◌, ◌≤◌, inl, inr, Bool, true, false, cond, ◌||◌, eqb, leb, ltb, List, [], ◌∷◌, length, refl, sym, ap, ◌∙◌, subst, arith}
use Rattle.std.specs.Prelude.{find, take, not, count_by, Option, Some, None, MatchOption, unwrap_or}
use Rattle.std.specs.List.{list_all}
use Rattle.std.specs.Option.{option_map_or}
use Rattle.std.proofs.lemmas.Bool.{cases_Bool, le-leb}
use Rattle.std.proofs.lemmas.Bool.Decides.{nat_tests}
use Rattle.std.proofs.Math.Nat.{zero-mod, mod-lt}
use Rattle.dk_config.specs.Configuration.{Configuration}
use Rattle.dk_config.specs.Sums.{numbers, below, first_of}
use Rattle.dk_config.specs.Windows.{period, window_start, window_end}
use Rattle.dk_config.specs.Certification.{level_demand, spare}
use Rattle.dk_config.specs.Checked.{IsChecked, IsAccepted}
use Rattle.dk_trace.specs.declared.ThreadId.{ThreadId}
use Rattle.dk_trace.specs.declared.Source.{Source}
use Rattle.dk_trace.specs.declared.Entry.{Entry}
use Rattle.dk_trace.specs.Entries.{is_same, payer, kernel_level, window}
use Rattle.dk_trace.specs.Threads.{Thread, family, threads, after_entry, new_rows}
use Rattle.dk_trace.specs.Holds.{blocking}
use Rattle.dk_trace.specs.Slack.{level_of, is_claimed_up_to, unclaimed, overdrawn_at, source}
use Rattle.dk_trace.specs.Demand.{own_demand, remaining_demand, fits_at, fits}
use Rattle.dk_trace.specs.Choices.{chosen, denied, claims_slack_at}
use Rattle.dk_trace.specs.Audit.{Audited}
use Rattle.dk_trace.proofs.Windows.{mod-next, window-goes-on, spent, count_by-cons, count-begins}
use Rattle.dk_config.proofs.Sums.{sum_from-term}
use Rattle.dk_trace.proofs.Starts.{kernel_paid}
use Rattle.dk_trace.proofs.LevelDemand.{paid_by_kernel}
use Rattle.dk_config.proofs.FirstOf.{first_of-is, NoAnswer, IsFirst}
use Rattle.dk_trace.proofs.Labels.{kernel_paid-level, spent-payer}
use Rattle.dk_bound.specs.Statements.{TimelineFits, SourceFits}
use Rattle.dk_trace.specs.Members.{Has}
use Rattle.dk_trace.proofs.Members.{has-flat, flat-has, append-left, map-has, sum_by-term, find-some}
use Rattle.dk_trace.proofs.Whose.{payer-of}
use Rattle.dk_trace.proofs.Fair.{AllFair}
use Rattle.dk_trace.proofs.Entered.{actor-of, same-thread}
use Rattle.dk_trace.proofs.Same.{same-id, same-self}
use Rattle.dk_bound.proofs.Begins.{remaining-begins}
use Rattle.dk_bound.proofs.Demands.{kept, up_to, process_paid, paid_by_threads, remaining-entry, remaining-moves}
use Rattle.dk_bound.proofs.Fits.{Steady, steady-fair, steady-blocks, ready-of}

-- the thread is a row of the past
pub record IsKnown (c : Configuration) (past : List Entry) (x : ThreadId) : Type 0 where
  pub process : ℕ
  pub here : process < length c.processes
  pub row : Thread
  pub among : Has (family c process past) row
  pub same : row.id ≡ x

known-later : (c : Configuration) (e : Entry) (past : List Entry) (x : ThreadId) → IsKnown c past x → IsKnown c (e ∷ past) x
known-later c e past x k = record {
  process = k.process;
  here = k.here;
  row = after_entry e (length past) k.row;
  among = append-left _ (new_rows c k.process e past) _ (map-has (after_entry e (length past)) (family c k.process past) k.row k.among);
  same = k.same;
}

-- who paid for the entry is a row
abbrev pub PayerKnown : Configuration → List Entry → Entry → Type 0
PayerKnown c past e = (x : ThreadId) → payer e.label ≡ Some x → IsKnown c past x

abbrev pub PayersKnown : Configuration → List Entry → List Entry → Type 0
PayersKnown c past [] = Unit {0}
PayersKnown c past (e ∷ es) = PayerKnown c past e × PayersKnown c past es

payers-later : (c : Configuration) (e : Entry) (past es : List Entry) → PayersKnown c past es → PayersKnown c (e ∷ past) es
payers-later c e past [] h = tt
payers-later c e past (f ∷ es) h = (λ x pays. known-later c e past x (h.0 x pays), payers-later c e past es h.1)

payers-take : (c : Configuration) (past : List Entry) (k : ℕ) (es : List Entry) → PayersKnown c past es → PayersKnown c past (take k es)
payers-take c past zero es h = tt
payers-take c past (suc k) [] h = tt
payers-take c past (suc k) (f ∷ es) h = (h.0, payers-take c past k es h.1)

pub payer-known : (c : Configuration) (e : Entry) (past : List Entry) → AllFair c (e ∷ past) → Audited c (e ∷ past) → PayerKnown c past e
payer-known c e past fair audited x pays =
    let a = actor-of c past (chosen c past) e x fair.1 audited.1.choice (payer-of x e pays) in
    let r = has-flat (λ q. family c q past) 0 (length c.processes) a.who a.among in
    record { process = r.0; here = omega (arith, r.1); row = a.who; among = r.2; same = sym a.same }

pub payers-known : (c : Configuration) (past : List Entry) → AllFair c past → Audited c past → PayersKnown c past past
payers-known c [] fair audited = tt
payers-known c (e ∷ past) fair audited = (
  λ x pays. known-later c e past x (payer-known c e past fair audited x pays),
  payers-later c e past past (payers-known c past fair.0 audited.0),
)

-- the level that the past knows of a row
pub level-known : (c : Configuration) (past : List Entry) (x : ThreadId) (k : IsKnown c past x) → IsChecked c → Audited c past
    → level_of (threads c past) x ≡ Some k.row.level
level-known c past x k checked audited =
    let y = k.row in
    let among : Has (threads c past) y = flat-has (λ q. family c q past) 0 (length c.processes) k.process y (omega arith) (omega (arith, k.here)) k.among in
    let r = find-some (λ z. is_same y.id z.id) (threads c past) y among (same-self y.id) in
    let same : r.0 ≡ y = same-thread c k.process past y r.0 checked k.here audited k.among r.1 (same-id y.id r.0.id r.2) in
    let found : find (λ z. is_same y.id z.id) (threads c past) ≡ Some y = r.3 ∙ ap Some same in
    let at : level_of (threads c past) y.id ≡ Some y.level = ap (λ o. option_map_or (λ z. Some z.level) o None) found in
    subst (λ i. level_of (threads c past) i ≡ Some y.level) k.same at

level-stays : (c : Configuration) (e : Entry) (past : List Entry) (x : ThreadId) → IsKnown c past x → IsChecked c → Audited c (e ∷ past)
    → level_of (threads c (e ∷ past)) x ≡ level_of (threads c past) x
unfolding known-later
level-stays c e past x k checked audited =
    level-known c (e ∷ past) x (known-later c e past x k) checked audited ∙ sym (level-known c past x k checked audited.0)

claimed-stays : (c : Configuration) (j : ℕ) (e : Entry) (past : List Entry) (f : Entry) → PayerKnown c past f → IsChecked c → Audited c (e ∷ past)
    → is_claimed_up_to (threads c (e ∷ past)) j f ≡ is_claimed_up_to (threads c past) j f
claimed-stays c j e past f known checked audited =
    ap (λ b. option_map_or (λ i. leb i j) (kernel_level f.label) false || b) (go (payer f.label) (λ x is. known x is))
  where
    go : (o : Option ThreadId) → ((x : ThreadId) → o ≡ Some x → IsKnown c past x)
        → option_map_or (λ x. option_map_or (λ i. leb i j) (level_of (threads c (e ∷ past)) x) false) o false
        ≡ option_map_or (λ x. option_map_or (λ i. leb i j) (level_of (threads c past) x) false) o false
    go None k = refl
    go (Some x) k = ap (λ o. option_map_or (λ i. leb i j) o false) (level-stays c e past x (k x refl) checked audited)

claims-stay : (c : Configuration) (j : ℕ) (e : Entry) (past es : List Entry) → PayersKnown c past es → IsChecked c → Audited c (e ∷ past)
    → count_by (is_claimed_up_to (threads c (e ∷ past)) j) es ≡ count_by (is_claimed_up_to (threads c past) j) es
claims-stay c j e past [] known checked audited = refl
claims-stay c j e past (f ∷ es) known checked audited =
    let number : Bool → ℕ = λ b. cond b 1 0 in
    let here = ap number (claimed-stays c j e past f known.0 checked audited) in
    let rest = claims-stay c j e past es known.1 checked audited in
    let a = count_by-cons (is_claimed_up_to (threads c (e ∷ past)) j) f es in
    let b = count_by-cons (is_claimed_up_to (threads c past) j) f es in
    omega (arith, here, rest, a, b)

-- an entry that is claimed up to j was paid for at a level up to j
pub claimed-paid : (c : Configuration) (j : ℕ) (e : Entry) (past : List Entry) → IsChecked c → AllFair c (e ∷ past) → Audited c (e ∷ past)
    → cond (is_claimed_up_to (threads c (e ∷ past)) j e) 1 0 ≤ paid_by_kernel j e + paid_by_threads c j e past
claimed-paid c j e past checked fair audited =
    rw (claimed-stays c j e past e (payer-known c e past fair audited) checked audited) (either
    (option_map_or (λ i. leb i j) (kernel_level e.label) false)
    (option_map_or (λ x. option_map_or (λ i. leb i j) (level_of (threads c past) x) false) (payer e.label) false)
    (λ h. by-kernel (kernel_level e.label) refl h) (λ h. by-thread (payer e.label) refl h))
  where
    either : (a b : Bool) → (a ≡ true → 1 ≤ paid_by_kernel j e + paid_by_threads c j e past) → (b ≡ true → 1 ≤ paid_by_kernel j e + paid_by_threads c j e past)
        → cond (a || b) 1 0 ≤ paid_by_kernel j e + paid_by_threads c j e past
    either true b f g = f refl
    either false true f g = g refl
    either false false f g = omega arith

    by-kernel : (o : Option ℕ) → kernel_level e.label ≡ o → option_map_or (λ i. leb i j) o false ≡ true
        → 1 ≤ paid_by_kernel j e + paid_by_threads c j e past
    by-kernel None is h = absurd (cc)
    by-kernel (Some i) is h =
        let le : i ≤ j = grind (arith, nat_tests) in
        let one : kernel_paid i e ≡ 1 = kernel_paid-level i e is in
        omega (arith, sum_from-term 0 (suc j) (λ i. kernel_paid i e) i (omega arith) (omega arith), one)

    by-thread : (o : Option ThreadId) → payer e.label ≡ o
        → option_map_or (λ x. option_map_or (λ i. leb i j) (level_of (threads c past) x) false) o false ≡ true
        → 1 ≤ paid_by_kernel j e + paid_by_threads c j e past
    by-thread None is h = absurd (cc)
    by-thread (Some x) is h =
        let k = payer-known c e past fair audited x is in
        let y = k.row in
        let level = level-known c past x k checked audited.0 in
        let fast : leb y.level j ≡ true = rw level at h in
        let pays : payer e.label ≡ Some y.id = is ∙ ap Some (sym k.same) in
        let one : spent y.id e ≡ 1 = spent-payer y.id e pays in
        let term = sum_by-term (kept (up_to j) (λ x. spent x.id e)) (family c k.process past) y k.among in
        let term' : spent y.id e ≤ process_paid c k.process j e past = rw fast at term in
        let whole = sum_from-term 0 (length c.processes) (λ p. process_paid c p j e past) k.process (omega arith) (omega (arith, k.here)) in
        omega (arith, term', whole, one)

-- the ticks of level j's window that the levels up to j claimed
abbrev pub claimed : Configuration → ℕ → List Entry → ℕ → ℕ
claimed c now past j = count_by (is_claimed_up_to (threads c past) j) (window c now past j)

-- what the levels up to j need and had is at most what the configuration says
pub demand-and-claims : (c : Configuration) (j : ℕ) (past : List Entry) → IsChecked c → j < length c.levels → AllFair c past → Audited c past
    → remaining_demand c (length past) past j + claimed c (length past) past j ≤ level_demand c j
demand-and-claims c j [] checked known fair audited =
    let all = remaining-begins c j [] checked known fair audited (zero-mod (period c j)) in
    let none = count-begins (is_claimed_up_to (threads c []) j) c [] j (zero-mod (period c j)) in
    omega (arith, all, none)
demand-and-claims c j (e ∷ past) checked known fair audited =
    let n = length past in
    elim (mod-next n (period c j) (checked.positive j known)) [
      | inl begins ↦
          let all = remaining-begins c j (e ∷ past) checked known fair audited begins.0 in
          let none = count-begins (is_claimed_up_to (threads c (e ∷ past)) j) c (e ∷ past) j begins.0 in
          omega (arith, all, none)
      | inr long ↦
          let before = demand-and-claims c j past checked known fair.0 audited.0 in
          let test = is_claimed_up_to (threads c (e ∷ past)) j in
          let entries = window c n past j in
          let more : claimed c (suc n) (e ∷ past) j ≡ cond (test e) 1 0 + count_by test entries =
          ap (count_by test) (window-goes-on c e past j long) ∙ count_by-cons test e entries in
          let known_before : PayersKnown c past entries = payers-take c past (n - window_start c j n) past (payers-known c past fair.0 audited.0) in
          let same = claims-stay c j e past entries known_before checked audited in
          let paid = claimed-paid c j e past checked fair audited in
          let step = remaining-entry c j e past checked known fair audited (ready-of c e past fair audited) in
          let moves = remaining-moves c j e past checked known audited long in
          omega (arith, before, more, same, paid, step, moves)
    ]

count-split : (test : Entry → Bool) (es : List Entry) → count_by test es + count_by (λ e. not (test e)) es ≡ length es
count-split test [] = refl
count-split test (e ∷ es) =
    let rest = count-split test es in
    let a = count_by-cons test e es in
    let b = count_by-cons (λ e. not (test e)) e es in
    let one : cond (test e) 1 0 + cond (not (test e)) 1 0 ≡ 1 = elim (cases_Bool (test e)) [ inl t ↦ rw t refl | inr f ↦ rw f refl ] in
    omega (arith, rest, a, b, one)

length-take : (k : ℕ) (es : List Entry) → k ≤ length es → length (take k es) ≡ k
length-take zero es h = refl
length-take (suc k) [] h = absurd (omega arith)
length-take (suc k) (e ∷ es) h = let rest = length-take k es (omega arith) in omega arith

all-true : (test : ℕ → Bool) (low n : ℕ) → ((k : ℕ) → low ≤ k → k < low + n → test k ≡ true) → list_all test (numbers low n) ≡ true
all-true test low zero h = refl
all-true test low (suc n) h = grind (arith, nat_tests, all-true test (suc low) n)

spare-left : (c : Configuration) (n : ℕ) (past : List Entry) (j : ℕ) → source c n past ≡ Source.Timeline → j < length c.levels
    → unclaimed c n past j < spare c j
spare-left c n past j is known = go (first_of (overdrawn_at c n past) (below (length c.levels))) refl is
  where
    go : (o : Option ℕ) → first_of (overdrawn_at c n past) (below (length c.levels)) ≡ o → option_map_or Source.Reclaimed o Source.Timeline ≡ Source.Timeline
        → unclaimed c n past j < spare c j
    go (Some k) at h = absurd (cc)
    go None at h =
        let N = length c.levels in
        let f = overdrawn_at c n past in
        let free : NoAnswer f 0 (0 + N) = subst (λ o. MatchOption o (NoAnswer f 0 (0 + N)) (IsFirst f 0 (0 + N))) at (first_of-is f 0 N) in
        let none : overdrawn_at c n past j ≡ None = free j (omega arith) (omega arith) in
        elim (cases_Bool (ltb (unclaimed c n past j) (spare c j))) [
          | inl less ↦ grind (arith, nat_tests)
          | inr over ↦ let some : Some j ≡ None = rw over at none in absurd (cc)
        ]

-- while each level has spare ticks left, slack fits
pub spare-fits : (c : Configuration) (past : List Entry) → IsChecked c → IsAccepted c → Steady c past → Audited c past
    → ((j : ℕ) → j < length c.levels → unclaimed c (length past) past j < spare c j) → fits c (length past) past ≡ true
spare-fits c past checked accepted steady audited left =
    all-true (fits_at c (length past) past) 0 (length c.levels) (λ j a b. at j (omega arith))
  where
    at : (j : ℕ) → j < length c.levels → fits_at c (length past) past j ≡ true
    at j known =
        let n = length past in
        let all = demand-and-claims c j past checked known (steady-fair c past steady) audited in
        let blocks = steady-blocks c past steady j known in
        let less = left j known in
        let low : n % period c j < period c j = mod-lt n (checked.positive j known) in
        let size : length (window c n past j) ≡ n - window_start c j n = length-take (n - window_start c j n) past (omega arith) in
        let split = count-split (is_claimed_up_to (threads c past) j) (window c n past j) in
        let room : remaining_demand c n past j + blocking c past j + 1 ≤ window_end c j n - n = omega (arith, all, blocks, less, size, split, low, accepted j known) in
        let test : leb (remaining_demand c n past j + blocking c past j + 1) (window_end c j n - n) ≡ true = le-leb _ _ room in
        elim (cases_Bool (eqb (own_demand c n past j) 0)) [ inl none ↦ rw none refl | inr some ↦ rw some test ]

fits-undenied : (c : Configuration) (past : List Entry) → fits c (length past) past ≡ true → denied c past ≡ None
fits-undenied c past fitting = rw (fitting, and-false (unwrap_or (first_of (claims_slack_at c past) (below (length c.levels))) false)) refl

pub timeline-fits : (c : Configuration) (past : List Entry) → IsChecked c → IsAccepted c → Steady c past → Audited c past → TimelineFits c past
timeline-fits c past checked accepted steady audited left =
    let fitting = spare-fits c past checked accepted steady audited left in (fitting, fits-undenied c past fitting)

pub source-fits : (c : Configuration) (past : List Entry) → IsChecked c → IsAccepted c → Steady c past → Audited c past → SourceFits c past
source-fits c past checked accepted steady audited is =
    spare-fits c past checked accepted steady audited (λ j known. spare-left c (length past) past j is known)
