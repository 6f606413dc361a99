-- Who keeps to its allotment in the first ticks of a run that repeats does so for ever.
use Rattle.std.proofs.Common.{ℕ, zero, suc, ◌≡◌, ◌+◌, ◌-◌, ◌*◌, ◌/◌, ◌%◌, ◌<◌, ◌≤◌, ◌∙◌, inl, inr, Bool, true, false, cond, List, ◌∷◌, take, length, Option, Some, None, refl, sym, ap, subst, arith}
use Rattle.std.specs.Prelude.{count_by, max}
use Rattle.std.specs.Option.{option_map_or}
use Rattle.std.proofs.lemmas.Bool.{cases_lt}
use Rattle.std.proofs.Math.Nat.{add-mod-mod, div-add-mod, mod-lt, zero-mod}
use Rattle.dk_config.specs.Configuration.{Configuration}
use Rattle.dk_config.specs.Checked.{IsAccepted, IsChecked}
use Rattle.dk_config.specs.Windows.{main_level, period}
use Rattle.dk_cycle.specs.declared.Cycle.{Cycle}
use Rattle.dk_trace.proofs.Windows.{count_by-cons, mod-next}
use Rattle.dk_trace.specs.declared.Choice.{Choice}
use Rattle.dk_trace.specs.declared.Entry.{Entry}
use Rattle.dk_trace.specs.declared.ThreadId.{ThreadId}
use Rattle.dk_trace.specs.Choices.{chosen}
use Rattle.dk_world.specs.Run.{World, body_step, executes, quiet_step, trace, world}
use Rattle.dk_world.proofs.Lengths.{length-trace}
use Rattle.dk_alone.proofs.Cycles.{begins-cycles, begins-rest, begins-sum}
use Rattle.dk_repeat.specs.Laws.{SpansRepeat}
use Rattle.dk_repeat.specs.Repeat.{RunStandsAgain}
use Rattle.dk_slack_promise.specs.Long.{is_lent_to}
use Rattle.dk_slack_promise.specs.Allotted.{KeepsTo, own_lent}
use Rattle.dk_needs_always.specs.declared.lending.LentWatch.{LentWatch}
use Rattle.dk_needs_always.specs.Lending.{FirstTicksTell, IsLentWatch, IsMostTaken, KeepBefore, TakesAtMost, TakesMoreBefore, TakesMoreIn, slack_had_at}

-- a tick adds its entry
step-adds : (c : Configuration) (w : World) (choice : Choice) (o : Option ThreadId)
    → (e : Entry) × ((option_map_or (body_step c choice w) o (quiet_step choice w)).past ≡ e ∷ w.past)
step-adds c w choice None = (_, refl)
step-adds c w choice (Some x) = (_, refl)

trace-adds : (c : Configuration) (programs : List (List ℕ)) (t : ℕ) → (e : Entry) × (trace c programs (suc t) ≡ e ∷ trace c programs t)
trace-adds c programs t = step-adds c (world c programs t) (chosen c (trace c programs t)) (executes (chosen c (trace c programs t)))

-- what a process had at a tick is counted in the ticks of its window so far
pub lent-counted : (c : Configuration) (programs : List (List ℕ)) (q t : ℕ)
    → slack_had_at c programs q t ≡ count_by (is_lent_to q) (take (t % period c (main_level c q) + 1) (trace c programs (t + 1)))
lent-counted c programs q t =
    let P : ℕ = period c (main_level c q) in
    let long = length-trace c programs (t + 1) in
    let less : t % P ≤ t = omega arith in
    let many : length (trace c programs (t + 1)) - (t - t % P) ≡ t % P + 1 = omega (arith, long, less) in
    ap (λ (k : ℕ). count_by (is_lent_to q) (take k (trace c programs (t + 1)))) many

-- at no tick of a run of which each keeps to his in the first ticks a process has taken more in them
pub keeps-so-far : (c : Configuration) (programs : List (List ℕ)) (s : ℕ → ℕ) (n : ℕ) → KeepBefore c programs s n → KeepsTo c s (trace c programs n)
keeps-so-far c programs s zero keep = tt
keeps-so-far c programs s (suc n) keep =
    let added = trace-adds c programs n in
    let e : Entry = added.0 in
    let before = keeps-so-far c programs s n (λ q here t low. keep q here t (omega (arith, low))) in
    let long = length-trace c programs n in
    let up : n + 1 ≡ suc n = omega arith in
    subst (KeepsTo c s) (sym added.1) (
      before,
      λ q here.
          let now = keep q here n (omega arith) in
          let same : own_lent c n (trace c programs (n + 1)) q ≡ own_lent c (length (trace c programs n)) (e ∷ trace c programs n) q =
          ap (λ (past : List Entry). own_lent c n past q) (ap (trace c programs) up ∙ added.1)
          ∙ ap (λ (k : ℕ). own_lent c k (e ∷ trace c programs n) q) (sym long) in
          omega (arith, now, same),
    )

-- a tick of a later cycle has the slack of the same tick of the first
module _ (spans : SpansRepeat) (c : Configuration) (programs : List (List ℕ)) (s k : ℕ) (checked : IsChecked c) (accepted : IsAccepted c)
    (again : RunStandsAgain c programs s k) where
  same-lent : (q u cycles : ℕ) → main_level c q < length c.levels → u < k → slack_had_at c programs q (s + cycles * k + u) ≡ slack_had_at c programs q (s + u)
  same-lent q u cycles known low =
      let P : ℕ = period c (main_level c q) in
      let positive = checked.positive (main_level c q) known in
      let begins : s % P ≡ 0 = again.begins (main_level c q) known in
      let later : (s + k) % P ≡ 0 = again.begins_later (main_level c q) known in
      let near : (s + u) % P ≡ u % P = aligned s u P begins in
      let whole = begins-sum c q s (cycles * k) begins (begins-cycles c q k cycles (begins-rest c q s k begins later)) in
      let far : (s + cycles * k + u) % P ≡ u % P = aligned (s + cycles * k) u P whole in
      let r : ℕ = u % P in
      let less : r ≤ u = omega arith in
      let m : ℕ = u - r in
      let split : m + (r + 1) ≡ u + 1 = omega (arith, less) in
      let ends : s + cycles * k + m + (r + 1) ≡ s + cycles * k + u + 1 = omega (arith, split) in
      let ends' : s + m + (r + 1) ≡ s + u + 1 = omega (arith, split) in
      lent-counted c programs q (s + cycles * k + u)
      ∙ ap (λ (d : ℕ). count_by (is_lent_to q) (take (d + 1) (trace c programs (s + cycles * k + u + 1)))) far
      ∙ ap (λ (d : ℕ). count_by (is_lent_to q) (take (r + 1) (trace c programs d))) (sym ends)
      ∙ ap (count_by (is_lent_to q)) (spans c programs s k cycles m (r + 1) checked accepted again)
      ∙ ap (λ (d : ℕ). count_by (is_lent_to q) (take (r + 1) (trace c programs d))) ends'
      ∙ ap (λ (d : ℕ). count_by (is_lent_to q) (take (d + 1) (trace c programs (s + u + 1)))) (sym near)
      ∙ sym (lent-counted c programs q (s + u))
    where
      aligned : (a b P : ℕ) → a % P ≡ 0 → (a + b) % P ≡ b % P
      aligned a b P even =
          ap (λ d. d % P) (omega arith) ∙ sym (add-mod-mod b a P) ∙ ap (λ d. (b + d) % P) even ∙ ap (λ d. d % P) (omega arith)

  pub takes-for-ever : (q most : ℕ) → main_level c q < length c.levels → TakesAtMost c programs q (s + k) most → (t : ℕ) → slack_had_at c programs q t ≤ most
  takes-for-ever q most known first t =
      elim (cases_lt t s) [
        | inl early ↦ first t (omega (arith, early))
        | inr from ↦
            let some = again.later in
            let u : ℕ = (t - s) % k in
            let cycles : ℕ = (t - s) / k in
            let parts : k * cycles + u ≡ t - s = div-add-mod (t - s) k in
            let low : u < k = mod-lt (t - s) some in
            let turned : k * cycles ≡ cycles * k = grind arith in
            let at : s + cycles * k + u ≡ t = omega (arith, parts, turned, from) in
            let same = same-lent q u cycles known low in
            let le = first (s + u) (omega (arith, low)) in
            subst (λ (d : ℕ). slack_had_at c programs q d ≤ most) at (omega (arith, same, le))
      ]

pub first-ticks-tell : SpansRepeat → FirstTicksTell
first-ticks-tell spans c programs s start every checked accepted again keep n =
    keeps-so-far c programs s n (λ q here t low. takes-for-ever spans c programs start every checked accepted again q (s q) (checked.levels q here) (keep q here) t)

-- ---- what a watch sees

pub started : (c : Configuration) (programs : List (List ℕ)) (p P : ℕ) → P ≡ period c (main_level c p) → 0 < P
    → IsLentWatch c programs 0 (record { process = p; period = P; passed = 0; lent = 0; most = 0 })
started c programs p P is some = record {
  long = is;
  over = sym (zero-mod _);
  within = some;
  had = refl;
  few = omega arith;
  most = record {
    bound = λ t none. absurd (omega (arith, none));
    reached = λ some. absurd (omega (arith, some));
  };
}

module _ (c : Configuration) (programs : List (List ℕ)) (n : ℕ) (w : LentWatch) (e : Entry) (is : IsLentWatch c programs n w)
    (next : trace c programs (n + 1) ≡ e ∷ trace c programs n) where
  counted : count_by (is_lent_to w.process) (take (w.passed + 1) (trace c programs (n + 1))) ≡ cond (is_lent_to w.process e) 1 0 + w.lent
  counted =
      let one : w.passed + 1 ≡ suc w.passed = omega arith in
      let first : count_by (is_lent_to w.process) (take (suc w.passed) (e ∷ trace c programs n))
      ≡ cond (is_lent_to w.process e) 1 0 + count_by (is_lent_to w.process) (take w.passed (trace c programs n)) =
      count_by-cons (is_lent_to w.process) e (take w.passed (trace c programs n)) in
      ap (λ es. count_by (is_lent_to w.process) (take (w.passed + 1) es)) next
      ∙ ap (λ k. count_by (is_lent_to w.process) (take k (e ∷ trace c programs n))) one
      ∙ first
      ∙ ap (λ d. cond (is_lent_to w.process e) 1 0 + d) (sym is.had)

  -- the slack of its process in the window of the tick
  lent-now : slack_had_at c programs w.process n ≡ cond (is_lent_to w.process e) 1 0 + w.lent
  lent-now =
      lent-counted c programs w.process n
      ∙ ap (λ d. count_by (is_lent_to w.process) (take (d + 1) (trace c programs (n + 1)))) (sym is.over)
      ∙ counted

  bound-now : (lent most : ℕ) → lent ≡ w.lent + cond (is_lent_to w.process e) 1 0 → most ≡ max w.most lent → TakesAtMost c programs w.process (n + 1) most
  bound-now lent most had greater t low =
      elim (cases_lt t n) [
        | inl before ↦ let le = is.most.bound t before in omega (arith, le, greater)
        | inr now ↦
            let same : n ≡ t = omega (arith, low, now) in
            let here = lent-now in
            subst (λ k. slack_had_at c programs w.process k ≤ most) same (omega (arith, here, had, greater))
      ]

  reached-now : (lent most : ℕ) → lent ≡ w.lent + cond (is_lent_to w.process e) 1 0 → most ≡ max w.most lent → 0 < most
      → (t : ℕ) × (t < n + 1) × (slack_had_at c programs w.process t ≡ most)
  reached-now lent most had greater some =
      elim (cases_lt w.most lent) [
        | inl more ↦ let here = lent-now in (n, omega arith, omega (arith, here, had, greater, more))
        | inr no-more ↦
            let before = is.most.reached (omega (arith, some, greater, no-more)) in
            let early = before.1 in
            let was = before.2 in
            (before.0, omega (arith, early), omega (arith, was, greater, no-more))
      ]

  most-now : (lent most : ℕ) → lent ≡ w.lent + cond (is_lent_to w.process e) 1 0 → most ≡ max w.most lent → IsMostTaken c programs w.process (n + 1) most
  most-now lent most had greater = record { bound = bound-now lent most had greater; reached = reached-now lent most had greater }

  one-more : (b : Bool) → cond b 1 0 ≤ 1
  one-more true = omega arith
  one-more false = omega arith

  -- one tick more of the present window
  pub lends-on : (lent most passed : ℕ) → lent ≡ w.lent + cond (is_lent_to w.process e) 1 0 → most ≡ max w.most lent → passed ≡ w.passed + 1 → passed < w.period
      → IsLentWatch c programs (n + 1) (record { process = w.process; period = w.period; passed = passed; lent = lent; most = most })
  lends-on lent most passed had greater more low = record {
    long = is.long;
    over = over;
    within = low;
    had = had ∙ omega arith ∙ sym counted ∙ ap (λ k. count_by (is_lent_to w.process) (take k (trace c programs (n + 1)))) (sym more);
    few = let few = is.few in let one = one-more (is_lent_to w.process e) in omega (arith, few, had, more, one);
    most = most-now lent most had greater;
  }
    where
      P : ℕ
      P = period c (main_level c w.process)

      over : passed ≡ (n + 1) % P
      over =
          let long = is.long in
          let now = is.over in
          let within = is.within in
          let up : n + 1 ≡ suc n = omega arith in
          elim (mod-next n P (omega (arith, long, within))) [
            | inl (none, whole) ↦ absurd (omega (arith, now, whole, more, low, long))
            | inr is-more ↦ let there : suc n % P ≡ (n + 1) % P = ap (λ k. k % P) (sym up) in omega (arith, now, is-more, more, there)
          ]

  -- the window is over
  pub lends-anew : (lent most passed : ℕ) → lent ≡ w.lent + cond (is_lent_to w.process e) 1 0 → most ≡ max w.most lent → passed ≡ w.passed + 1 → w.period ≤ passed
      → IsLentWatch c programs (n + 1) (record { process = w.process; period = w.period; passed = 0; lent = 0; most = most })
  lends-anew lent most passed had greater more high = record {
    long = is.long;
    over = over;
    within = let within = is.within in omega (arith, within);
    had = refl;
    few = omega arith;
    most = most-now lent most had greater;
  }
    where
      P : ℕ
      P = period c (main_level c w.process)

      over : 0 ≡ (n + 1) % P
      over =
          let long = is.long in
          let now = is.over in
          let within = is.within in
          let up : n + 1 ≡ suc n = omega arith in
          elim (mod-next n P (omega (arith, long, within))) [
            | inl (none, whole) ↦ sym none ∙ ap (λ k. k % P) (sym up)
            | inr is-more ↦
                let low = mod-lt (suc n) {m = P} (omega (arith, long, within)) in
                absurd (omega (arith, now, is-more, low, more, high, long))
          ]

-- ---- whether each keeps to its allotment

module _ (c : Configuration) (programs : List (List ℕ)) (s : ℕ → ℕ) (ticks p most : ℕ) (is : IsMostTaken c programs p ticks most) where
  -- who had more than its allotment took more
  pub more-taken : p < length c.processes → s p < most → TakesMoreBefore c programs s ticks
  more-taken known more =
      let reached = is.reached (omega (arith, more)) in
      let had = reached.2 in
      record { process = p; tick = reached.0; known = known; early = reached.1; more = omega (arith, had, more) }

  -- and where it had no more, one process more keeps to its own
  pub one-keeps : ((q : ℕ) → q < p → TakesAtMost c programs q ticks (s q)) → most ≤ s p → (q : ℕ) → q < p + 1 → TakesAtMost c programs q ticks (s q)
  one-keeps before less q low t early =
      elim (cases_lt q p) [
        | inl earlier ↦ before q earlier t early
        | inr last ↦
            let same : p ≡ q = omega (arith, low, last) in
            let bound = is.bound t early in
            subst (λ k. slack_had_at c programs k t ≤ s k) same (omega (arith, bound, less))
      ]

-- somebody takes more up to the second start of the cycle, where that is so many ticks
pub more-by-second : (c : Configuration) (programs : List (List ℕ)) (s : ℕ → ℕ) (told : Option Cycle) (y : Cycle) (ticks : ℕ) → told ≡ Some y
    → ticks ≡ y.start + y.length → TakesMoreBefore c programs s ticks → TakesMoreIn c programs s told
more-by-second c programs s told y ticks is size more z told-is within =
    let same : y ≡ z = ap (λ (o : Option Cycle). option_map_or (λ (x : Cycle). x) o y) (sym is ∙ told-is) in
    subst (λ (x : Cycle). TakesMoreBefore c programs s (x.start + x.length)) same (subst (TakesMoreBefore c programs s) size more)
