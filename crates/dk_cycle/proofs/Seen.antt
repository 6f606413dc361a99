-- What is seen of a main's windows up to a tick, and what it says of every run.
use Rattle.dk_cycle.proofs.Names.{ℕ, suc, ◌≡◌, ◌+◌, ◌*◌, ◌/◌, ◌%◌, ◌<◌, ◌≤◌, ◌∙◌, ◌||◌, inl, inr, Bool, true, false, List, [], ◌∷◌, take, Option, Some, None, refl, sym, ap, subst, arith, IfSome, slice_index_or, list_any, div-add-mod, mod_self, mul-le-mul_right, zero-mod, cases_Bool, cases_lt, Configuration, IsChecked, IsAccepted, period, main_level, Entry, trace, KeepsToItself, alone, entries_of, is_of_process, ProcessStandsAgain, WindowBegins, own_window, window_from, FirstWindowsTell, WindowsAsAlone, filter-in, filter-out, other-main, begins-sum, Cycle, Keeping, WaitWatch, IsKeeping, HasProgram, IsFirstMissed, IsWaitWatch, IsWaits, WaitedBefore, WaitsAreTold, WaitsBefore, first_missed, main_waits, waits_by, waits_in, waits_of}
use Rattle.dk_cycle.specs.declared.keeping.Keeping.TheVariants as kind

-- of two multiples of a number the greater is greater by it at least
pub apart : (P t m : ℕ) → t % P ≡ 0 → m % P ≡ 0 → t < m → t + P ≤ m
apart P t m begins ends less =
    let a = div-add-mod t P in
    let b = div-add-mod m P in
    elim (cases_lt (t / P) (m / P)) [
      | inl low ↦
          let most = mul-le-mul_right {m = t / P + 1} {n = m / P} P (omega (arith, low)) in
          let one : (t / P + 1) * P ≡ P * (t / P) + P = grind arith in
          let other : m / P * P ≡ P * (m / P) = grind arith in
          omega (arith, a, b, begins, ends, most, one, other)
      | inr high ↦
          let most = mul-le-mul_right {m = m / P} {n = t / P} P (omega (arith, high)) in
          let one : t / P * P ≡ P * (t / P) = grind arith in
          let other : m / P * P ≡ P * (m / P) = grind arith in
          absurd (omega (arith, a, b, begins, ends, most, one, other, less))
    ]

cases-missed : (missed : Option ℕ) (waited : Bool) (tick : ℕ) → first_missed missed waited tick ≡ None → (missed ≡ None) × (waited ≡ true)
cases-missed None true tick none = (refl, refl)
cases-missed None false tick none = absurd (cc)
cases-missed (Some t) waited tick none = absurd (cc)

with-missed : (missed : Option ℕ) (waited : Bool) (tick : ℕ) (P : ℕ → Type 0) → IfSome missed P → (missed ≡ None → waited ≡ false → P tick)
    → IfSome (first_missed missed waited tick) P
with-missed None true tick P old new = tt
with-missed None false tick P old new = new refl refl
with-missed (Some t) waited tick P old new = old

pub started : (c : Configuration) (programs : List (List ℕ)) (p P : ℕ) → P ≡ period c (main_level c p) → 0 < P
    → IsWaitWatch c programs 0 (record { process = p; period = P; begins = 0; passed = 0; waited = false; missed = None })
started c programs p P period some = record {
  period = period;
  begins = zero-mod _;
  now = refl;
  within = some;
  waited = refl;
  seen = λ none t at low. absurd (omega (arith, low, some, period));
  missed = tt;
}

waits-more : (c : Configuration) (programs : List (List ℕ)) (n : ℕ) (w : WaitWatch) (e : Entry) (waited : Bool) (passed : ℕ) → IsWaitWatch c programs n w
    → trace c programs (n + 1) ≡ e ∷ trace c programs n → waited ≡ (main_waits w.process e || w.waited) → passed ≡ w.passed + 1
    → waited ≡ list_any (main_waits w.process) (take passed (trace c programs (n + 1)))
waits-more c programs n w e waited passed is next waits more =
    let one : passed ≡ suc w.passed = omega (arith, more) in
    waits ∙ ap (λ b. main_waits w.process e || b) is.waited
    ∙ sym (ap (λ k. list_any (main_waits w.process) (take k (e ∷ trace c programs n))) one)
    ∙ sym (ap (λ es. list_any (main_waits w.process) (take passed es)) next)

-- one tick more of the present window
pub gone-on : (c : Configuration) (programs : List (List ℕ)) (n : ℕ) (w : WaitWatch) (e : Entry) (waited : Bool) (passed : ℕ) → IsWaitWatch c programs n w
    → trace c programs (n + 1) ≡ e ∷ trace c programs n → waited ≡ (main_waits w.process e || w.waited) → passed ≡ w.passed + 1 → passed < w.period
    → IsWaitWatch c programs (n + 1) (record w { passed = passed; waited = waited })
gone-on c programs n w e waited passed is next waits more low = record {
  period = is.period;
  begins = is.begins;
  now = let now = is.now in omega (arith, now, more);
  within = low;
  waited = waits-more c programs n w e waited passed is next waits more;
  seen = is.seen;
  missed = is.missed;
}

-- the window is over
pub window-over : (c : Configuration) (programs : List (List ℕ)) (n : ℕ) (w : WaitWatch) (e : Entry) (waited : Bool) (passed : ℕ) → IsWaitWatch c programs n w
    → trace c programs (n + 1) ≡ e ∷ trace c programs n → waited ≡ (main_waits w.process e || w.waited) → passed ≡ w.passed + 1 → w.period ≤ passed
    → IsWaitWatch c programs (n + 1)
    (record { process = w.process; period = w.period; begins = w.begins + passed; passed = 0; waited = false; missed = first_missed w.missed waited w.begins })
window-over c programs n w e waited passed is next waits more high = record {
  period = is.period;
  begins = subst (WindowBegins c w.process) (ap (λ m. w.begins + m) (sym whole)) (begins-sum c w.process w.begins (period c (main_level c w.process)) is.begins (mod_self (period c (main_level c w.process))));
  now = omega (arith, now, more);
  within = omega (arith, low);
  waited = refl;
  seen = λ none t at before.
      let both = cases-missed w.missed waited w.begins none in
      elim (cases_lt t w.begins) [
        | inl early ↦
            let room = apart (period c (main_level c w.process)) t w.begins at is.begins early in
            is.seen both.0 t at room
        | inr late ↦
            let same : w.begins ≡ t = omega (arith, late, before, whole) in
            subst (λ k. waits_in c programs w.process k ≡ true) same (sym here ∙ both.1)
      ];
  missed = with-missed w.missed waited w.begins (IsFirstMissed c programs w.process) is.missed
      (λ none off. record { begins = is.begins; missed = sym here ∙ off; first = is.seen none });
}
  where
    low : w.passed < w.period
    low = is.within

    now : w.begins + w.passed ≡ n
    now = is.now

    long : w.period ≡ period c (main_level c w.process)
    long = is.period

    whole : passed ≡ period c (main_level c w.process)
    whole = omega (arith, low, more, high, long)

    here : waited ≡ waits_in c programs w.process w.begins
    here =
        let ends : n + 1 ≡ w.begins + period c (main_level c w.process) = omega (arith, now, more, whole) in
        waits-more c programs n w e waited passed is next waits more
        ∙ ap (λ k. list_any (main_waits w.process) (take passed (trace c programs k))) ends
        ∙ ap (λ k. list_any (main_waits w.process) (take k (trace c programs (w.begins + period c (main_level c w.process))))) whole

-- ---- what it says of every run

any-own : (p : ℕ) (es : List Entry) → list_any (main_waits p) es ≡ list_any (main_waits p) (entries_of p es)
any-own p [] = refl
any-own p (e ∷ es) =
    let rest = any-own p es in
    elim (cases_Bool (is_of_process p e)) [
      | inl is ↦ ap (λ b. main_waits p e || b) rest ∙ ap (list_any (main_waits p)) (sym (filter-in p e es is))
      | inr other ↦
          let off = other-main p e other in
          let none : main_waits p e ≡ false = rw off refl in
          ap (λ b. b || list_any (main_waits p) es) none ∙ rest ∙ ap (list_any (main_waits p)) (sym (filter-out p e es other))
    ]

module _ (windows : WindowsAsAlone) (tells : FirstWindowsTell) (c : Configuration) (programs : List (List ℕ)) (p : ℕ) (checked : IsChecked c) (accepted : IsAccepted c)
    (keeps : KeepsToItself c p (slice_index_or programs p [])) where
  abbrev P : ℕ
  P = period c (main_level c p)

  -- a window has the same entries of the process in both runs
  beside-others : (others : List (List ℕ)) (tick : ℕ) → HasProgram programs others p → WindowBegins c p tick → waits_in c others p tick ≡ waits_in c programs p tick
  beside-others others tick agree begins =
      let ends = begins-sum c p tick P begins (mod_self P) in
      let same : own_window c others p tick ≡ own_window c programs p tick =
      windows c others p tick P checked accepted (subst (KeepsToItself c p) agree keeps) begins ends
      ∙ ap (λ program. entries_of p (take P (alone c p program (tick + P)).past)) (sym agree)
      ∙ sym (windows c programs p tick P checked accepted keeps begins ends) in
      any-own p (window_from c others p tick) ∙ ap (list_any (main_waits p)) same ∙ sym (any-own p (window_from c programs p tick))

  always : (s k tick : ℕ) (w : WaitWatch) → w.process ≡ p → w.missed ≡ None → IsWaitWatch c programs tick w → s + k ≤ tick → ProcessStandsAgain c programs p s k
      → (others : List (List ℕ)) (t : ℕ) → HasProgram programs others p → WindowBegins c p t → waits_in c others p t ≡ true
  always s k tick w own none is within again = λ others t agree begins.
      any-own p (window_from c others p t)
      ∙ tells c programs others p s k (list_any (main_waits p)) checked accepted keeps agree again
      (λ t at early. sym (any-own p (window_from c programs p t)) ∙ seen t at early) t begins
    where
      long : w.period ≡ P
      long = is.period ∙ ap (λ q. period c (main_level c q)) own

      begins : WindowBegins c p w.begins
      begins = subst (λ q. WindowBegins c q w.begins) own is.begins

      -- the windows up to the later tick are over
      reached : s + k ≤ w.begins
      reached =
          elim (cases_lt w.begins (s + k)) [
            | inl early ↦
                let room = apart P w.begins (s + k) begins again.begins_later early in
                let now = is.now in
                let low = is.within in
                absurd (omega (arith, room, now, low, within, long))
            | inr late ↦ late
          ]

      seen : (t : ℕ) → WindowBegins c p t → t < s + k → waits_in c programs p t ≡ true
      seen t at early =
          let room = apart P t (s + k) at again.begins_later early in
          subst (λ q. WaitedBefore c programs q w.begins) own (is.seen none) t at (omega (arith, room, reached))

  -- what one run shows of the windows before a tick is so in all
  before-others : (tick : ℕ) → WaitedBefore c programs p tick → WaitsBefore c programs p tick
  before-others tick waited others agree t begins over = beside-others others t agree begins ∙ waited t begins over

  -- the windows that are over by the present tick
  so-far : (n : ℕ) (w : WaitWatch) → w.process ≡ p → w.missed ≡ None → IsWaitWatch c programs n w → WaitedBefore c programs p n
  so-far n w own none is t at over = subst (λ q. WaitedBefore c programs q w.begins) own (is.seen none) t at reached
    where
      begins : WindowBegins c p w.begins
      begins = subst (λ q. WindowBegins c q w.begins) own is.begins

      reached : t + P ≤ w.begins
      reached =
          elim (cases_lt w.begins (t + P)) [
            | inl early ↦
                let room = apart P w.begins (t + P) begins (begins-sum c p t P at (mod_self P)) early in
                let now = is.now in
                let low = is.within in
                let long : w.period ≡ P = is.period ∙ ap (λ q. period c (main_level c q)) own in
                absurd (omega (arith, room, now, low, over, long))
            | inr late ↦ late
          ]

  by-missed : (n : ℕ) (w : WaitWatch) (missed : Option ℕ) (cycle : Option Cycle) → w.process ≡ p → w.missed ≡ missed → IsWaitWatch c programs n w
      → IfSome cycle (λ y. ProcessStandsAgain c programs p y.start y.length) → IfSome cycle (λ y. y.start + y.length ≤ n) → IsWaits c programs p n (waits_of missed cycle)
  by-missed n w (Some t) cycle own some is again within =
      let m : IsFirstMissed c programs p t =
      subst (λ q. IsFirstMissed c programs q t) own (subst (λ (o : Option ℕ). IfSome o (IsFirstMissed c programs w.process)) some is.missed) in
      record { begins = m.begins; missed = λ others agree. beside-others others t agree m.begins ∙ m.missed; first = before-others t m.first }
  by-missed n w None (Some y) own none is again within = always y.start y.length n w own none is within again
  by-missed n w None None own none is again within = record { keeps = keeps; waits = before-others n (so-far n w own none is) }

by-keeping : (c : Configuration) (programs : List (List ℕ)) (p n : ℕ) (keeping : Keeping) (missed : Option ℕ) (cycle : Option Cycle)
    → IsKeeping c p (slice_index_or programs p []) keeping → (KeepsToItself c p (slice_index_or programs p []) → IsWaits c programs p n (waits_of missed cycle))
    → IsWaits c programs p n (waits_by keeping missed cycle)
by-keeping c programs p n kind.Keeps missed cycle is told = told is
by-keeping c programs p n kind.ReadsTick missed cycle is told = (λ same. absurd (cc), is)
by-keeping c programs p n kind.HasThreads missed cycle is told = (λ same. absurd (cc), is)
by-keeping c programs p n kind.HasSlack missed cycle is told = (λ same. absurd (cc), is)

pub waits-are-told : WindowsAsAlone → FirstWindowsTell → WaitsAreTold
waits-are-told windows tells c programs tick search watch checked accepted is seen own =
    by-keeping c programs search.process tick search.keeping watch.missed search.cycle is.keeping (λ keeps.
    by-missed windows tells c programs search.process checked accepted keeps tick watch watch.missed search.cycle own refl seen is.cycle is.within)
