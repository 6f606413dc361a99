-- The least start of a cycle of a run.
use Rattle.dk_cycle.proofs.Names.{ℕ, ◌≡◌, ◌+◌, ◌-◌, ◌*◌, ◌/◌, ◌%◌, ◌<◌, ◌≤◌, ◌∙◌, ◌∷◌, inl, inr, true, false, List, Option, Some, None, refl, sym, ap, subst, arith, IfSome, nat_eq, div-add-mod, mul-le-mul_right, mod_below, cases_eq, nat_tests, Configuration, IsChecked, IsAccepted, Entry, world, trace, ReadsNoTickNext, RunStandsAgain, ThreadsStandAlike, WindowsBegin, entry_at, EntriesKeepThreads, RunsRepeatForEver, EntriesShowReads, Cycle, RunSearch, StartSearch, GoesOn, IsLongest, IsReader, IsRunSearch, KeepsThreadsFrom, KeepsThreadsIn, IsLoud, IsStartSearch, Opens, Shuts, with_start}
use Rattle.dk_cycle.proofs.Stands.{begins-all, entry-there}

-- ---- a run that stands again makes and stops no thread any more

-- from the start of a cycle on in which none is made or stopped
pub keeps-later : (c : Configuration) (programs : List (List ℕ)) (s k n : ℕ) → RunsRepeatForEver → IsChecked c → IsAccepted c → RunStandsAgain c programs s k
    → KeepsThreadsFrom c programs s k → s ≤ n → KeepsThreadsIn c programs n
keeps-later c programs s k n law checked accepted again keeps low = λ e is.
    let q = (n - s) / k in
    let m = (n - s) % k in
    let parts = div-add-mod (n - s) k in
    let below = mod_below (n - s) k again.later in
    let order : k * q ≡ q * k = grind arith in
    let sum : n ≡ s + q * k + m = omega (arith, parts, order, low) in
    keeps (s + m) (omega arith) (omega (arith, below)) e
    (sym (law c programs s k q m checked accepted again) ∙ ap (entry_at c programs) (sym sum) ∙ is)

-- from any tick on at which it stands again as much later
pub keeps-from : (c : Configuration) (programs : List (List ℕ)) (y : Cycle) (t n : ℕ) → RunsRepeatForEver → IsChecked c → IsAccepted c
    → RunStandsAgain c programs y.start y.length → KeepsThreadsFrom c programs y.start y.length → RunStandsAgain c programs t y.length → t ≤ n
    → KeepsThreadsIn c programs n
keeps-from c programs y t n law checked accepted again keeps other low = λ e is.
    let some = again.later in
    let many = mul-le-mul_right {m = 1} {n = y.length} y.start (omega (arith, some)) in
    let one : 1 * y.start ≡ y.start = grind arith in
    let order : y.length * y.start ≡ y.start * y.length = grind arith in
    let late : y.start ≤ t + y.start * y.length + (n - t) = omega (arith, many, one, order) in
    let there : t + (n - t) ≡ n = omega (arith, low) in
    keeps-later c programs y.start y.length (t + y.start * y.length + (n - t)) law checked accepted again keeps late e
    (law c programs t y.length y.start (n - t) checked accepted other ∙ ap (entry_at c programs) there ∙ is)

-- ---- what is seen up to a tick

pub start-begun : (c : Configuration) (programs : List (List ℕ)) (longest : ℕ) → IsLongest c longest → IsStartSearch c programs 0 (record { longest = longest; quiet = 0 })
start-begun c programs longest is = record {
  longest = is;
  threads = λ t low high.
      let same : t ≡ 0 = omega (arith, high) in
      subst (λ n. ThreadsStandAlike c (trace c programs n) (trace c programs 0)) (sym same) (λ p known. refl);
  clock = λ n low high. absurd (omega (arith, high));
  loud = λ t less. absurd (omega (arith, less));
}

-- nothing of it in one tick more
pub start-quiet : (c : Configuration) (programs : List (List ℕ)) (tick : ℕ) (s : StartSearch) (e : Entry) (reader : Option ℕ) → EntriesKeepThreads → EntriesShowReads
    → IsChecked c → IsAccepted c → IsStartSearch c programs tick s → trace c programs (tick + 1) ≡ e ∷ trace c programs tick → IsReader c programs tick e reader
    → GoesOn true e reader → IsStartSearch c programs (tick + 1) s
start-quiet c programs tick s e reader keeping showing checked accepted is adds here goes =
    let shows = showing c programs tick e checked accepted adds in
    let alike : ThreadsStandAlike c (trace c programs tick) (e ∷ trace c programs tick) = keeping c e (trace c programs tick) goes.keeps in
    let next : ThreadsStandAlike c (trace c programs tick) (trace c programs (tick + 1)) =
    subst (λ es. ThreadsStandAlike c (trace c programs tick) es) (sym adds) alike in
    let quiet : ReadsNoTickNext c (world c programs tick) =
    shows.quiet goes.keeps (subst (λ (o : Option ℕ). IsReader c programs tick e o) goes.none here) in
    record {
      longest = is.longest;
      threads = λ t low high.
          elim (cases_eq (tick + 1) t) [
            | inl same ↦ subst (λ n. ThreadsStandAlike c (trace c programs n) (trace c programs (tick + 1))) same (λ p known. refl)
            | inr other ↦ λ p known. is.threads t low (omega (arith, high, other)) p known ∙ next p known
          ];
      clock = λ n low high.
          elim (cases_eq tick n) [
            | inl same ↦ subst (λ t. ReadsNoTickNext c (world c programs t)) same quiet
            | inr other ↦ is.clock n low (omega (arith, high, other))
          ];
      loud = λ t less. let l = is.loud t less in let high = l.2 in (l.0, l.1, omega (arith, high), l.3);
    }

pub is-loud : (c : Configuration) (programs : List (List ℕ)) (tick : ℕ) (e : Entry) (reader : Option ℕ) → trace c programs (tick + 1) ≡ e ∷ trace c programs tick
    → IsReader c programs tick e reader → (GoesOn true e reader → ⊥) → IsLoud c programs tick
is-loud c programs tick e None adds here not-quiet = λ keeps clock.
    not-quiet (record { still = refl; keeps = keeps e (entry-there c programs tick e adds); none = refl })
is-loud c programs tick e (Some p) adds here not-quiet = λ keeps clock. clock here.1.thread here.1.runs here.1.ends

pub start-loud : (c : Configuration) (programs : List (List ℕ)) (tick : ℕ) (s : StartSearch) (e : Entry) (reader : Option ℕ) → IsStartSearch c programs tick s
    → trace c programs (tick + 1) ≡ e ∷ trace c programs tick → IsReader c programs tick e reader → (GoesOn true e reader → ⊥)
    → IsStartSearch c programs (tick + 1) (record { longest = s.longest; quiet = tick + 1 })
start-loud c programs tick s e reader is adds here not-quiet = record {
  longest = is.longest;
  threads = λ t low high.
      let same : tick + 1 ≡ t = omega (arith, low, high) in
      subst (λ n. ThreadsStandAlike c (trace c programs n) (trace c programs (tick + 1))) same (λ p known. refl);
  clock = λ n low high. absurd (omega (arith, low, high));
  loud = λ t less. (tick, omega (arith, less), omega arith, is-loud c programs tick e reader adds here not-quiet);
}

-- ---- what it says of two ticks

pub is-none : (n : ℕ) → nat_eq n 0 ≡ true → n ≡ 0
is-none n is = grind (arith, nat_tests)

pub not-none : (n : ℕ) → nat_eq n 0 ≡ false → n ≡ 0 → ⊥
not-none n is none = grind (arith, nat_tests)

pub opens : (s : StartSearch) (early late : ℕ) → s.quiet ≤ early → early % s.longest ≡ 0 → late % s.longest ≡ 0 → Opens s early late
opens s early late quiet begins ends = λ c programs k is sum. record {
  begins = begins-all c s.longest early is.longest begins;
  begins_later = subst (WindowsBegin c) sum (begins-all c s.longest late is.longest ends);
  threads = subst (λ n. ThreadsStandAlike c (trace c programs early) (trace c programs n)) sum (is.threads early quiet (omega (arith, sum)));
  clock = λ n less. is.clock (early + n) (omega (arith, quiet)) (omega (arith, sum, less));
}

-- where all windows begin those of the longest period do
pub begins-longest : (c : Configuration) (n tick : ℕ) → IsLongest c n → WindowsBegin c tick → tick % n ≡ 0
begins-longest c n tick is begins = subst (λ m. tick % m ≡ 0) (sym is.is) (begins is.level is.known)

pub shuts-early : (s : StartSearch) (early late : ℕ) → (early % s.longest ≡ 0 → ⊥) → Shuts s early late
shuts-early s early late not-begun = λ c programs y checked accepted is again keeps sum other. not-begun (begins-longest c s.longest early is.longest other.begins)

pub shuts-late : (s : StartSearch) (early late : ℕ) → (late % s.longest ≡ 0 → ⊥) → Shuts s early late
shuts-late s early late not-begun = λ c programs y checked accepted is again keeps sum other.
    not-begun (begins-longest c s.longest late is.longest (subst (WindowsBegin c) (sym sum) other.begins_later))

pub shuts-loud : (s : StartSearch) (early late : ℕ) → RunsRepeatForEver → early < s.quiet → Shuts s early late
shuts-loud s early late law loud = λ c programs y checked accepted is again keeps sum other.
    let l = is.loud early loud in
    let low = l.1 in
    let high = l.2 in
    let there : early + (l.0 - early) ≡ l.0 = omega (arith, low) in
    l.3 (keeps-from c programs y early l.0 law checked accepted again keeps other low)
    (subst (λ n. ReadsNoTickNext c (world c programs n)) there (other.clock (l.0 - early) (omega (arith, low, high, sum))))

-- ---- a cycle from an earlier start on

with-option : (o : Option Cycle) (y : Cycle) (P : Cycle → Type 0) → o ≡ Some y → IfSome o P → P y
with-option o y P is holds = subst (λ (z : Option Cycle). IfSome z P) is holds

pub started : (c : Configuration) (programs : List (List ℕ)) (tick : ℕ) (search : RunSearch) (y : Cycle) (start : ℕ) → RunsRepeatForEver → IsChecked c → IsAccepted c
    → IsRunSearch c programs tick search → search.cycle ≡ Some y → start ≤ y.start → RunStandsAgain c programs start y.length
    → IsRunSearch c programs tick (record search { cycle = Some (with_start start y) })
started c programs tick search y start law checked accepted is cycle early other =
    let again : RunStandsAgain c programs y.start y.length = with-option search.cycle y (λ z. RunStandsAgain c programs z.start z.length) cycle is.cycle in
    let keeps : KeepsThreadsFrom c programs y.start y.length = with-option search.cycle y (λ z. KeepsThreadsFrom c programs z.start z.length) cycle is.keeps in
    let within : y.start + y.length ≤ tick = with-option search.cycle y (λ z. z.start + z.length ≤ tick) cycle is.within in
    record {
      longest = is.longest;
      reader = is.reader;
      made = is.made;
      saved = is.saved;
      cycle = other;
      keeps = λ n low high. keeps-from c programs y start n law checked accepted again keeps other low;
      within = omega (arith, within, early);
    }
