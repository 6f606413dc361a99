-- What rows tell of whom a change touches.
use Rattle.std.proofs.Common.{ℕ, zero, suc, ◌+◌, ◌≡◌, ◌∙◌, ◌<◌, ◌≤◌, inl, inr, Bool, true, false, List, [], ◌∷◌, ◌++◌, length, Option, Some, None, refl, sym, ap, subst, arith, length-append}
use Rattle.std.specs.Prelude.{◌↔◌, ◌&&◌, not, IsTrue, slice_get}
use Rattle.std.specs.Option.{option_map_or}
use Rattle.std.proofs.lemmas.Bool.{cases_lt}
use Rattle.dk_config.specs.Configuration.{Configuration}
use Rattle.dk_config.specs.Windows.{process_name}
use Rattle.dk_loader.specs.Workload.{Workload}
use Rattle.show_impact.specs.declared.row.Cause.{Cause}
use Rattle.show_impact.specs.declared.row.Impact.{Impact}
use Rattle.show_impact.specs.declared.row.Row.{Row}
use Rattle.show_impact.specs.Impacts.{AreApart, AreRows, IsCause, IsFound, IsKept, IsRow, IsRowAt, IsSame, Keeps, TouchesOnly, is_named, is_same, is_there, place_of}
use Rattle.show_impact.specs.Touching.{is_lost, is_same_at, is_touched}

-- where it is the same as it waits its period is one and it locks nothing
pub apart : (old new : Workload) → AreApart old new
apart old new =
    record {
      always = λ p q is other. other.period refl is.period;
      locks = λ p q is other. other.waits.locks is.waits.locks;
    }

keeps-not : (w : Workload) (p : ℕ) (cause : Cause) → Keeps w p → IsCause w p (Some cause) → ⊥
keeps-not w p Cause.Threads keeps is = let none = keeps.threads in omega (arith, none, is)
keeps-not w p Cause.Slack keeps is = let never : true ≡ false = sym is.1 ∙ keeps.slack in cc
keeps-not w p Cause.Clock keeps is = is.2 keeps.clock

-- what is the same is told so
told-same : (old : Workload) (p : ℕ) (new : Workload) (q : ℕ) (impact : Impact) → IsSame old p new q → IsFound old p new q impact → is_same impact ≡ true
told-same old p new q Impact.Same same found = refl
told-same old p new q Impact.PeriodAlone same found = absurd (found.differs same.sees)
told-same old p new q Impact.Waits same found = absurd (found.given.differs same.sees.but_period)
told-same old p new q (Impact.IfItWaits waiting) same found = absurd (found.given.differs same.sees.but_period)
told-same old p new q Impact.Program same found = absurd (found.1 same.program)
told-same old p new q Impact.Changed same found = absurd (found.differs same.sees.but_period)
told-same old p new q (Impact.Open cause) same (inl before) = absurd (keeps-not old p cause same.keeps.before before)
told-same old p new q (Impact.Open cause) same (inr (keeps, now)) = absurd (keeps-not new q cause same.keeps.now now)
told-same old p new q Impact.New same found = absurd found

-- and what is told so is
same-told : (old : Workload) (p : ℕ) (new : Workload) (q : ℕ) (impact : Impact) → IsFound old p new q impact → is_same impact ≡ true → IsSame old p new q
same-told old p new q Impact.Same found is = found
same-told old p new q Impact.PeriodAlone found is = absurd (let never : false ≡ true = is in cc)
same-told old p new q Impact.Waits found is = absurd (let never : false ≡ true = is in cc)
same-told old p new q (Impact.IfItWaits waiting) found is = absurd (let never : false ≡ true = is in cc)
same-told old p new q Impact.Program found is = absurd (let never : false ≡ true = is in cc)
same-told old p new q Impact.Changed found is = absurd (let never : false ≡ true = is in cc)
same-told old p new q (Impact.Open cause) found is = absurd (let never : false ≡ true = is in cc)
same-told old p new q Impact.New found is = absurd found

told-kept : (old new : Workload) (q : ℕ) (row : Row) → IsRow old new q row → IsKept old new q → is_same row.impact ≡ true
told-kept old new q row is (p, at, same) =
    let found = subst (λ place. IsRowAt place old new q row) at is in
    told-same old p new q row.impact same found.impact

kept-at : (place : Option ℕ) (old new : Workload) (q : ℕ) (row : Row) → place_of old.config (process_name new.config q) ≡ place
    → IsRowAt place old new q row → is_same row.impact ≡ true → IsKept old new q
kept-at None old new q row at found is = absurd (let never : false ≡ true = ap is_same (sym found.impact) ∙ is in cc)
kept-at (Some p) old new q row at found is = (p, at, same-told old p new q row.impact found.impact is)

kept-told : (old new : Workload) (q : ℕ) (row : Row) → IsRow old new q row → is_same row.impact ≡ true → IsKept old new q
kept-told old new q row is same = kept-at (place_of old.config (process_name new.config q)) old new q row refl is same

-- the row of each process stands at its place
get-front : (xs ys : List Row) (i : ℕ) → i < length xs → slice_get (xs ++ ys) i ≡ slice_get xs i
get-front [] ys i l = absurd (omega arith)
get-front (x ∷ xs) ys zero l = refl
get-front (x ∷ xs) ys (suc i) l = get-front xs ys i (omega arith)

get-seam : (xs : List Row) (y : Row) → slice_get (xs ++ y ∷ []) (length xs) ≡ Some y
get-seam [] y = refl
get-seam (x ∷ xs) y = get-seam xs y

how-many : (old new : Workload) (n : ℕ) (rows : List Row) → AreRows old new n rows → length rows ≡ n
how-many old new zero rows are = ap length are
how-many old new (suc n) rows (before, row, are, is, all) =
    let less = how-many old new n before are in
    let more = ap length all ∙ length-append before (row ∷ []) in
    omega (arith, less, more)

abbrev HasRow : Workload → Workload → ℕ → List Row → Type 0
HasRow old new q rows = (row : Row) × (slice_get rows q ≡ Some row) × IsRow old new q row

row-at : (old new : Workload) (n : ℕ) (rows : List Row) (q : ℕ) → AreRows old new n rows → q < n → HasRow old new q rows
row-at old new zero rows q are below = absurd (omega arith)
row-at old new (suc n) rows q (before, row, are, is, all) below =
    let count = how-many old new n before are in
    elim (cases_lt q n) [
      | inl less ↦
          let (r, at, found) = row-at old new n before q are less in
          (r, ap (λ rs. slice_get rs q) all ∙ get-front before (row ∷ []) q (omega (arith, less, count)) ∙ at, found)
      | inr most ↦
          let last : q ≡ n = omega (arith, most, below) in
          (row, ap (λ rs. slice_get rs q) all ∙ ap (slice_get (before ++ row ∷ [])) (last ∙ sym count) ∙ get-seam before row, subst (λ k. IsRow old new k row) (sym last) is)
    ]

-- what the two tests tell
abbrev pub TellsTouched : Bool → Configuration → List Row → List (List ℕ) → Type 0
TellsTouched b new rows names = IsTrue b ↔ ((q : ℕ) → q < length new.processes → is_touched new rows names q ≡ false)

abbrev pub TellsLost : Bool → Configuration → Configuration → List (List ℕ) → Type 0
TellsLost b old new names = IsTrue b ↔ ((p : ℕ) → p < length old.processes → is_lost old new names p ≡ false)

-- a test of each number below n, one by one: one fails it
pub one_fails : (f : ℕ → Bool) (n p : ℕ) → p < n → f p ≡ true → IsTrue false ↔ ((p : ℕ) → p < n → f p ≡ false)
one_fails f n p below is = (λ never. absurd (let no : false ≡ true = never in cc), λ all. sym (all p below) ∙ is)

-- one more passes it
pub one_passes : (f : ℕ → Bool) (n : ℕ) → ((p : ℕ) → p < n → f p ≡ false) → f n ≡ false → (p : ℕ) → p < n + 1 → f p ≡ false
one_passes f n all is p below =
    elim (cases_lt p n) [
      | inl less ↦ all p less
      | inr most ↦ let last : p ≡ n = omega (arith, most, below) in ap f last ∙ is
    ]

-- all pass it
pub all_pass : (f : ℕ → Bool) (n m : ℕ) → n ≤ m → ((p : ℕ) → p < m → f p ≡ false) → IsTrue true ↔ ((p : ℕ) → p < n → f p ≡ false)
all_pass f n m enough all = (λ _ p below. all p (omega (arith, enough, below)), λ _. refl)

neither : (named fine : Bool) → (not named && not fine) ≡ false → named ≡ false → fine ≡ true
neither named true none other = refl
neither false false none other = absurd (let never : true ≡ false = none in cc)
neither true false none other = absurd (let never : true ≡ false = other in cc)

either : (named fine : Bool) → (named ≡ false → fine ≡ true) → (not named && not fine) ≡ false
either true fine is = refl
either false fine is = ap not (is refl)

module _ (old new : Workload) (rows : List Row) (names : List (List ℕ)) (are : AreRows old new (length new.config.processes) rows) where
  same-at : (q : ℕ) (row : Row) → slice_get rows q ≡ Some row → is_same_at rows q ≡ is_same row.impact
  same-at q row at = ap (λ r. option_map_or (λ (row : Row). is_same row.impact) r false) at

  kept : (q : ℕ) → q < length new.config.processes → is_touched new.config rows names q ≡ false
      → is_named names (process_name new.config q) ≡ false → IsKept old new q
  kept q below none other =
      let (row, at, is) = row-at old new (length new.config.processes) rows q are below in
      kept-told old new q row is (sym (same-at q row at) ∙ neither (is_named names (process_name new.config q)) (is_same_at rows q) none other)

  untouched : TouchesOnly names old new → (q : ℕ) → q < length new.config.processes → is_touched new.config rows names q ≡ false
  untouched only q below =
      let (row, at, is) = row-at old new (length new.config.processes) rows q are below in
      either (is_named names (process_name new.config q)) (is_same_at rows q) (λ other. same-at q row at ∙ told-kept old new q row is (only.kept q below other))

  -- where the first test is passed, the second tells whether the change touches none but those named
  pub second_tells : (a b : Bool) → a ≡ true → TellsTouched a new.config rows names → TellsLost b old.config new.config names
      → IsTrue b ↔ TouchesOnly names old new
  second_tells a b passed none still = (
    λ both. record {
      kept = λ q below other. kept q below (none.0 passed q below) other;
      there = λ p below other.
          neither (is_named names (process_name old.config p)) (is_there new.config (process_name old.config p)) (still.0 both p below) other;
    },
    λ only.
        still.1 (λ p below. either (is_named names (process_name old.config p)) (is_there new.config (process_name old.config p)) (only.there p below)),
  )

  -- and where it isn't, the change touches another
  pub first_tells : (a : Bool) → a ≡ false → TellsTouched a new.config rows names → IsTrue false ↔ TouchesOnly names old new
  first_tells a failed none = (
    λ never. absurd (let no : false ≡ true = never in cc),
    λ only. sym failed ∙ none.1 (untouched only),
  )
