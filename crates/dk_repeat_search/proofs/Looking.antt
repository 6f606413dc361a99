-- A search that has looked, and looks on.
use Rattle.dk_repeat_search.proofs.Names.{Bool, Option, None, Some, Configuration, RunSearch, RunState, IsLongest, WindowsBegin, RunSeeksFrom, HasLookedAtRun, HasLookedAtRunBefore, IsChecked, IsAccepted, IsOtherRun, IsYoungRun, LooksAtRunFor, LooksLaterAtRun, LooksPastProcess, LooksPastRun, MayPassRun, refl, false, is_some, true, ℕ, ◌≡◌, ◌+◌, ◌-◌, ◌*◌, ◌/◌, ◌%◌, ◌<◌, ◌≤◌, inl, inr, List, sym, subst, arith, cases_eq, cases_lt, div-add-mod, mod_below, mul-le-mul_left, Running, WindowBegins, OwnSearch, IsOwnSearch, HasLookedBefore, IsDone, LooksFor, LooksLater, LooksPast, MayPass, List, All, ap, main_level, period, ◌∙◌, ◌≢◌, get_or, set, length, length-set, get_or-set_other, get_or-set_same}

-- no multiple of a period comes within the rest of it
pub none-within : (d tick t : ℕ) → 0 < d → t % d ≡ 0 → tick ≤ t → t < tick + (d - tick % d) → t ≡ tick
none-within d tick t some begins low high =
    let a = tick / d in
    let b = t / d in
    let parts = div-add-mod tick d in
    let parts' = div-add-mod t d in
    let below = mod_below tick d some in
    elim (cases_lt a b) [
      | inl less ↦
          let more = mul-le-mul_left {m = a + 1} {n = b} d (omega (arith, less)) in
          let spread : d * (a + 1) ≡ d * a + d = grind arith in
          absurd (omega (arith, parts, parts', begins, below, more, spread, high))
      | inr few ↦
          let more = mul-le-mul_left {m = b} {n = a} d few in
          omega (arith, parts, parts', begins, more, low)
    ]

module _ (k : Running) (search : OwnSearch) (law : LooksLater) (is : IsOwnSearch k.config k.programs k.ticks search) where
  own-begins : (t : ℕ) → WindowBegins k.config search.process t → t % search.period ≡ 0
  own-begins t begins = subst (λ d. t % d ≡ 0) (sym is.period) begins

  -- it is done
  pub done-for : (wait : ℕ) → IsDone search → LooksFor k wait search
  done-for wait done w some few keeps none = absurd (done keeps none)

  -- no window begins now
  pub waits-for : (wait : ℕ) → wait ≡ search.period - k.ticks % search.period → (wait ≡ search.period → ⊥) → HasLookedBefore k k.ticks search → LooksFor k wait search
  waits-for wait wait-is not looked w some few =
      law k.config k.programs k.ticks (k.ticks + w) search (omega arith)
      (λ t begins low high.
      let zero : t % search.period ≡ 0 = own-begins t begins in
      let now = none-within search.period k.ticks t is.some zero low (omega (arith, high, few, wait-is)) in
      let here : k.ticks % search.period ≡ 0 = subst (λ n. n % search.period ≡ 0) now zero in
      not (omega (arith, wait-is, here))) looked

  -- one began, and it has looked
  pub looked-for : (wait : ℕ) → wait ≡ search.period - k.ticks % search.period → HasLookedBefore k (k.ticks + 1) search → LooksFor k wait search
  looked-for wait wait-is looked w some few =
      law k.config k.programs (k.ticks + 1) (k.ticks + w) search (omega (arith, some))
      (λ t begins low high.
      let now = none-within search.period k.ticks t is.some (own-begins t begins) (omega (arith, low)) (omega (arith, high, few, wait-is)) in
      absurd (omega (arith, now, low))) looked

-- for fewer ticks
pub for-fewer : (k : Running) (many few : ℕ) (search : OwnSearch) → few ≤ many → LooksFor k many search → LooksFor k few search
for-fewer k many few search low looks w some less = looks w some (omega (arith, low, less))

pub seen-more : {X : Type 0} (Q : X → Type 0) (items : List X) (i : ℕ) (new : X) → i < length items → ((k : ℕ) (d : X) → k < i → Q (get_or items k d)) → Q new
    → (k : ℕ) (d : X) → k < i + 1 → Q (get_or (set items i new) k d)
seen-more Q items i new within before here = λ k d less.
    elim (cases_eq k i) [
      | inl same ↦ subst (λ j. Q (get_or (set items i new) j d)) (sym same) (subst Q (sym (get_or-set_same items i new d within)) here)
      | inr other ↦ subst Q (sym (get_or-set_other items i k new d other)) (before k d (omega (arith, less, other)))
    ]

pub ahead-more : {X : Type 0} (P : X → Type 0) (items : List X) (i : ℕ) (new : X) → ((k : ℕ) (d : X) → k < length items → i ≤ k → P (get_or items k d))
    → (k : ℕ) (d : X) → k < length (set items i new) → i + 1 ≤ k → P (get_or (set items i new) k d)
ahead-more P items i new ahead = λ k d within later.
    let long = length-set items i new in
    let other : k ≢ i = omega (arith, later) in
    subst P (sym (get_or-set_other items i k new d other)) (ahead k d (omega (arith, within, long)) (omega (arith, later)))

-- it needn't look
pub passes : (k : Running) (search : OwnSearch) → LooksPast → IsOwnSearch k.config k.programs k.ticks search → MayPass k search → HasLookedBefore k k.ticks search
    → HasLookedBefore k (k.ticks + 1) search
passes k search law is may looked = law k.config k.programs k.ticks search may.context may.words is may.young may.gone may.context_is may.words_are looked

-- of all searches
pub all-for : (k : Running) (many few : ℕ) (own : List OwnSearch) → few ≤ many → All (LooksFor k many) own → (w : ℕ) → 1 ≤ w → w ≤ few → All (HasLookedBefore k (k.ticks + w)) own
all-for k many few own low all w some less = λ i d there. all i d there w some (omega (arith, low, less))

pub all-done : (k : Running) (n : ℕ) (own : List OwnSearch) → All IsDone own → All (HasLookedBefore k n) own
all-done k n own all = λ i d there keeps none. absurd (all i d there keeps none)

-- the search with the same period
pub wait-same : (k : Running) (before after : OwnSearch) (wait : ℕ) → IsOwnSearch k.config k.programs k.ticks before → IsOwnSearch k.config k.programs k.ticks after
    → after.process ≡ before.process → wait ≡ before.period - k.ticks % before.period → wait ≡ after.period - k.ticks % after.period
wait-same k before after wait was is same wait-is =
    let periods : before.period ≡ after.period =
    was.period ∙ ap (λ p. period k.config (main_level k.config p)) (sym same) ∙ sym is.period in
    wait-is ∙ ap (λ d. d - k.ticks % d) periods

-- ---- the run

-- up to a later tick
seeks-later : (c : Configuration) (programs : List (List ℕ)) (tick tick' n : ℕ) (kept : Bool) (o : Option RunState) → tick ≤ tick'
    → RunSeeksFrom c programs tick n kept o → RunSeeksFrom c programs tick' n kept o
seeks-later c programs tick tick' n kept None later is = is
seeks-later c programs tick tick' n kept (Some s) later is = record {
  whole = is.whole;
  seeks = is.seeks;
  loud = λ off. let l = is.loud off in let low = l.2 in (l.0, l.1, omega (arith, low, later), l.3);
}

pub run-later : (c : Configuration) (programs : List (List ℕ)) (tick tick' n : ℕ) (search : RunSearch) → tick ≤ tick' → HasLookedAtRun c programs tick n search
    → HasLookedAtRun c programs tick' n search
run-later c programs tick tick' n search later looked = λ none. seeks-later c programs tick tick' n search.kept search.saved later (looked none)

-- it is done
pub run-done : (k : Running) (n : ℕ) (search : RunSearch) → is_some search.cycle ≡ true → HasLookedAtRunBefore k n search
run-done k n search some = λ none. let off : is_some search.cycle ≡ false = ap (λ o. is_some o) none in absurd (cc)

-- the windows of all levels begin where the longest one does
all-begin : (c : Configuration) (d t : ℕ) → IsLongest c d → WindowsBegin c t → t % d ≡ 0
all-begin c d t longest begins = ap (λ n. t % n) longest.is ∙ begins longest.level longest.known

module _ (k : Running) (law : LooksLaterAtRun) (d : ℕ) (longest : IsLongest k.config d) where
  -- they don't begin now
  pub run-waits-for : (search : RunSearch) (wait : ℕ) → wait ≡ d - k.ticks % d → (wait ≡ d → ⊥) → HasLookedAtRunBefore k k.ticks search → LooksAtRunFor k wait search
  run-waits-for search wait wait-is not looked w some few =
      law k.config k.programs k.ticks k.ticks k.ticks (k.ticks + w) search (omega arith) (omega arith)
      (λ t begins low high.
      let zero : t % d ≡ 0 = all-begin k.config d t longest begins in
      let now = none-within d k.ticks t longest.some zero low (omega (arith, high, few, wait-is)) in
      let here : k.ticks % d ≡ 0 = subst (λ n. n % d ≡ 0) now zero in
      not (omega (arith, wait-is, here))) looked

  -- they began, and it has looked
  pub run-looked-for : (search : RunSearch) (wait : ℕ) → wait ≡ d - k.ticks % d → HasLookedAtRunBefore k (k.ticks + 1) search → LooksAtRunFor k wait search
  run-looked-for search wait wait-is looked w some few =
      law k.config k.programs k.ticks k.ticks (k.ticks + 1) (k.ticks + w) search (omega arith) (omega (arith, some))
      (λ t begins low high.
      let now = none-within d k.ticks t longest.some (all-begin k.config d t longest begins) (omega (arith, low)) (omega (arith, high, few, wait-is)) in
      absurd (omega (arith, now, low))) looked

-- it needn't look
module _ (k : Running) (search : RunSearch) (process-law : LooksPastProcess) (young : IsYoungRun search.saved k.ticks) (looked : HasLookedAtRunBefore k k.ticks search) where
  passes-other : (o : Option RunState) → search.saved ≡ o → IsOtherRun k o → HasLookedAtRunBefore k (k.ticks + 1) search
  passes-other None is other = absurd other
  passes-other (Some s) is other =
      let at = other.is in
      process-law k.config k.programs k.ticks search s other.process other.state at.context at.words young is other.known other.there at.other at.context_is at.words_are looked

pub run-passes : (k : Running) (search : RunSearch) → LooksPastRun → LooksPastProcess → IsChecked k.config → IsAccepted k.config → MayPassRun k search
    → HasLookedAtRunBefore k k.ticks search → HasLookedAtRunBefore k (k.ticks + 1) search
run-passes k search run-law process-law checked accepted may looked =
    elim may.why [
      | inl loud ↦ run-law k.config k.programs k.ticks search checked accepted may.young loud looked
      | inr other ↦ passes-other k search process-law may.young looked search.saved refl other
    ]
