-- What repeats of a process by itself is found.
use Rattle.dk_cycle.proofs.Names.{ℕ, ◌≡◌, ◌+◌, ◌-◌, ◌*◌, ◌<◌, ◌≤◌, ◌∙◌, List, [], Option, Some, None, refl, sym, subst, arith, IfSome, slice_index_or, Configuration, IsChecked, IsAccepted, World, world, KeepsToItself, ProcessStandsAgain, ProcessStandsAlike, ProcessesStandAlike, StandsAgainAsAlone, WindowBegins, begins-rest, begins-sum, Context, Cycle, IsKeeping, MainState, OwnSearch, IsBack, IsGone, IsMainState, IsOwnSearch, IsSavedMain, Seeks, OwnSeeks, IsOld, IsYoung, LooksOn, LooksLater, LooksPast, OwnIsFound, cases_eq, cases_lt, inl, inr, main_level, period, zero-mod, is_some, true}
use Rattle.dk_cycle.specs.declared.keeping.Keeping.TheVariants as kind
use Rattle.dk_cycle.proofs.Sought.{never, begun, stays, renewed-old}

alike-back : (c : Configuration) (p : ℕ) (w v : World) → ProcessStandsAlike c p w v → ProcessStandsAlike c p v w
alike-back c p w v is = record { memory = sym is.memory; context = sym is.context; stopped = sym is.stopped }

module _ (as-alone : StandsAgainAsAlone) (stand : ProcessesStandAlike) (c : Configuration) (programs : List (List ℕ)) (p : ℕ)
    (checked : IsChecked c) (accepted : IsAccepted c) (keeps : KeepsToItself c p (slice_index_or programs p [])) where
  -- it stands again from each later tick on at which a window begins
  goes : (s k n : ℕ) → ProcessStandsAgain c programs p s k → WindowBegins c p (s + n) → ProcessStandsAgain c programs p (s + n) k
  goes s k n again begins =
      let rest = begins-rest c p s n again.begins begins in
      let far : s + 1 * k + n ≡ s + n + k = omega arith in
      let alike = stand c programs programs p s k 1 n checked accepted keeps refl (as-alone c programs p s k checked accepted keeps again) rest in
      record {
        later = again.later;
        begins = begins;
        begins_later = begins-sum c p (s + n) k begins (begins-rest c p s k again.begins again.begins_later);
        alike = subst (λ t. ProcessStandsAlike c p (world c programs (s + n)) (world c programs t)) far
            (alike-back c p (world c programs (s + 1 * k + n)) (world c programs (s + n)) alike);
      }

  later : (s k : ℕ) → ProcessStandsAgain c programs p s k → 0 < k
  later s k again = again.later

  starts : (s k : ℕ) → ProcessStandsAgain c programs p s k → WindowBegins c p s
  starts s k again = again.begins

  lasts : (s k : ℕ) → ProcessStandsAgain c programs p s k → WindowBegins c p k
  lasts s k again = begins-rest c p s k again.begins again.begins_later

  both : (m n : ℕ) → WindowBegins c p m → WindowBegins c p n → WindowBegins c p (m + n)
  both = begins-sum c p

  -- what was to be found before tick n
  found : (n : ℕ) (o : Option MainState) → IfSome o (IsSavedMain c programs p) → OwnSeeks c programs p n o → (s k : ℕ) → ProcessStandsAgain c programs p s k
      → 2 * s + k < n → 3 * k < n → ⊥
  found n None saved is s k again low low' = let none : n ≡ 0 = is in absurd (omega (arith, none, low))
  found n (Some m) saved is s k again low low' =
      never (WindowBegins c p) (ProcessStandsAgain c programs p) later starts lasts both goes n m.tick s k is saved.begins again low low'

  -- where it isn't back, it doesn't stand again
  not-again : (now : MainState) (m : MainState) → IsSavedMain c programs p m → IsMainState c programs p now → (IsBack (Some m) now → ⊥) → m.tick < now.tick
      → ProcessStandsAgain c programs p m.tick (now.tick - m.tick) → ⊥
  not-again now m saved is not low again =
      let there : m.tick + (now.tick - m.tick) ≡ now.tick = omega (arith, low) in
      let alike : ProcessStandsAlike c p (world c programs m.tick) (world c programs now.tick) =
      subst (λ t. ProcessStandsAlike c p (world c programs m.tick) (world c programs t)) there again.alike in
      not (record {
        before = m;
        is = refl;
        later = low;
        same = record {
          memory = saved.is.memory ∙ alike.memory ∙ sym is.memory;
          context = saved.is.context ∙ alike.context ∙ sym is.context;
          stopped = saved.is.stopped ∙ alike.stopped ∙ sym is.stopped;
        };
      })

  -- what is kept stays
  looked-young : (now : MainState) (o : Option MainState) → IfSome o (IsSavedMain c programs p) → IsMainState c programs p now → (IsBack o now → ⊥) → IsYoung o now.tick
      → OwnSeeks c programs p now.tick o → OwnSeeks c programs p (now.tick + 1) o
  looked-young now None saved is not young seeks = absurd young
  looked-young now (Some m) saved is not young seeks =
      let before = seeks.before in
      stays (WindowBegins c p) (ProcessStandsAgain c programs p) later starts lasts both goes now.tick m.tick seeks young
      (not-again now m saved is not before)

  -- it is replaced
  looked-old : (now : MainState) (o : Option MainState) → IfSome o (IsSavedMain c programs p) → IsMainState c programs p now → (IsBack o now → ⊥) → IsOld o now.tick
      → OwnSeeks c programs p now.tick o → OwnSeeks c programs p (now.tick + 1) (Some now)
  looked-old now None saved is not old seeks =
      let none : now.tick ≡ 0 = seeks in
      subst (λ t. Seeks (WindowBegins c p) (ProcessStandsAgain c programs p) (t + 1) t) (sym none)
      (begun (WindowBegins c p) (ProcessStandsAgain c programs p) later starts lasts both goes)
  looked-old now (Some m) saved is not old seeks =
      let before = seeks.before in
      renewed-old (WindowBegins c p) (ProcessStandsAgain c programs p) later starts lasts both goes now.tick m.tick seeks saved.begins old
      (not-again now m saved is not before)

module _ (as-alone : StandsAgainAsAlone) (stand : ProcessesStandAlike) where
  keeping-of : (c : Configuration) (programs : List (List ℕ)) (tick : ℕ) (search : OwnSearch) → IsOwnSearch c programs tick search → search.keeping ≡ kind.Keeps
      → KeepsToItself c search.process (slice_index_or programs search.process [])
  keeping-of c programs tick search is keeps = subst (IsKeeping c search.process (slice_index_or programs search.process [])) keeps is.keeping

  pub look-young : (before : OwnSearch) (now : MainState) → (IsBack before.saved now → ⊥) → IsYoung before.saved now.tick → LooksOn before now before
  look-young before now not young c programs checked accepted is state begins looked keeps none =
      looked-young as-alone stand c programs before.process checked accepted (keeping-of c programs now.tick before is keeps) now before.saved is.saved state not young
      (looked keeps none)

  pub look-old : (before : OwnSearch) (now : MainState) → (IsBack before.saved now → ⊥) → IsOld before.saved now.tick → LooksOn before now (record before { saved = Some now })
  look-old before now not old c programs checked accepted is state begins looked keeps none =
      looked-old as-alone stand c programs before.process checked accepted (keeping-of c programs now.tick before is keeps) now before.saved is.saved state not old
      (looked keeps none)

  pub own-is-found : OwnIsFound
  own-is-found c programs tick search checked accepted is looked keeps none s k again by =
      let start = by.start in
      let long = by.long in
      found as-alone stand c programs search.process checked accepted (keeping-of c programs tick search is keeps) (tick + 1) search.saved is.saved (looked keeps none)
      s k again (omega (arith, start)) (omega (arith, long))

pub look-found : (before : OwnSearch) (now : MainState) (y : Cycle) → LooksOn before now (record before { cycle = Some y })
look-found before now y c programs checked accepted is state begins looked keeps none = absurd (cc)

-- without a look
past-saved : (c : Configuration) (programs : List (List ℕ)) (p tick : ℕ) (o : Option MainState) (context : Context) (words : List ℕ) → IfSome o (IsSavedMain c programs p)
    → IsYoung o tick → IsGone o context words → context ≡ ((world c programs tick).images p).contexts 0 → words ≡ ((world c programs tick).images p).memory
    → OwnSeeks c programs p tick o → OwnSeeks c programs p (tick + 1) o
past-saved c programs p tick None context words saved young gone context-is words-is seeks = absurd young
past-saved c programs p tick (Some m) context words saved young gone context-is words-is seeks = record {
  before = let before = seeks.before in omega (arith, before);
  young = λ t begins some low.
      elim (cases_eq tick t) [
        | inl same ↦ omega (arith, same, young)
        | inr other ↦ seeks.young t begins some (omega (arith, low, other))
      ];
  since = λ k again low.
      elim (cases_eq tick (m.tick + k)) [
        | inl same ↦
            let alike : ProcessStandsAlike c p (world c programs m.tick) (world c programs tick) =
            subst (λ t. ProcessStandsAlike c p (world c programs m.tick) (world c programs t)) (sym same) again.alike in
            let before = seeks.before in
            gone (record m { tick = tick }) (saved.is.context ∙ alike.context ∙ sym context-is) (saved.is.memory ∙ alike.memory ∙ sym words-is)
            (record { before = m; is = refl; later = before; same = record { memory = refl; context = refl; stopped = refl } })
        | inr other ↦ seeks.since k again (omega (arith, low, other))
      ];
  early = seeks.early;
}

pub looks-past : LooksPast
looks-past c programs tick search context words is young gone context-is words-is looked keeps none =
    past-saved c programs search.process tick search.saved context words is.saved young gone context-is words-is (looked keeps none)

later-saved : (c : Configuration) (programs : List (List ℕ)) (p m n : ℕ) (o : Option MainState) → m ≤ n → ((t : ℕ) → WindowBegins c p t → m ≤ t → t < n → ⊥)
    → OwnSeeks c programs p m o → OwnSeeks c programs p n o
later-saved c programs p m n None more none seeks =
    let first : m ≡ 0 = seeks in
    elim (cases_eq n 0) [
      | inl same ↦ same
      | inr other ↦ absurd (none 0 (zero-mod (period c (main_level c p))) (omega (arith, first)) (omega (arith, other)))
    ]
later-saved c programs p m n (Some s) more none seeks = record {
  before = let before = seeks.before in omega (arith, before, more);
  young = λ t begins some less.
      elim (cases_lt t m) [
        | inl low ↦ seeks.young t begins some low
        | inr high ↦ absurd (none t begins high less)
      ];
  since = λ k again less.
      elim (cases_lt (s.tick + k) m) [
        | inl low ↦ seeks.since k again low
        | inr high ↦ none (s.tick + k) again.begins_later high less
      ];
  early = seeks.early;
}

pub looks-later : LooksLater
looks-later c programs m n search more none looked keeps no-cycle = later-saved c programs search.process m n search.saved more none (looked keeps no-cycle)

pub not-back : (o : Option Cycle) (saved : Option MainState) (now : MainState) → o ≡ None → (IsBack saved now → is_some o ≡ true) → IsBack saved now → ⊥
not-back None saved now is finds back = let never = finds back in absurd (cc)
not-back (Some y) saved now is finds back = absurd (cc)
