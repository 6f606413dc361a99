-- What is told of each process's windows.
use Rattle.dk_repeat_search.proofs.Names.{ℕ, zero, suc, ◌≡◌, ◌+◌, ◌<◌, ◌≤◌, ◌≢◌, ◌∙◌, ◌∷◌, ◌++◌, ◌⊎◌, inl, inr, List, [], length, get_or, set, map, false, None, refl, sym, ap, subst, arith, slice_index_or, range_with_len, cases_eq, get_or-set_other, get_or-set_same, get_or_append_left, length-map, length-set, length_push, get_or-range_with_len, length-range_with_len, get_or_from_slice_get, slice_get_within, get_or-append_seam, Configuration, IsChecked, IsAccepted, Workload, IsLoaded, Running, OwnSearch, RunTold, IsLastMade, IsLastReader, IsRunTold, RunIsTold, run_told, Cycle, Keeping, IsDone, Waits, WaitWatch, IsWaits, WaitsAreTold, WaitsSoFar, waits_by, waits_told, HasLookedBefore, HasNoOwnCycle, HaveLooked, OwnIsFound, slice_get, Searches, All, AreOwn, HasSettled, HaveEnded, Option, Some, loaded_of, process_of, AreTold, AreWaits, AreWatches, watched_process}
use Rattle.dk_cycle.specs.declared.keeping.Keeping.TheVariants as kind
use Rattle.dk_cycle.specs.declared.waiting.Waits.TheVariants as what
use Rattle.dk_repeat_search.proofs.Places.{many-own}
use Rattle.dk_repeat_search.proofs.Told.{no-cycle}

abbrev pub no_search : OwnSearch
no_search = record { process = 0; period = 0; keeping = kind.Keeps; saved = None; cycle = None }

abbrev pub no_watch : WaitWatch
no_watch = record { process = 0; period = 0; begins = 0; passed = 0; waited = false; missed = None }

pub many-watches : (c : Configuration) (programs : List (List ℕ)) (tick : ℕ) (watches : List WaitWatch) → AreWatches c programs tick watches → length watches ≡ length c.processes
many-watches c programs tick watches are = sym (length-map watches watched_process) ∙ ap length are.processes ∙ length-range_with_len 0 (length c.processes)

-- one more process
pub told-more : (own : List OwnSearch) (watches : List WaitWatch) (n : ℕ) (waits : List Waits) (x : Waits) → AreTold own watches n waits
    → ((s : OwnSearch) (w : WaitWatch) → x ≡ waits_told (slice_index_or own n s) (slice_index_or watches n w)) → AreTold own watches (n + 1) (waits ++ x ∷ [])
told-more own watches n waits x told is = record {
  all = length_push waits x ∙ ap (λ m. m + 1) told.all;
  each = λ p s w d less.
      elim (cases_eq n p) [
        | inl same ↦
            subst (λ q. slice_index_or (waits ++ x ∷ []) q d ≡ waits_told (slice_index_or own q s) (slice_index_or watches q w)) same
            (ap (λ m. get_or (waits ++ x ∷ []) m d) (sym told.all) ∙ get_or-append_seam waits x [] d ∙ is s w)
        | inr other ↦
            let many = told.all in
            get_or_append_left waits (x ∷ []) d p (omega (arith, less, other, many)) ∙ told.each p s w d (omega (arith, less, other))
      ];
}

-- the process at a place
at-place : {X : Type 0} (f : X → ℕ) (xs : List X) (n i : ℕ) (d : X) → map f xs ≡ range_with_len 0 n → i < n → f (get_or xs i d) ≡ i
at-place f xs n i d are less =
    let none : 0 + i ≡ i = omega arith in
    sym (get-mapped f xs i d) ∙ ap (λ ns. get_or ns i (f d)) are ∙ get_or-range_with_len 0 n i (f d) less ∙ none
  where
    get-mapped : {X : Type 0} (f : X → ℕ) (xs : List X) (i : ℕ) (d : X) → get_or (map f xs) i (f d) ≡ f (get_or xs i d)
    get-mapped f [] i d = refl
    get-mapped f (x ∷ xs) zero d = refl
    get-mapped f (x ∷ xs) (suc i) d = get-mapped f xs i d

-- where it isn't known of a process that keeps to itself, its search isn't done
open-by : (keeping : Keeping) (missed : Option ℕ) (cycle : Option Cycle) → waits_by keeping missed cycle ≡ what.NotWithin
    → (keeping ≡ kind.Keeps) × (cycle ≡ None)
open-by kind.Keeps (Some t) cycle is = absurd (cc)
open-by kind.Keeps None (Some y) is = absurd (cc)
open-by kind.Keeps None None is = (refl, refl)
open-by kind.ReadsTick missed cycle is = absurd (cc)
open-by kind.HasThreads missed cycle is = absurd (cc)
open-by kind.HasSlack missed cycle is = absurd (cc)

-- what is told after some ticks is told after all that were to be searched
waits-in : (c : Configuration) (programs : List (List ℕ)) (p n ticks : ℕ) (x : Waits) → IsWaits c programs p n x → (x ≡ what.NotWithin → n ≡ ticks)
    → IsWaits c programs p ticks x
waits-in c programs p n ticks what.Always is all = is
waits-in c programs p n ticks (what.NotFrom tick) is all = is
waits-in c programs p n ticks what.NotWithin is all = subst (λ m. WaitsSoFar c programs p m) (all refl) is
waits-in c programs p n ticks (what.Unknown keeping) is all = is

-- what is told of each process holds
pub are-waits : WaitsAreTold → (c : Configuration) (programs : List (List ℕ)) (tick ticks : ℕ) (own : List OwnSearch) (watches : List WaitWatch) (waits : List Waits) → IsChecked c
    → IsAccepted c → AreOwn c programs tick own → AreWatches c programs tick watches → AreTold own watches (length own) waits
    → (All IsDone own ⊎ (tick ≡ ticks)) → AreWaits c programs ticks waits
are-waits law c programs tick ticks own watches waits checked accepted are seen told ended = record {
  many = told.all ∙ long;
  each = λ p x there.
      let low = slice_get_within waits p x there in
      let many = told.all in
      let here : p < length own = omega (arith, low, many) in
      let few : p < length c.processes = omega (arith, here, long) in
      let known : p < length watches = omega (arith, few, wide) in
      let mine : process_of (slice_index_or own p no_search) ≡ p = at-place process_of own (length c.processes) p no_search are.processes few in
      let its : watched_process (slice_index_or watches p no_watch) ≡ p = at-place watched_process watches (length c.processes) p no_watch seen.processes few in
      let is : x ≡ waits_told (slice_index_or own p no_search) (slice_index_or watches p no_watch) = sym (get_or_from_slice_get waits p x x there) ∙ told.each p no_search no_watch x here in
      waits-in c programs p tick ticks x
      (subst (λ q. IsWaits c programs q tick x) mine
      (subst (IsWaits c programs (process_of (slice_index_or own p no_search)) tick) (sym is)
      (law c programs tick (slice_index_or own p no_search) (slice_index_or watches p no_watch) checked accepted (are.all p no_search here) (seen.all p no_watch known) (its ∙ sym mine))))
      (λ hidden.
      elim ended [
        | inl done ↦
            let s = slice_index_or own p no_search in
            let both = open-by s.keeping (slice_index_or watches p no_watch).missed s.cycle (sym is ∙ hidden) in
            absurd (done p no_search here both.0 both.1)
        | inr same ↦ same
      ]);
}
  where
    long : length own ≡ length c.processes
    long = many-own c programs tick own are

    wide : length watches ≡ length c.processes
    wide = many-watches c programs tick watches seen

-- what is told of a run holds of all ticks that were to be searched
told-in : (c : Configuration) (programs : List (List ℕ)) (n ticks : ℕ) (told : RunTold) → IsRunTold c programs n told → (told.cycle ≡ None → n ≡ ticks)
    → IsRunTold c programs ticks told
told-in c programs n ticks told is all = record {
  cycle = is.cycle;
  reader = λ none. subst (λ m. IsLastReader c programs m told.reader) (all none) (is.reader none);
  made = λ none. subst (λ m. IsLastMade c programs m told.made) (all none) (is.made none);
  behind = is.behind;
  alone = is.alone;
}

-- where it isn't known of a process that keeps to itself, its search had no cycle to find
none-known : OwnIsFound → (k : Running) (ticks : ℕ) (own : List OwnSearch) (watches : List WaitWatch) (waits : List Waits) → IsChecked k.config → IsAccepted k.config
    → k.ticks ≤ ticks → AreOwn k.config k.programs k.ticks own → All (HasLookedBefore k (ticks + 1)) own → AreTold own watches (length own) waits → (p : ℕ)
    → slice_get waits p ≡ Some what.NotWithin → HasNoOwnCycle k.config k.programs p ticks
none-known law k ticks own watches waits checked accepted few are looked told p there =
    let low = slice_get_within waits p what.NotWithin there in
    let many = told.all in
    let here : p < length own = omega (arith, low, many) in
    let size = many-own k.config k.programs k.ticks own are in
    let known : p < length k.config.processes = omega (arith, here, size) in
    let s = slice_index_or own p no_search in
    let is : what.NotWithin ≡ waits_told s (slice_index_or watches p no_watch) =
    sym (get_or_from_slice_get waits p what.NotWithin what.NotWithin there) ∙ told.each p no_search no_watch what.NotWithin here in
    let both = open-by s.keeping (slice_index_or watches p no_watch).missed s.cycle (sym is) in
    subst (λ q. HasNoOwnCycle k.config k.programs q ticks) (at-place process_of own (length k.config.processes) p no_search are.processes known)
    (no-cycle law k ticks s checked accepted few (are.all p no_search here) (looked p no_search here) both.0 both.1)

-- what a kernel's searches and watches tell of its run
pub always-of : (w : Workload) (ticks : ℕ) (k : Running) (watches : List WaitWatch) (before after : Searches) (run : RunTold) (waits : List Waits) → RunIsTold → WaitsAreTold → loaded_of k ≡ w
    → IsLoaded w → HasSettled k before after → (before.run.cycle ≡ None → k.ticks ≡ ticks) → HaveEnded before k.ticks ticks → AreWatches k.config k.programs k.ticks watches
    → run ≡ run_told after.run → AreTold after.own.items watches (length after.own.items) waits
    → OwnIsFound → k.ticks ≤ ticks → HaveLooked k (ticks + 1) before
    → IsRunTold w.config w.programs ticks run × AreWaits w.config w.programs ticks waits
    × ((p : ℕ) → slice_get waits p ≡ Some what.NotWithin → HasNoOwnCycle w.config w.programs p ticks)
always-of w ticks k watches before after run waits run-law waits-law of loaded settled all ended seen run-is told found-law few looked =
    let checked : IsChecked k.config = subst (λ (v : Workload). IsChecked v.config) (sym of) loaded.checked in
    let accepted : IsAccepted k.config = subst (λ (v : Workload). IsAccepted v.config) (sym of) loaded.accepted in
    let of-run : IsRunTold k.config k.programs ticks run =
    subst (IsRunTold k.config k.programs ticks) (sym run-is)
    (told-in k.config k.programs k.ticks ticks (run_told after.run) (run-law k.config k.programs k.ticks after.run checked accepted settled.is.run settled.first)
    (λ none. all (settled.had none))) in
    let of-waits : AreWaits k.config k.programs ticks waits =
    are-waits waits-law k.config k.programs k.ticks ticks after.own.items watches waits checked accepted settled.is.own seen told
    (subst (λ (own : List OwnSearch). All IsDone own ⊎ (k.ticks ≡ ticks)) (sym settled.own) ended) in (
      subst (λ (v : Workload). IsRunTold v.config v.programs ticks run) of of-run,
      subst (λ (v : Workload). AreWaits v.config v.programs ticks waits) of of-waits,
      subst (λ (v : Workload). (p : ℕ) → slice_get waits p ≡ Some what.NotWithin → HasNoOwnCycle v.config v.programs p ticks) of
          (none-known found-law k ticks after.own.items watches waits checked accepted few settled.is.own
          (subst (All (HasLookedBefore k (ticks + 1))) (sym settled.own) looked.own) told),
    )

-- ---- a watch after the other sees an entry

pub seen-more : (Q : WaitWatch → Type 0) (items : List WaitWatch) (i : ℕ) (new : WaitWatch) → i < length items → ((k : ℕ) (d : WaitWatch) → k < i → Q (get_or items k d))
    → Q new → (k : ℕ) (d : WaitWatch) → k < i + 1 → Q (get_or (set items i new) k d)
seen-more Q items i new within before here = λ k d less.
    elim (cases_eq k i) [
      | inl same ↦ subst (λ j. Q (get_or (set items i new) j d)) (sym same) (subst Q (sym (get_or-set_same items i new d within)) here)
      | inr other ↦ subst Q (sym (get_or-set_other items i k new d other)) (before k d (omega (arith, less, other)))
    ]

pub ahead-more : (P : WaitWatch → Type 0) (items : List WaitWatch) (i : ℕ) (new : WaitWatch)
    → ((k : ℕ) (d : WaitWatch) → k < length items → i ≤ k → P (get_or items k d)) → (k : ℕ) (d : WaitWatch) → k < length (set items i new) → i + 1 ≤ k
    → P (get_or (set items i new) k d)
ahead-more P items i new ahead = λ k d within later.
    let long = length-set items i new in
    let other : k ≢ i = omega (arith, later) in
    subst P (sym (get_or-set_other items i k new d other)) (ahead k d (omega (arith, within, long)) (omega (arith, later)))
