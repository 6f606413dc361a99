-- What was found, told as text.
use Rattle.dk_repeat_search.proofs.Names.{ℕ, ◌≡◌, ◌∙◌, Bool, List, Option, Some, None, refl, ap, sym, subst, option_map, Workload, IsLoaded, Running, Cycle, RunTold, RunSearch, IsRunSearch, OwnIsTold, RunIsTold, reader_by, run_told, with_start, CycleCounts, OwnFound, CyclesAreAlike, IsOneCounted, OwnCyclesAreAlike, names_of, AreOf, found_text, repeats-text, Found, IsSettled, Searches, HasSettled, IsSearching, loaded_of, AreOwnFound, IsFound, IsRepeatsOf, repeats, searched_ticks, AreLast, KnowsLast, Made, made_by, arith, get_or, map, All, ◌+◌, ◌-◌, ◌≤◌, IsChecked, IsAccepted, OwnSearch, OwnTold, IsOwnSearch, HasLookedBefore, HasNoOwnCycle, OwnIsFound, HaveLooked, HasLookedAtRun, HasNoCycle, HasNoneToFind, NoneWasToFind, RunHasNoneToFind, RunIsFound, own_told, told_of}
use Rattle.dk_cycle.specs.declared.keeping.Keeping.TheVariants as kind
use Rattle.dk_repeat_search.proofs.Owning.{search-later}
use Rattle.dk_repeat_search.proofs.Places.{same-at}

-- the search of a kernel's run is one of its configuration with its programs
pub search-of : (k : Running) (v : Workload) (run : RunSearch) (tick : ℕ) → v ≡ loaded_of k → tick ≡ k.ticks → IsRunSearch k.config k.programs k.ticks run
    → IsRunSearch v.config v.programs tick run
search-of k v run tick of now is =
    subst (λ (w : Workload). IsRunSearch w.config w.programs tick run) (sym of) (subst (λ n. IsRunSearch k.config k.programs n run) (sym now) is)

had : (o : Option Cycle) (start : ℕ) → option_map (with_start start) o ≡ None → o ≡ None
had None start is = refl
had (Some y) start is = absurd (cc)

-- the searches after a second pass
pub has-settled : (k : Running) (v : Workload) (s : Searches) (run : RunSearch) (tick : ℕ) → v ≡ loaded_of k → tick ≡ k.ticks → IsSearching k s → IsSettled v tick s.run run
    → HasSettled k s (record s { run = run })
has-settled k v s run tick of now is settled =
    let there : IsSettled (loaded_of k) k.ticks s.run run =
    subst (λ (w : Workload). IsSettled w k.ticks s.run run) of (subst (λ n. IsSettled v n s.run run) now settled) in
    record {
      is = record { run = there.is; own = is.own; programs = is.programs; each = is.each };
      first = there.first;
      had = λ none. had s.run.cycle there.start (sym there.cycle ∙ none);
      own = refl;
    }

-- what was found by the searches up to a tick of a kernel, with what is counted of cycles up to a later one
pub found-all : (w : Workload) (k l : Running) (before after : Searches) (counts : Option CycleCounts) (own : List OwnFound) → loaded_of k ≡ w → l ≡ record k { ticks = l.ticks }
    → HasSettled k before after → IsOneCounted k.config k.programs after.run.cycle counts → AreOwnFound l.config l.programs own
    → AreOf w.config w.programs after.run counts own
found-all w k l before after counts own of same settled counted found =
    let there : AreOwnFound k.config k.programs own = subst (λ (r : Running). AreOwnFound r.config r.programs own) same found in
    subst (λ (v : Workload). AreOf v.config v.programs after.run counts own) of
    (record { tick = k.ticks; run_is = settled.is.run; first = settled.first; counts_are = counted; own_are = there.all; processes = there.processes })

-- a search that found no cycle took all ticks, and knows who read the tick last in them, and which child was made last
pub knows-last : (w : Workload) (k : Running) (ticks : ℕ) (before after : Searches) → loaded_of k ≡ w → HasSettled k before after → (before.run.cycle ≡ None → k.ticks ≡ ticks)
    → KnowsLast w ticks after.run
knows-last w k ticks before after of settled all = λ none.
    subst (λ (v : Workload). AreLast v ticks after.run.reader after.run.made) of
    (subst (λ n. AreLast (loaded_of k) n after.run.reader after.run.made) (all (settled.had none)) (record { reader_is = settled.is.run.reader; made_is = settled.is.run.made }))

-- a search of a process that found no cycle had none to find
pub no-cycle : OwnIsFound → (k : Running) (ticks : ℕ) (s : OwnSearch) → IsChecked k.config → IsAccepted k.config → k.ticks ≤ ticks
    → IsOwnSearch k.config k.programs k.ticks s → HasLookedBefore k (ticks + 1) s → s.keeping ≡ kind.Keeps → s.cycle ≡ None
    → HasNoOwnCycle k.config k.programs s.process ticks
no-cycle law k ticks s checked accepted few is looked keeps none =
    let all : k.ticks + (ticks - k.ticks) ≡ ticks = omega (arith, few) in
    law k.config k.programs ticks s checked accepted
    (subst (λ n. IsOwnSearch k.config k.programs n s) all (search-later k.config k.programs k.ticks (ticks - k.ticks) s is)) looked keeps none

abbrev no_own : OwnSearch
no_own = record { process = 0; period = 0; keeping = kind.Keeps; saved = None; cycle = None }

abbrev no_found : OwnFound
no_found = record { told = own_told no_own; done = None }

-- so none is told only where none was to be found
pub none-was : OwnIsFound → (w : Workload) (k : Running) (ticks : ℕ) (before after : Searches) (own : List OwnFound) → loaded_of k ≡ w → IsLoaded w → HasSettled k before after
    → HaveLooked k (ticks + 1) before → k.ticks ≤ ticks → map told_of own ≡ map own_told after.own.items → NoneWasToFind w ticks own
none-was law w k ticks before after own of loaded settled looked few told =
    let checked : IsChecked k.config = subst (λ (v : Workload). IsChecked v.config) (sym of) loaded.checked in
    let accepted : IsAccepted k.config = subst (λ (v : Workload). IsAccepted v.config) (sym of) loaded.accepted in
    let seen : All (HasLookedBefore k (ticks + 1)) after.own.items = subst (All (HasLookedBefore k (ticks + 1))) (sym settled.own) looked.own in
    subst (λ (v : Workload). NoneWasToFind v ticks own) of (λ i d there.
    let r = same-at told_of own_told own after.own.items i d no_own told there in
    let s = get_or after.own.items i no_own in
    subst (λ (t : OwnTold). HasNoneToFind (loaded_of k) ticks t) (sym r.1)
    (λ keeps none. no-cycle law k ticks s checked accepted few (settled.is.own.all i no_own r.0) (seen i no_own r.0) keeps none))

-- and none is told of the run only where none was to be found
pub no-run-cycle : RunIsFound → (w : Workload) (k : Running) (ticks : ℕ) (before after : Searches) → loaded_of k ≡ w → IsLoaded w → IsSearching k before → HasSettled k before after
    → (before.run.cycle ≡ None → k.ticks ≡ ticks) → HaveLooked k (ticks + 1) before → RunHasNoneToFind w ticks after.run.cycle
no-run-cycle law w k ticks before after of loaded is settled all looked = λ none.
    let checked : IsChecked k.config = subst (λ (v : Workload). IsChecked v.config) (sym of) loaded.checked in
    let accepted : IsAccepted k.config = subst (λ (v : Workload). IsAccepted v.config) (sym of) loaded.accepted in
    let was = settled.had none in
    let reached : k.ticks ≡ ticks = all was in
    let seen : HasLookedAtRun k.config k.programs k.ticks (k.ticks + 1) before.run =
    subst (λ n. HasLookedAtRun k.config k.programs k.ticks (n + 1) before.run) (sym reached) looked.run in
    subst (λ (v : Workload). HasNoCycle v.config v.programs ticks) of
    (subst (λ n. HasNoCycle k.config k.programs n) reached (law k.config k.programs k.ticks before.run checked accepted is.run seen was))

told-last : (w : Workload) (ticks : ℕ) (o : Option Cycle) (reader : Option ℕ) (made : Option Made) → (o ≡ None → AreLast w ticks reader made)
    → o ≡ None → AreLast w ticks (reader_by o reader) (made_by o made)
told-last w ticks None reader made is = is
told-last w ticks (Some y) reader made is = λ none. absurd (cc)

-- the text of what was found tells what repeats for ever
pub repeats-of : (w : Workload) (ticks : ℕ) (text : List ℕ) (whole : Bool) (f : Found) → RunIsTold → OwnIsTold → CyclesAreAlike → OwnCyclesAreAlike → IsLoaded w
    → IsFound w f → KnowsLast w (searched_ticks ticks) f.run → NoneWasToFind w (searched_ticks ticks) f.own.items
    → RunHasNoneToFind w (searched_ticks ticks) f.run.cycle → text ≡ found_text (names_of w.config) ticks f.run f.counts f.own.items → whole ≡ repeats (run_told f.run)
    → IsRepeatsOf w ticks text whole
repeats-of w ticks text whole f run-law own-law cycles-law own-cycles-law loaded found knows none no-cycles is whole-is =
    let told = repeats-text w.config w.programs ticks f.run f.counts f.own.items text run-law own-law cycles-law own-cycles-law loaded.checked loaded.accepted found is in
    record {
      is = told.0;
      whole_is = whole-is ∙ ap repeats (sym told.1);
      last = subst (λ (t : RunTold). t.cycle ≡ None → AreLast w (searched_ticks ticks) t.reader t.made) (sym told.1)
          (told-last w (searched_ticks ticks) f.run.cycle f.run.reader f.run.made knows);
      none = subst (NoneWasToFind w (searched_ticks ticks)) (sym told.2) none;
      no_cycle = subst (λ (t : RunTold). RunHasNoneToFind w (searched_ticks ticks) t.cycle) (sym told.1) no-cycles;
    }
