-- A run, or a process, that is what it was stands again.
use Rattle.dk_cycle.proofs.Names.{ℕ, suc, ◌≡◌, ◌+◌, ◌-◌, ◌<◌, ◌≤◌, ◌%◌, ◌∙◌, ◌∷◌, inl, inr, Bool, true, List, length, Option, Some, None, refl, sym, ap, subst, arith, slice_get, IfSome, ◌∣◌, option_map_or, cases_eq, slice_get_within, dvd_trans, dvd_of_mod-eq-zero, mod-eq-zero_of_dvd, Configuration, period, main_level, IsChecked, IsAccepted, IsWithinLimits, Entry, World, world, trace, WindowBegins, ProcessStandsAlike, ProcessStandsAgain, ReadsNoTickNext, WindowsBegin, ThreadsStandAlike, RunStandsAlike, RunStandsAgain, entry_at, keeps_threads, newest, EntriesKeepThreads, EntriesShowReads, NobodyReads, ReadsTickAt, Cycle, MainState, OwnSearch, ThreadState, ProcessState, RunState, RunSearch, IsFound, IsMainState, IsOwnSearch, IsSavedMain, AreAllProcesses, AreProcessStates, AreSame, AreSameThreads, IsFoundRun, IsKept, IsLongest, IsLastReader, IsReader, IsRunSearch, IsRunState, IsSameProcess, GoesOn, KeepsThreadsFrom, KeepsThreadsIn, last_reader, Made, IsLastMade, MakesNone, last_made, made_in, option_or}
use Rattle.dk_cycle.proofs.Serials.{made-tick}

begins-by : (c : Configuration) (p tick own : ℕ) → own ≡ period c (main_level c p) → tick % own ≡ 0 → WindowBegins c p tick
begins-by c p tick own is begins = subst (λ n. tick % n ≡ 0) is begins

-- from what is kept to what the process is now
pub process-again : (c : Configuration) (programs : List (List ℕ)) (p : ℕ) (saved : Option MainState) (now : MainState) (y : Cycle) → IfSome saved (IsSavedMain c programs p)
    → IsMainState c programs p now → WindowBegins c p now.tick → IsFound saved now y → ProcessStandsAgain c programs p y.start y.length
process-again c programs p saved now y kept is begins found =
    let before = found.before in
    let was : IsSavedMain c programs p before = subst (λ (o : Option MainState). IfSome o (IsSavedMain c programs p)) found.is kept in
    let later = found.later in
    let start = found.start in
    let long = found.lasts in
    let sum : now.tick ≡ y.start + y.length = omega (arith, later, start, long) in
    let alike : ProcessStandsAlike c p (world c programs before.tick) (world c programs now.tick) =
    record {
      memory = sym was.is.memory ∙ found.same.memory ∙ is.memory;
      context = sym was.is.context ∙ found.same.context ∙ is.context;
      stopped = sym was.is.stopped ∙ found.same.stopped ∙ is.stopped;
    } in
    record {
      later = omega (arith, later, long);
      begins = subst (WindowBegins c p) (sym start) was.begins;
      begins_later = subst (WindowBegins c p) sum begins;
      alike = subst (λ t. ProcessStandsAlike c p (world c programs t) (world c programs (y.start + y.length))) (sym start)
          (subst (λ t. ProcessStandsAlike c p (world c programs before.tick) (world c programs t)) sum alike);
    }

pub saved-now : (c : Configuration) (programs : List (List ℕ)) (p own : ℕ) (now : MainState) → own ≡ period c (main_level c p) → IsMainState c programs p now → now.tick % own ≡ 0
    → IsSavedMain c programs p now
saved-now c programs p own now period is begins = record { begins = begins-by c p now.tick own period begins; is = is }

-- a search that found a cycle, or keeps what the process is now
pub with-cycle : (c : Configuration) (programs : List (List ℕ)) (search : OwnSearch) (now : MainState) (y : Cycle) → IsOwnSearch c programs now.tick search
    → IsMainState c programs search.process now → now.tick % search.period ≡ 0 → IsFound search.saved now y
    → IsOwnSearch c programs now.tick (record search { cycle = Some y })
with-cycle c programs search now y is state begins found = record {
  known = is.known;
  period = is.period;
  some = is.some;
  keeping = is.keeping;
  saved = is.saved;
  cycle = process-again c programs search.process search.saved now y is.saved state (begins-by c search.process now.tick search.period is.period begins) found;
  within = let later = found.later in let start = found.start in let long = found.lasts in omega (arith, later, start, long);
}

pub with-saved : (c : Configuration) (programs : List (List ℕ)) (search : OwnSearch) (now : MainState) → IsOwnSearch c programs now.tick search
    → IsMainState c programs search.process now → now.tick % search.period ≡ 0 → IsOwnSearch c programs now.tick (record search { saved = Some now })
with-saved c programs search now is state begins = record {
  known = is.known;
  period = is.period;
  some = is.some;
  keeping = is.keeping;
  saved = saved-now c programs search.process search.period now is.period state begins;
  cycle = is.cycle;
  within = is.within;
}

-- states that are the same, place by place
pub threads-more : (one other : List ThreadState) (place : ℕ) → AreSameThreads one other place → slice_get one place ≡ slice_get other place → AreSameThreads one other (place + 1)
threads-more one other place before here = λ i less.
    elim (cases_eq place i) [
      | inl same ↦ subst (λ j. slice_get one j ≡ slice_get other j) same here
      | inr apart ↦ before i (omega (arith, less, apart))
    ]

pub same-more : (one other : List ProcessState) (many : ℕ) (s t : ProcessState) → AreSame one other many → slice_get one many ≡ Some s → slice_get other many ≡ Some t
    → IsSameProcess s t → AreSame one other (many + 1)
same-more one other many s t before is is' here = λ p u v less there there'.
    elim (cases_eq many p) [
      | inl same ↦
          let a : slice_get one many ≡ Some u = subst (λ j. slice_get one j ≡ Some u) (sym same) there in
          let b : slice_get other many ≡ Some v = subst (λ j. slice_get other j ≡ Some v) (sym same) there' in
          let first : s ≡ u = cc in
          let second : t ≡ v = cc in
          subst (λ x. IsSameProcess x v) first (subst (λ y. IsSameProcess s y) second here)
      | inr apart ↦ before p u v (omega (arith, less, apart)) there there'
    ]

-- where the processes are the same and the threads stand alike the run does
stands-alike : (c : Configuration) (w v : World) (one other : List ProcessState) → AreProcessStates c w (length c.processes) one → AreProcessStates c v (length c.processes) other
    → AreAllProcesses one other → ThreadsStandAlike c w.past v.past → RunStandsAlike c w v
stands-alike c w v one other were are same threads = record {
  threads = threads;
  memory = λ p here.
      let s = were p here in
      let t = are p here in
      sym s.2.memory ∙ (both p s.0 t.0 s.1 t.1).memory ∙ t.2.memory;
  contexts = λ p x here has running.
      let s = were p here in
      let t = are p here in
      let among = s.2.threads x has running in
      let mine : ThreadState = record { serial = x.id.serial; context = (w.images p).contexts x.id.serial } in
      let low = slice_get_within s.0.threads.items among.0 mine among.1 in
      t.2.contexts among.0 mine (sym ((both p s.0 t.0 s.1 t.1).threads.each among.0 low) ∙ among.1);
}
  where
    both : (p : ℕ) (s t : ProcessState) → slice_get one p ≡ Some s → slice_get other p ≡ Some t → IsSameProcess s t
    both p s t is is' = same.each p s t (slice_get_within one p s is) is is'

pub last-is-longest : (c : Configuration) (n : ℕ) → IsChecked c → IsWithinLimits c → n ≡ period c (length c.levels - 1) → IsLongest c n
last-is-longest c n checked limits is =
    let levels = limits.some_levels in
    record {
      some = subst (λ m. 0 < m) (sym is) (checked.positive (length c.levels - 1) (omega (arith, levels)));
      level = length c.levels - 1;
      known = omega (arith, levels);
      is = is;
      divides = λ i known.
          subst (λ m. period c i ∣ m) (sym is) (checked.divides i (length c.levels - 1) (omega (arith, known)) (omega (arith, levels)));
    }

pub begins-all : (c : Configuration) (longest tick : ℕ) → IsLongest c longest → tick % longest ≡ 0 → WindowsBegin c tick
begins-all c longest tick is begins = λ i known.
    mod-eq-zero_of_dvd (period c i) (dvd_trans (period c i) (is.divides i known) (dvd_of_mod-eq-zero longest begins))

run-again : (c : Configuration) (programs : List (List ℕ)) (saved : Option RunState) (kept : Bool) (now : RunState) (y : Cycle)
    → IfSome saved (IsKept c programs now.tick kept) → IsRunState c programs now → WindowsBegin c now.tick → IsFoundRun saved kept now y
    → RunStandsAgain c programs y.start y.length
run-again c programs saved kept now y keeps is begins found =
    let before = found.before in
    let was : IsKept c programs now.tick kept before = subst (λ (o : Option RunState). IfSome o (IsKept c programs now.tick kept)) found.is keeps in
    let later = found.later in
    let start = found.start in
    let long = found.lasts in
    let sum : now.tick ≡ y.start + y.length = omega (arith, later, start, long) in
    let alike : RunStandsAlike c (world c programs before.tick) (world c programs now.tick) =
    stands-alike c (world c programs before.tick) (world c programs now.tick) before.processes.items now.processes.items was.is.is is found.same (was.threads found.still) in
    record {
      later = omega (arith, later, long);
      begins = subst (WindowsBegin c) (sym start) was.is.begins;
      begins_later = subst (WindowsBegin c) sum begins;
      alike = subst (λ t. RunStandsAlike c (world c programs t) (world c programs (y.start + y.length))) (sym start)
          (subst (λ t. RunStandsAlike c (world c programs before.tick) (world c programs t)) sum alike);
      clock = λ n less. was.clock found.still (y.start + n) (omega (arith, start)) (omega (arith, start, sum, less));
    }

cycle-keeps : (c : Configuration) (programs : List (List ℕ)) (saved : Option RunState) (kept : Bool) (now : RunState) (y : Cycle)
    → IfSome saved (IsKept c programs now.tick kept) → IsFoundRun saved kept now y → KeepsThreadsFrom c programs y.start y.length
cycle-keeps c programs saved kept now y keeps found =
    let before = found.before in
    let was : IsKept c programs now.tick kept before = subst (λ (o : Option RunState). IfSome o (IsKept c programs now.tick kept)) found.is keeps in
    let later = found.later in
    let start = found.start in
    let long = found.lasts in
    λ n low high. was.keeps found.still n (omega (arith, start, low)) (omega (arith, later, start, long, high))

pub run-with-cycle : (c : Configuration) (programs : List (List ℕ)) (search : RunSearch) (now : RunState) (y : Cycle) → IsRunSearch c programs now.tick search
    → IsRunState c programs now → now.tick % search.longest ≡ 0 → IsFoundRun search.saved search.kept now y
    → IsRunSearch c programs now.tick (record search { cycle = Some y })
run-with-cycle c programs search now y is state begins found = record {
  longest = is.longest;
  reader = is.reader;
  made = is.made;
  saved = is.saved;
  cycle = run-again c programs search.saved search.kept now y is.saved state (begins-all c search.longest now.tick is.longest begins) found;
  keeps = cycle-keeps c programs search.saved search.kept now y is.saved found;
  within = let later = found.later in let start = found.start in let long = found.lasts in omega (arith, later, start, long);
}

pub run-with-saved : (c : Configuration) (programs : List (List ℕ)) (search : RunSearch) (now : RunState) → IsRunSearch c programs now.tick search → IsRunState c programs now
    → now.tick % search.longest ≡ 0 → IsRunSearch c programs now.tick (record search { saved = Some now; kept = true })
run-with-saved c programs search now is state begins = record {
  longest = is.longest;
  reader = is.reader;
  made = is.made;
  saved = record {
    is = record { begins = begins-all c search.longest now.tick is.longest begins; is = state };
    come = omega arith;
    threads = λ kept p here. refl;
    clock = λ kept n low high. absurd (omega (arith, low, high));
    keeps = λ kept n low high. absurd (omega (arith, low, high));
  };
  cycle = is.cycle;
  keeps = is.keeps;
  within = is.within;
}

-- the entry of a tick is the one that comes with it
pub entry-there : (c : Configuration) (programs : List (List ℕ)) (tick : ℕ) (e : Entry) → trace c programs (tick + 1) ≡ e ∷ trace c programs tick → entry_at c programs tick ≡ Some e
entry-there c programs tick e adds =
    let one : suc tick ≡ tick + 1 = omega arith in
    ap (λ n. newest (trace c programs n)) one ∙ ap newest adds

pub kept-in : (c : Configuration) (programs : List (List ℕ)) (tick : ℕ) (e : Entry) → trace c programs (tick + 1) ≡ e ∷ trace c programs tick
    → option_map_or keeps_threads e.event true ≡ true → KeepsThreadsIn c programs tick
kept-in c programs tick e adds keeps = λ f is.
    let both : Some e ≡ Some f = sym (entry-there c programs tick e adds) ∙ is in
    let same : e ≡ f = cc in
    subst (λ (g : Entry). option_map_or keeps_threads g.event true ≡ true) same keeps

none-made : (c : Configuration) (programs : List (List ℕ)) (from tick : ℕ) (e : Entry) → trace c programs (tick + 1) ≡ e ∷ trace c programs tick → made_in tick e ≡ None
    → MakesNone c programs from tick → MakesNone c programs from (tick + 1)
none-made c programs from tick e adds none before t f low high is =
    elim (cases_eq tick t) [
      | inl same ↦
          let there : entry_at c programs tick ≡ Some f = subst (λ n. entry_at c programs n ≡ Some f) (sym same) is in
          let both : Some e ≡ Some f = sym (entry-there c programs tick e adds) ∙ there in
          let one : e ≡ f = cc in
          subst (λ g. made_in t g ≡ None) one (subst (λ n. made_in n e ≡ None) same none)
      | inr other ↦ before t f low (omega (arith, high, other)) is
    ]

-- the child that was made last, with the entry of one more tick
made-more : (c : Configuration) (programs : List (List ℕ)) (tick : ℕ) (e : Entry) (before : Option Made) → trace c programs (tick + 1) ≡ e ∷ trace c programs tick
    → IsLastMade c programs tick before → IsLastMade c programs (tick + 1) (last_made before tick e)
made-more c programs tick e before adds was = at (made_in tick e) before refl was
  where
    at : (now : Option Made) (o : Option Made) → made_in tick e ≡ now → IsLastMade c programs tick o → IsLastMade c programs (tick + 1) (option_or now o)
    at (Some m) o makes is =
        let tick-is = made-tick tick e m makes in
        record {
          before = omega (arith, tick-is);
          entry = e;
          is = subst (λ n. entry_at c programs n ≡ Some e) (sym tick-is) (entry-there c programs tick e adds);
          makes = subst (λ n. made_in n e ≡ Some m) (sym tick-is) makes;
          last = λ t f low high there. absurd (omega (arith, low, high, tick-is));
        }
    at None (Some m) makes is = record {
      before = let early = is.before in omega (arith, early);
      entry = is.entry;
      is = is.is;
      makes = is.makes;
      last = none-made c programs (m.tick + 1) tick e adds makes is.last;
    }
    at None None makes is = none-made c programs 0 tick e adds makes is

-- the entry of one more tick
joined : (c : Configuration) (programs : List (List ℕ)) (tick : ℕ) (kept both : Bool) (o : Option RunState)
    → (both ≡ true → (kept ≡ true) × ThreadsStandAlike c (trace c programs tick) (trace c programs (tick + 1)) × ReadsNoTickNext c (world c programs tick)
    × KeepsThreadsIn c programs tick)
    → IfSome o (IsKept c programs tick kept) → IfSome o (IsKept c programs (tick + 1) both)
joined c programs tick kept both None more is = tt
joined c programs tick kept both (Some s) more is = record {
  is = is.is;
  come = let come = is.come in omega (arith, come);
  threads = λ all. let m = more all in λ p here. is.threads m.0 p here ∙ m.1 p here;
  clock = λ all n low high.
      let m = more all in
      elim (cases_eq tick n) [
        | inl same ↦ subst (λ t. ReadsNoTickNext c (world c programs t)) same m.2
        | inr other ↦ is.clock m.0 n low (omega (arith, high, other))
      ];
  keeps = λ all n low high.
      let m = more all in
      elim (cases_eq tick n) [
        | inl same ↦ subst (KeepsThreadsIn c programs) same m.3
        | inr other ↦ is.keeps m.0 n low (omega (arith, high, other))
      ];
}

nobody-more : (c : Configuration) (programs : List (List ℕ)) (from tick : ℕ) (e : Entry) → trace c programs (tick + 1) ≡ e ∷ trace c programs tick
    → ((p : ℕ) → ReadsTickAt c programs tick e p → ⊥) → NobodyReads c programs from tick → NobodyReads c programs from (tick + 1)
nobody-more c programs from tick e adds none before t f p low high is reads =
    elim (cases_eq tick t) [
      | inl same ↦
          let both : f ∷ trace c programs t ≡ e ∷ trace c programs t =
          sym is ∙ subst (λ n. trace c programs (n + 1) ≡ e ∷ trace c programs n) same adds in
          let one : f ≡ e = cc in
          none p (subst (λ n. ReadsTickAt c programs n e p) (sym same) (subst (λ g. ReadsTickAt c programs t g p) one reads))
      | inr other ↦ before t f p low (omega (arith, high, other)) is reads
    ]

reader-more : (c : Configuration) (programs : List (List ℕ)) (tick : ℕ) (e : Entry) (before now : Option ℕ) → trace c programs (tick + 1) ≡ e ∷ trace c programs tick
    → IsReader c programs tick e now → IsLastReader c programs tick before → IsLastReader c programs (tick + 1) (last_reader before now)
reader-more c programs tick e before (Some p) adds here was = record {
  known = here.0;
  tick = tick;
  entry = e;
  before = omega arith;
  is = adds;
  reads = here.1;
  last = λ t f q low high is reads. absurd (omega (arith, low, high));
}
reader-more c programs tick e (Some p) None adds here was = record {
  known = was.known;
  tick = was.tick;
  entry = was.entry;
  before = let early = was.before in omega (arith, early);
  is = was.is;
  reads = was.reads;
  last = nobody-more c programs (was.tick + 1) tick e adds here was.last;
}
reader-more c programs tick e None None adds here was = nobody-more c programs 0 tick e adds here was

still-within : (tick : ℕ) (o : Option Cycle) → IfSome o (λ y. y.start + y.length ≤ tick) → IfSome o (λ y. y.start + y.length ≤ tick + 1)
still-within tick None is = tt
still-within tick (Some y) is = omega (arith, is)

pub followed : (c : Configuration) (programs : List (List ℕ)) (tick : ℕ) (search : RunSearch) (e : Entry) (reader last : Option ℕ) (made : Option Made) (both : Bool) → EntriesKeepThreads
    → EntriesShowReads → (both ≡ true → GoesOn search.kept e reader) → last ≡ last_reader search.reader reader → made ≡ last_made search.made tick e → IsChecked c → IsAccepted c → IsRunSearch c programs tick search
    → trace c programs (tick + 1) ≡ e ∷ trace c programs tick → IsReader c programs tick e reader
    → IsRunSearch c programs (tick + 1) (record search { reader = last; made = made; kept = both })
followed c programs tick search e reader last made both keeping showing goes last-is made-is checked accepted is adds here = record {
  longest = is.longest;
  reader = subst (IsLastReader c programs (tick + 1)) (sym last-is) (reader-more c programs tick e search.reader reader adds here is.reader);
  made = subst (IsLastMade c programs (tick + 1)) (sym made-is) (made-more c programs tick e search.made adds is.made);
  saved = joined c programs tick search.kept both search.saved (λ all.
      let g = goes all in
      let shows = showing c programs tick e checked accepted adds in
      let alike : ThreadsStandAlike c (trace c programs tick) (e ∷ trace c programs tick) = keeping c e (trace c programs tick) g.keeps in (
        g.still,
        subst (λ es. ThreadsStandAlike c (trace c programs tick) es) (sym adds) alike,
        shows.quiet g.keeps (subst (λ (o : Option ℕ). IsReader c programs tick e o) g.none here),
        kept-in c programs tick e adds g.keeps,
      )) is.saved;
  cycle = is.cycle;
  keeps = is.keeps;
  within = still-within tick search.cycle is.within;
}
