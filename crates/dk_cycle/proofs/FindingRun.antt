-- What repeats of a whole run is found.
use Rattle.dk_cycle.proofs.Names.{ℕ, zero, suc, ◌≡◌, ◌+◌, ◌-◌, ◌*◌, ◌/◌, ◌<◌, ◌≤◌, ◌%◌, ◌∙◌, ◌∷◌, inl, inr, Bool, true, false, List, [], length, map, filter, Option, Some, None, refl, sym, ap, subst, arith, IfSome, slice_get, is_some, add-mod-mod, cases_Bool, cases_eq, cases_lt, div-add-mod, mod_below, zero-mod, Configuration, period, IsChecked, IsAccepted, Thread, ThreadId, Has, Entry, World, world, trace, Context, ReadsNoTickNext, RunStandsAlike, WindowsBegin, standing, RunsRepeatForEver, RunsStandOn, Cycle, ThreadState, ProcessState, RunState, RunSearch, GoesOn, IsBackRun, IsKept, IsLoud, IsProcessState, IsReader, IsSameProcess, Seeks, RunKeepsAgain, runs_on, state_of, IsWholeState, RunSeeks, RunSeeksFrom, IsOldRun, IsYoungRun, FollowsOn, LooksOnRun, LooksLaterAtRun, LooksPastProcess, LooksPastRun, IsOtherProcess, RunIsFound}
use Rattle.dk_cycle.proofs.Starts.{is-loud, keeps-later}
use Rattle.dk_cycle.proofs.Sought.{never, begun, stays, renewed, renewed-old}

mod-sum : (m n d : ℕ) → m % d ≡ 0 → n % d ≡ 0 → (m + n) % d ≡ 0
mod-sum m n d one other = sym (add-mod-mod m n d) ∙ ap (λ k. (m + k) % d) other ∙ ap (λ k. k % d) (omega arith) ∙ one

mod-rest : (m n d : ℕ) → m % d ≡ 0 → (m + n) % d ≡ 0 → n % d ≡ 0
mod-rest m n d one both =
    ap (λ k. k % d) (omega arith) ∙ sym (ap (λ k. (n + k) % d) one) ∙ add-mod-mod n m d ∙ ap (λ k. k % d) (omega arith) ∙ both

-- ---- states of a run that stands alike

abbrev state_with : ℕ → Context → ThreadState
state_with serial context = record { serial = serial; context = context }

keep-in : (x : Thread) (xs : List Thread) → runs_on x ≡ true → filter runs_on (x ∷ xs) ≡ x ∷ filter runs_on xs
keep-in x xs is = rw is refl

keep-out : (x : Thread) (xs : List Thread) → runs_on x ≡ false → filter runs_on (x ∷ xs) ≡ filter runs_on xs
keep-out x xs is = rw is refl

lists-alike : (w v : World) (p : ℕ) (xs ys : List Thread) → map standing xs ≡ map standing ys
    → ((x : Thread) → Has xs x → x.stop ≡ None → (w.images p).contexts x.id.serial ≡ (v.images p).contexts x.id.serial)
    → map (state_of w p) (filter runs_on xs) ≡ map (state_of v p) (filter runs_on ys)
lists-alike w v p [] [] same contexts = refl
lists-alike w v p [] (y ∷ ys) same contexts = absurd (cc)
lists-alike w v p (x ∷ xs) [] same contexts = absurd (cc)
lists-alike w v p (x ∷ xs) (y ∷ ys) same contexts =
    let here : standing x ≡ standing y = cc in
    let tail : map standing xs ≡ map standing ys = cc in
    at here (lists-alike w v p xs ys tail (λ z has. contexts z (inr has))) x.stop y.stop refl refl (ap (λ s. s.stopped) here)
  where
    at : standing x ≡ standing y → map (state_of w p) (filter runs_on xs) ≡ map (state_of v p) (filter runs_on ys) → (o o' : Option ℕ) → x.stop ≡ o → y.stop ≡ o'
        → is_some x.stop ≡ is_some y.stop → map (state_of w p) (filter runs_on (x ∷ xs)) ≡ map (state_of v p) (filter runs_on (y ∷ ys))
    at here rest None None is is' stops =
        let one : runs_on x ≡ true = rw is refl in
        let other : runs_on y ≡ true = rw is' refl in
        let ids : x.id ≡ y.id = ap (λ s. s.id) here in
        let first : state_of w p x ≡ state_of v p y =
        ap (state_with x.id.serial) (contexts x (inl refl) is) ∙ ap (λ (i : ThreadId). state_with i.serial ((v.images p).contexts i.serial)) ids in
        ap (map (state_of w p)) (keep-in x xs one)
        ∙ ap (λ z. z ∷ map (state_of w p) (filter runs_on xs)) first
        ∙ ap (λ zs. state_of v p y ∷ zs) rest
        ∙ sym (ap (map (state_of v p)) (keep-in y ys other))
    at here rest (Some m) (Some n) is is' stops =
        let one : runs_on x ≡ false = rw is refl in
        let other : runs_on y ≡ false = rw is' refl in
        ap (map (state_of w p)) (keep-out x xs one) ∙ rest ∙ sym (ap (map (state_of v p)) (keep-out y ys other))
    at here rest None (Some n) is is' stops =
        let never : false ≡ true = sym (ap is_some is) ∙ stops ∙ ap is_some is' in
        absurd (cc)
    at here rest (Some m) None is is' stops =
        let never : true ≡ false = sym (ap is_some is) ∙ stops ∙ ap is_some is' in
        absurd (cc)

module _ (c : Configuration) (programs : List (List ℕ)) where
  state-at : (s : RunState) (p : ℕ) (one : ProcessState) → IsWholeState c programs s → slice_get s.processes.items p ≡ Some one → p < length c.processes
      → IsProcessState c (world c programs s.tick) p one
  state-at s p one whole is known =
      let a = whole.is p known in
      let both : Some a.0 ≡ Some one = sym a.1 ∙ is in
      let same : a.0 ≡ one = cc in
      subst (IsProcessState c (world c programs s.tick) p) same a.2

  -- where a run stands alike, each process is the same
  same-process : (m now : RunState) (p : ℕ) (one other : ProcessState) → IsWholeState c programs m → IsWholeState c programs now
      → RunStandsAlike c (world c programs m.tick) (world c programs now.tick) → p < length c.processes → slice_get m.processes.items p ≡ Some one
      → slice_get now.processes.items p ≡ Some other → IsSameProcess one other
  same-process m now p one other was is alike known there there' =
      let a = state-at m p one was there known in
      let b = state-at now p other is there' known in
      let w = world c programs m.tick in
      let v = world c programs now.tick in
      let threads : one.threads.items ≡ other.threads.items =
      was.each p one there
      ∙ lists-alike w v p _ _ (alike.threads p known) (λ x has running. alike.contexts p x known has running)
      ∙ sym (is.each p other there') in
      record {
        memory = a.memory ∙ alike.memory p known ∙ sym b.memory;
        threads = record { many = ap length threads; each = λ place less. ap (λ l. slice_get l place) threads };
      }

  -- where it isn't back, it doesn't stand again
  not-alike : (m now : RunState) (kept : Bool) → IsWholeState c programs m → IsWholeState c programs now → (IsBackRun (Some m) kept now → ⊥) → kept ≡ true
      → m.tick < now.tick → RunKeepsAgain c programs m.tick (now.tick - m.tick) → ⊥
  not-alike m now kept was is not still low again =
      let there : m.tick + (now.tick - m.tick) ≡ now.tick = omega (arith, low) in
      let alike : RunStandsAlike c (world c programs m.tick) (world c programs now.tick) =
      subst (λ t. RunStandsAlike c (world c programs m.tick) (world c programs t)) there again.stands.alike in
      not (record {
        before = m;
        is = refl;
        still = still;
        later = low;
        same = record {
          many = was.many ∙ sym is.many;
          each = λ p one other less here here'. same-process m now p one other was is alike (subst (λ n. p < n) was.many less) here here';
        };
      })

module _ (law : RunsRepeatForEver) (on : RunsStandOn) (c : Configuration) (programs : List (List ℕ)) (checked : IsChecked c) (accepted : IsAccepted c) where
  later : (s k : ℕ) → RunKeepsAgain c programs s k → 0 < k
  later s k again = again.stands.later

  starts : (s k : ℕ) → RunKeepsAgain c programs s k → WindowsBegin c s
  starts s k again = again.stands.begins

  lasts : (s k : ℕ) → RunKeepsAgain c programs s k → WindowsBegin c k
  lasts s k again = λ i known. mod-rest s k (period c i) (again.stands.begins i known) (again.stands.begins_later i known)

  both : (m n : ℕ) → WindowsBegin c m → WindowsBegin c n → WindowsBegin c (m + n)
  both m n one other = λ i known. mod-sum m n (period c i) (one i known) (other i known)

  goes : (s k n : ℕ) → RunKeepsAgain c programs s k → WindowsBegin c (s + n) → RunKeepsAgain c programs (s + n) k
  goes s k n again begins = record {
    stands = on c programs s k n checked accepted again.stands begins;
    keeps = λ t low high. keeps-later c programs s k t law checked accepted again.stands again.keeps (omega (arith, low));
  }

  many : (q k : ℕ) → WindowsBegin c k → WindowsBegin c (q * k)
  many zero k begins = (let none : 0 ≡ zero * k = grind arith in subst (WindowsBegin c) none (λ i known. zero-mod (period c i)))
  many (suc q) k begins = (let more : k + q * k ≡ suc q * k = grind arith in subst (WindowsBegin c) more (both k (q * k) begins (many q k begins)))

  -- no tick is read any more
  quiet-on : (s k n : ℕ) → RunKeepsAgain c programs s k → s ≤ n → ReadsNoTickNext c (world c programs n)
  quiet-on s k n again low =
      let some = again.stands.later in
      let q = (n - s) / k in
      let m = (n - s) % k in
      let parts = div-add-mod (n - s) k in
      let below = mod_below (n - s) k some in
      let order : k * q ≡ q * k = grind arith in
      let sum : s + q * k + m ≡ n = omega (arith, parts, order, low) in
      let there = on c programs s k (q * k) checked accepted again.stands (both s (q * k) again.stands.begins (many q k (lasts s k again))) in
      subst (λ t. ReadsNoTickNext c (world c programs t)) sum (there.clock m below)

  loud-never : (s k t : ℕ) → RunKeepsAgain c programs s k → s ≤ t → IsLoud c programs t → ⊥
  loud-never s k t again low loud =
      loud (keeps-later c programs s k t law checked accepted again.stands again.keeps low) (quiet-on s k t again low)

  not-now : (now m : RunState) (kept : Bool) → IsWholeState c programs now → (IsBackRun (Some m) kept now → ⊥) → RunSeeks c programs now.tick now.tick kept m
      → RunKeepsAgain c programs m.tick (now.tick - m.tick) → ⊥
  not-now now m kept is not seeks again =
      elim (cases_Bool kept) [
        | inl still ↦ let before = seeks.seeks.before in not-alike c programs m now kept seeks.whole is not still before again
        | inr over ↦ let l = seeks.loud over in let low = l.1 in loud-never m.tick (now.tick - m.tick) l.0 again low l.3
      ]

  -- what is kept stays
  run-young : (now : RunState) (kept : Bool) (o : Option RunState) → IsWholeState c programs now → (IsBackRun o kept now → ⊥) → IsYoungRun o now.tick
      → RunSeeksFrom c programs now.tick now.tick kept o → RunSeeksFrom c programs now.tick (now.tick + 1) kept o
  run-young now kept None is not young seeks = absurd young
  run-young now kept (Some m) is not young seeks = record {
    whole = seeks.whole;
    seeks = stays (WindowsBegin c) (RunKeepsAgain c programs) later starts lasts both goes now.tick m.tick seeks.seeks young (not-now now m kept is not seeks);
    loud = seeks.loud;
  }

  -- it is replaced
  run-due : (now : RunState) (kept : Bool) (o : Option RunState) → IsWholeState c programs now → IfSome o (IsKept c programs now.tick kept) → (IsBackRun o kept now → ⊥)
      → (kept ≡ true → IsOldRun o now.tick) → RunSeeksFrom c programs now.tick now.tick kept o → RunSeeks c programs now.tick (now.tick + 1) true now
  run-due now kept None is saved not old seeks =
      let none : now.tick ≡ 0 = seeks in
      record {
        whole = is;
        seeks = subst (λ t. Seeks (WindowsBegin c) (RunKeepsAgain c programs) (t + 1) t) (sym none)
            (begun (WindowsBegin c) (RunKeepsAgain c programs) later starts lasts both goes);
        loud = λ never. absurd (cc);
      }
  run-due now kept (Some m) is saved not old seeks = record {
    whole = is;
    seeks = elim (cases_Bool kept) [
      | inl still ↦
          renewed-old (WindowsBegin c) (RunKeepsAgain c programs) later starts lasts both goes now.tick m.tick seeks.seeks saved.is.begins (old still)
          (not-now now m kept is not seeks)
      | inr over ↦
          renewed (WindowsBegin c) (RunKeepsAgain c programs) later starts lasts both goes now.tick m.tick seeks.seeks saved.is.begins
          (λ k again few. let l = seeks.loud over in let low = l.1 in loud-never m.tick k l.0 again low l.3)
    ];
    loud = λ never. absurd (cc);
  }

  -- what was to be found before tick n
  found-run : (tick n : ℕ) (kept : Bool) (o : Option RunState) → IfSome o (IsKept c programs tick kept) → RunSeeksFrom c programs tick n kept o → (s k : ℕ)
      → RunKeepsAgain c programs s k → 2 * s + k < n → 3 * k < n → ⊥
  found-run tick n kept None saved seeks s k again low low' = let none : n ≡ 0 = seeks in absurd (omega (arith, none, low))
  found-run tick n kept (Some m) saved seeks s k again low low' =
      never (WindowsBegin c) (RunKeepsAgain c programs) later starts lasts both goes n m.tick s k seeks.seeks saved.is.begins again low low'

module _ (law : RunsRepeatForEver) (on : RunsStandOn) where
  pub run-look-young : (before : RunSearch) (now : RunState) → (IsBackRun before.saved before.kept now → ⊥) → IsYoungRun before.saved now.tick
      → LooksOnRun before now before
  run-look-young before now not young c programs checked accepted is state begins looked none =
      run-young law on c programs checked accepted now before.kept before.saved state not young (looked none)

  pub run-look-due : (before : RunSearch) (now : RunState) → (IsBackRun before.saved before.kept now → ⊥) → (before.kept ≡ true → IsOldRun before.saved now.tick)
      → LooksOnRun before now (record before { saved = Some now; kept = true })
  run-look-due before now not old c programs checked accepted is state begins looked none =
      run-due law on c programs checked accepted now before.kept before.saved state is.saved not old (looked none)

  pub run-is-found : RunIsFound
  run-is-found c programs tick search checked accepted is looked none s k again by =
      let start = by.start in
      let long = by.long in
      found-run law on c programs checked accepted tick (tick + 1) search.kept search.saved is.saved (looked none) s k again (omega (arith, start)) (omega (arith, long))

pub run-look-found : (before : RunSearch) (now : RunState) (y : Cycle) → LooksOnRun before now (record before { cycle = Some y })
run-look-found before now y c programs checked accepted is state begins looked none = absurd (cc)

pub run-not-back : (o : Option Cycle) (saved : Option RunState) (kept : Bool) (now : RunState) → o ≡ None → (IsBackRun saved kept now → is_some o ≡ true)
    → IsBackRun saved kept now → ⊥
run-not-back None saved kept now is finds back = let never = finds back in absurd (cc)
run-not-back (Some y) saved kept now is finds back = absurd (cc)

-- the entry of one more tick
follows-saved : (c : Configuration) (programs : List (List ℕ)) (tick n : ℕ) (e : Entry) (reader : Option ℕ) (kept goes : Bool) (o : Option RunState)
    → (GoesOn kept e reader → goes ≡ true) → IfSome o (IsKept c programs tick kept) → trace c programs (tick + 1) ≡ e ∷ trace c programs tick
    → IsReader c programs tick e reader → RunSeeksFrom c programs tick n kept o → RunSeeksFrom c programs (tick + 1) n goes o
follows-saved c programs tick n e reader kept goes None only saved adds here seeks = seeks
follows-saved c programs tick n e reader kept goes (Some m) only saved adds here seeks = record {
  whole = seeks.whole;
  seeks = seeks.seeks;
  loud = λ over.
      elim (cases_Bool kept) [
        | inl still ↦
            let come = saved.come in (
              tick,
              come,
              omega arith,
              is-loud c programs tick e reader adds here (λ g. let yes = only (record { still = still; keeps = g.keeps; none = g.none }) in cc),
            )
        | inr before ↦ let l = seeks.loud before in let low = l.1 in let high = l.2 in (l.0, low, omega (arith, high), l.3)
      ];
}

pub follows-on : (before : RunSearch) (tick : ℕ) (e : Entry) (reader : Option ℕ) (goes : Bool) (after : RunSearch) → (GoesOn before.kept e reader → goes ≡ true)
    → after.cycle ≡ before.cycle → after.saved ≡ before.saved → after.kept ≡ goes → FollowsOn before tick e reader after
follows-on before tick e reader goes after only cycle saved kept c programs n is adds here looked none =
    subst (λ (o : Option RunState). RunSeeksFrom c programs (tick + 1) n after.kept o) (sym saved)
    (subst (λ b. RunSeeksFrom c programs (tick + 1) n b before.saved) (sym kept)
    (follows-saved c programs tick n e reader before.kept goes before.saved only is.saved adds here (looked (sym cycle ∙ none))))

-- ticks at which no windows of all levels begin
later-saved-run : (c : Configuration) (programs : List (List ℕ)) (tick tick' m n : ℕ) (kept : Bool) (o : Option RunState) → tick ≤ tick' → m ≤ n
    → ((t : ℕ) → WindowsBegin c t → m ≤ t → t < n → ⊥) → RunSeeksFrom c programs tick m kept o → RunSeeksFrom c programs tick' n kept o
later-saved-run c programs tick tick' m n kept None later more none seeks =
    let first : m ≡ 0 = seeks in
    elim (cases_eq n 0) [
      | inl same ↦ same
      | inr other ↦ absurd (none 0 (λ i known. zero-mod (period c i)) (omega (arith, first)) (omega (arith, other)))
    ]
later-saved-run c programs tick tick' m n kept (Some s) later more none seeks = record {
  whole = seeks.whole;
  seeks = record {
    before = let before = seeks.seeks.before in omega (arith, before, more);
    young = λ t begins some less.
        elim (cases_lt t m) [
          | inl low ↦ seeks.seeks.young t begins some low
          | inr high ↦ absurd (none t begins high less)
        ];
    since = λ k again less.
        elim (cases_lt (s.tick + k) m) [
          | inl low ↦ seeks.seeks.since k again low
          | inr high ↦ none (s.tick + k) again.stands.begins_later high less
        ];
    early = seeks.seeks.early;
  };
  loud = λ over. let l = seeks.loud over in let high = l.2 in (l.0, l.1, omega (arith, high, later), l.3);
}

pub looks-later-at-run : LooksLaterAtRun
looks-later-at-run c programs tick tick' m n search later more none looked no-cycle =
    later-saved-run c programs tick tick' m n search.kept search.saved later more none (looked no-cycle)

-- without a look
past-young : (c : Configuration) (programs : List (List ℕ)) (tick : ℕ) (kept : Bool) (m : RunState) → tick < 2 * m.tick
    → (RunKeepsAgain c programs m.tick (tick - m.tick) → ⊥) → RunSeeks c programs tick tick kept m → RunSeeks c programs tick (tick + 1) kept m
past-young c programs tick kept m young not seeks = record {
  whole = seeks.whole;
  seeks = record {
    before = let before = seeks.seeks.before in omega (arith, before);
    young = λ t begins some low.
        elim (cases_eq tick t) [
          | inl same ↦ omega (arith, same, young)
          | inr other ↦ seeks.seeks.young t begins some (omega (arith, low, other))
        ];
    since = λ k again low.
        elim (cases_eq tick (m.tick + k)) [
          | inl same ↦
              let long : k ≡ tick - m.tick = omega (arith, same) in
              not (subst (RunKeepsAgain c programs m.tick) long again)
          | inr other ↦ seeks.seeks.since k again (omega (arith, low, other))
        ];
    early = seeks.seeks.early;
  };
  loud = seeks.loud;
}

past-loud : (law : RunsRepeatForEver) (on : RunsStandOn) (c : Configuration) (programs : List (List ℕ)) (tick : ℕ) (kept : Bool) (o : Option RunState) → IsChecked c
    → IsAccepted c → IsYoungRun o tick → kept ≡ false → RunSeeksFrom c programs tick tick kept o → RunSeeksFrom c programs tick (tick + 1) kept o
past-loud law on c programs tick kept None checked accepted young over seeks = absurd young
past-loud law on c programs tick kept (Some m) checked accepted young over seeks =
    past-young c programs tick kept m young (λ again.
    let l = seeks.loud over in
    let low = l.1 in
    loud-never law on c programs checked accepted m.tick (tick - m.tick) l.0 again low l.3) seeks

pub looks-past-run : RunsRepeatForEver → RunsStandOn → LooksPastRun
looks-past-run law on c programs tick search checked accepted young over looked none =
    past-loud law on c programs tick search.kept search.saved checked accepted young over (looked none)

-- the first thread that runs on
first-of : (w : World) (p : ℕ) (xs : List Thread) (t : ThreadState) → slice_get (map (state_of w p) (filter runs_on xs)) 0 ≡ Some t
    → (x : Thread) × Has xs x × (x.stop ≡ None) × (state_of w p x ≡ t)
first-of w p [] t is = absurd (cc)
first-of w p (x ∷ xs) t is = at x.stop refl (first-of w p xs t)
  where
    at : (o : Option ℕ) → x.stop ≡ o
        → (slice_get (map (state_of w p) (filter runs_on xs)) 0 ≡ Some t → (y : Thread) × Has xs y × (y.stop ≡ None) × (state_of w p y ≡ t))
        → (y : Thread) × Has (x ∷ xs) y × (y.stop ≡ None) × (state_of w p y ≡ t)
    at None none rest =
        let one : runs_on x ≡ true = rw none refl in
        let both : Some (state_of w p x) ≡ Some t = sym (ap (λ zs. slice_get (map (state_of w p) zs) 0) (keep-in x xs one)) ∙ is in
        let same : state_of w p x ≡ t = cc in
        (x, inl refl, none, same)
    at (Some n) some rest =
        let one : runs_on x ≡ false = rw some refl in
        let r = rest (sym (ap (λ zs. slice_get (map (state_of w p) zs) 0) (keep-out x xs one)) ∙ is) in
        (r.0, inr r.1, r.2, r.3)

past-other : (c : Configuration) (programs : List (List ℕ)) (tick : ℕ) (kept : Bool) (o : Option RunState) (s : RunState) (p : ℕ) (one : ProcessState) (context : Context)
    (words : List ℕ) → IsYoungRun o tick → o ≡ Some s → p < length c.processes → slice_get s.processes.items p ≡ Some one → IsOtherProcess one context words
    → context ≡ ((world c programs tick).images p).contexts 0 → words ≡ ((world c programs tick).images p).memory → RunSeeksFrom c programs tick tick kept o
    → RunSeeksFrom c programs tick (tick + 1) kept o
past-other c programs tick kept None s p one context words young is known there other context-is words-is seeks = absurd young
past-other c programs tick kept (Some m) s p one context words young is known there other context-is words-is seeks =
    past-young c programs tick kept m young (λ again.
    let before = seeks.seeks.before in
    let same : s ≡ m = cc in
    let there' : slice_get m.processes.items p ≡ Some one = subst (λ (z : RunState). slice_get z.processes.items p ≡ Some one) same there in
    let sum : m.tick + (tick - m.tick) ≡ tick = omega (arith, before) in
    let w = world c programs m.tick in
    let v = world c programs tick in
    let alike : RunStandsAlike c (world c programs m.tick) (world c programs tick) =
    subst (λ t. RunStandsAlike c (world c programs m.tick) (world c programs t)) sum again.stands.alike in
    let a = state-at c programs m p one seeks.whole there' known in
    other (a.memory ∙ alike.memory p known ∙ sym words-is) (λ main first serial.
    let f = first-of w p _ main (sym (ap (λ l. slice_get l 0) (seeks.whole.each p one there')) ∙ first) in
    let zero-serial : f.0.id.serial ≡ 0 = ap (λ (t : ThreadState). t.serial) f.3 ∙ serial in
    sym (ap (λ (t : ThreadState). t.context) f.3) ∙ alike.contexts p f.0 known f.1 f.2 ∙ ap (v.images p).contexts zero-serial ∙ sym context-is)) seeks

pub looks-past-process : LooksPastProcess
looks-past-process c programs tick search s p one context words young is known there other context-is words-is looked none =
    past-other c programs tick search.kept search.saved s p one context words young is known there other context-is words-is (looked none)
