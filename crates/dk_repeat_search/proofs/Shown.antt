-- The threads of a process, with their contexts.
use Rattle.dk_repeat_search.proofs.Names.{ℕ, zero, suc, ◌≡◌, ◌+◌, ◌≤◌, ◌∙◌, ◌==◌, ◌&&◌, inl, inr, true, false, Bool, List, [], ◌∷◌, ◌++◌, length, length_push, map, filter, take, take_all, Option, Some, None, refl, sym, ap, subst, arith, slice_get, is_none, is_some, nat_lt, option_map, cases_eq, cases_Bool, nat_tests, or-true, MAX_THREADS, Configuration, ThreadId, is_same, Thread, family, is_main, filter-twice, has-filter, FamilyStands, ThreadRow, is_stopped, counted_row, unplaced, Context, world, trace, main_is_stopped, Running, world_of, trace_of, is_shown, IsRowAt, now_of, thread-of-row, ThreadState, ProcessState, RunState, MainState, IsMainState, AreProcessStates, IsProcessState, HoldsAll, IsWholeState, runs_on, state_of, AreThreads, AreWhole, IsThreadAt, IsWholeProcess, going_on, listed}
use Rattle.dk_inspect.specs.Printing.{shown_of}
use Rattle.dk_threads.specs.Recount.{state_of as row_state}
use Rattle.dk_repeat_search.proofs.Places.{has-place, get-before, get-last, get-more}

running-shown : (c : Configuration) (n : ℕ) (x : Thread) → x.stop ≡ None → is_shown c n x ≡ true
running-shown c n x running = rw running (or-true (is_main x))

abbrev image_of : Running → ℕ → Thread → ThreadState
image_of k p x = state_of (world_of k) p x

-- those among the threads that are shown that run on are all that do
all-running : (k : Running) (p : ℕ) → filter runs_on (shown_of k p) ≡ filter runs_on (family k.config p (trace_of k))
unfolding shown_of
all-running k p = filter-twice runs_on (is_shown k.config (now_of k)) runs_on (family k.config p (trace_of k)) (λ x. shown-runs x x.stop refl)
  where
    and-false : (b : Bool) → (b && false) ≡ false
    and-false true = refl
    and-false false = refl

    shown-runs : (x : Thread) (o : Option ℕ) → x.stop ≡ o → (is_shown k.config (now_of k) x && runs_on x) ≡ runs_on x
    shown-runs x None running = rw (running-shown k.config (now_of k) x running) refl
    shown-runs x (Some t) stopped =
        let off : runs_on x ≡ false = rw stopped refl in
        let shown = is_shown k.config (now_of k) x in
        ap (λ b. shown && b) off ∙ and-false shown ∙ sym off

-- each has its context
contexts-of : (k : Running) (p : ℕ) (xs : List Thread) (i : ℕ) (t : ThreadState) → slice_get (map (image_of k p) xs) i ≡ Some t
    → t.context ≡ ((world_of k).images p).contexts t.serial
contexts-of k p [] i t is = absurd (cc)
contexts-of k p (x ∷ xs) zero t is = let same : image_of k p x ≡ t = cc in subst (λ (s : ThreadState). s.context ≡ ((world_of k).images p).contexts s.serial) same refl
contexts-of k p (x ∷ xs) (suc i) t is = contexts-of k p xs i t is

-- who is among those that run on is so with its context
image-there : (k : Running) (p : ℕ) (xs : List Thread) (i : ℕ) (x : Thread) → slice_get xs i ≡ Some x → slice_get (map (image_of k p) xs) i ≡ Some (image_of k p x)
image-there k p [] i x is = absurd (cc)
image-there k p (y ∷ xs) zero x is = let same : y ≡ x = cc in ap (λ z. Some (image_of k p z)) same
image-there k p (y ∷ xs) (suc i) x is = image-there k p xs i x is

pub process-state : (k : Running) (p : ℕ) (s : ProcessState) → length (shown_of k p) ≤ MAX_THREADS → s.words.items ≡ ((world_of k).images p).memory
    → AreThreads k p s.threads.items MAX_THREADS → IsWholeProcess k p s
process-state k p s few memory threads =
    let running = filter runs_on (family k.config p (trace_of k)) in
    let all : s.threads.items ≡ map (image_of k p) running =
    threads ∙ ap (λ xs. map (image_of k p) (filter runs_on xs)) (take_all MAX_THREADS (shown_of k p) few) ∙ ap (map (image_of k p)) (all-running k p) in
    record {
      is = record {
        memory = memory;
        threads = λ x has on.
            let named : runs_on x ≡ true = rw on refl in
            let r = has-place running x (has-filter runs_on (family k.config p (trace_of k)) x has named) in
            (r.0, subst (λ ts. slice_get ts r.0 ≡ Some (image_of k p x)) (sym all) (image-there k p running r.0 x r.2));
        contexts = λ i t at. contexts-of k p running i t (subst (λ ts. slice_get ts i ≡ Some t) all at);
      };
      all = all;
    }

-- one more place, with a thread that runs on or without one
running-more : (k : Running) (p : ℕ) (xs : List Thread) (i : ℕ)
    → map (image_of k p) (filter runs_on (take (suc i) xs)) ≡ map (image_of k p) (filter runs_on (take i xs)) ++ listed (going_on k p (slice_get xs i))
running-more k p [] zero = refl
running-more k p [] (suc i) = refl
running-more k p (x ∷ xs) zero =
    elim (cases_Bool (runs_on x)) [
      | inl on ↦ rw on refl
      | inr off ↦ rw off refl
    ]
running-more k p (x ∷ xs) (suc i) =
    let rest = running-more k p xs i in
    elim (cases_Bool (runs_on x)) [
      | inl on ↦ rw (on, rest) refl
      | inr off ↦ rw (off, rest) refl
    ]

pub place-more : (k : Running) (p : ℕ) (threads : List ThreadState) (place : ℕ) (o : Option ThreadState) → AreThreads k p threads place → IsThreadAt k p place o
    → AreThreads k p (threads ++ listed o) (place + 1)
place-more k p threads place o before here =
    let xs = shown_of k p in
    let one : place + 1 ≡ suc place = omega arith in
    ap (λ ts. ts ++ listed o) before ∙ ap (λ (t : Option ThreadState). map (image_of k p) (filter runs_on (take place xs)) ++ listed t) here
    ∙ sym (running-more k p xs place) ∙ ap (λ n. map (image_of k p) (filter runs_on (take n xs))) (sym one)

pub no-states : (k : Running) → AreWhole k 0 []
no-states k = record { long = refl; are = λ p less. absurd (omega (arith, less)); all = λ p one at. absurd (cc) }

pub states-more : (k : Running) (states : List ProcessState) (many : ℕ) (s : ProcessState) → AreWhole k many states → IsWholeProcess k many s → AreWhole k (many + 1) (states ++ s ∷ [])
states-more k states many s before here = record {
  long = length_push states s ∙ ap (λ n. n + 1) before.long;
  are = λ p less.
      elim (cases_eq many p) [
        | inl same ↦
            (s, subst (λ j. slice_get (states ++ s ∷ []) j ≡ Some s) (before.long ∙ same) (get-last states s), subst (λ q. IsProcessState k.config (world_of k) q s) same here.is)
        | inr other ↦ let b = before.are p (omega (arith, less, other)) in (b.0, get-before states (s ∷ []) p b.0 b.1, b.2)
      ];
  all = λ p one at.
      elim (get-more states s p one at) [
        | inl new ↦ subst (λ (t : ProcessState). HoldsAll k.config (world_of k) t p) new.1 (subst (HoldsAll k.config (world_of k) s) (sym before.long ∙ sym new.0) here.all)
        | inr old ↦ before.all p one old
      ];
}

same-self : (p : ℕ) → (p == p) ≡ true
same-self p = grind (arith, nat_tests)

main-shown : (k : Running) (p : ℕ) (stands : FamilyStands k.config (trace_of k) p) → slice_get (shown_of k p) 0 ≡ Some stands.main
unfolding shown_of
main-shown k p stands =
    let serial : stands.main.id.serial ≡ 0 = ap (λ (y : ThreadId). y.serial) stands.id in
    let shown : is_shown k.config (now_of k) stands.main ≡ true = rw serial refl in
    rw (stands.rows, shown) refl

main-named : (k : Running) (p : ℕ) (stands : FamilyStands k.config (trace_of k) p) → main_is_stopped k.config p (trace_of k) ≡ is_some stands.main.stop
main-named k p stands =
    let named : is_same (record { process = p; serial = 0 }) stands.main.id ≡ true = rw (stands.id, same-self p) refl in
    rw (stands.rows, named) refl

stopped-state : (n : ℕ) (x : Thread) → is_stopped (row_state n x) ≡ is_some x.stop
stopped-state n x =
    elim (cases_Bool (is_some x.stop)) [
      | inl stopped ↦ rw stopped refl
      | inr runs ↦
          elim (cases_Bool (nat_lt n x.start)) [
            | inl waits ↦ rw (runs, waits) refl
            | inr started ↦ rw (runs, started) refl
          ]
    ]

-- the state of the row at the first place tells whether the main was stopped
pub main-state : (k : Running) (p : ℕ) (row : ThreadRow) → FamilyStands k.config (trace_of k) p → IsRowAt k p 0 (Some row)
    → is_stopped row.state ≡ main_is_stopped k.config p (trace_of k)
main-state k p row stands at =
    let here : Some (unplaced row) ≡ Some (counted_row k.config (now_of k) stands.main) =
    at ∙ ap (option_map (counted_row k.config (now_of k))) (main-shown k p stands) in
    let state : row.state ≡ row_state (now_of k) stands.main = ap (λ (r : ThreadRow). r.state) (some-same here) in
    ap is_stopped state ∙ stopped-state (now_of k) stands.main ∙ sym (main-named k p stands)
  where
    some-same : {a b : ThreadRow} → Some a ≡ Some b → a ≡ b
    some-same is = cc

-- there is no row where there is no thread at the place
pub thread-none : (k : Running) (p place : ℕ) → IsRowAt k p place None → IsThreadAt k p place None
thread-none k p place is = none-at (slice_get (shown_of k p) place) is
  where
    none-at : (o : Option Thread) → None ≡ option_map (counted_row k.config (now_of k)) o → None ≡ going_on k p o
    none-at None at = refl
    none-at (Some x) at = absurd (cc)

goes-on : (k : Running) (p place : ℕ) (row : ThreadRow) → IsRowAt k p place (Some row) → (x : Thread) × (slice_get (shown_of k p) place ≡ Some x) × (row.id ≡ x.id)
    × (is_stopped row.state ≡ is_some x.stop)
goes-on k p place row is =
    let t = thread-of-row k p place row is in
    (t.thread, t.at, t.same.0, ap is_stopped t.same.1 ∙ stopped-state (now_of k) t.thread)

-- the row is one of a thread that was stopped
pub thread-stopped : (k : Running) (p place : ℕ) (row : ThreadRow) → IsRowAt k p place (Some row) → is_stopped row.state ≡ true → IsThreadAt k p place None
thread-stopped k p place row is stopped =
    let t = goes-on k p place row is in
    let off : runs_on t.0 ≡ false = stops t.0.stop (sym t.3 ∙ stopped) in
    let none : going_on k p (Some t.0) ≡ None = rw off refl in
    sym none ∙ ap (going_on k p) (sym t.1)
  where
    stops : (o : Option ℕ) → is_some o ≡ true → is_none o ≡ false
    stops None some = absurd (cc)
    stops (Some n) some = refl

abbrev state_with : ℕ → Context → ThreadState
state_with n z = record { serial = n; context = z }

-- the row's serial with its context is the thread at the place, where it runs on
pub thread-some : (k : Running) (p place : ℕ) (row : ThreadRow) (context : Context) → IsRowAt k p place (Some row) → row.id.process ≡ p
    → context ≡ ((world_of k).images row.id.process).contexts row.id.serial → is_stopped row.state ≡ false
    → IsThreadAt k p place (Some (record { serial = row.id.serial; context = context }))
thread-some k p place row context is process here running =
    let own : context ≡ ((world_of k).images p).contexts row.id.serial = here ∙ ap (λ q. ((world_of k).images q).contexts row.id.serial) process in
    let t = goes-on k p place row is in
    let serial : row.id.serial ≡ t.0.id.serial = ap (λ (i : ThreadId). i.serial) t.2 in
    let on : runs_on t.0 ≡ true = runs t.0.stop (sym t.3 ∙ running) in
    let some : going_on k p (Some t.0) ≡ Some (state_of (world_of k) p t.0) = rw on refl in
    ap (λ (z : Context). Some (state_with row.id.serial z)) own ∙ ap (λ n. Some (state_with n (((world_of k).images p).contexts n))) serial
    ∙ sym some ∙ ap (going_on k p) (sym t.1)
  where
    runs : (o : Option ℕ) → is_some o ≡ false → is_none o ≡ true
    runs None none = refl
    runs (Some n) none = absurd (cc)

pub main-state-of : (k : Running) (p : ℕ) (s : MainState) → s.tick ≡ k.ticks → s.words.items ≡ ((world_of k).images p).memory → s.context ≡ ((world_of k).images p).contexts 0
    → s.stopped ≡ main_is_stopped k.config p (trace_of k) → IsMainState k.config k.programs p s
main-state-of k p s tick memory context stopped = record {
  memory = memory ∙ ap (λ n. ((world k.config k.programs n).images p).memory) (sym tick);
  context = context ∙ ap (λ n. ((world k.config k.programs n).images p).contexts 0) (sym tick);
  stopped = stopped ∙ ap (λ n. main_is_stopped k.config p (trace k.config k.programs n)) (sym tick);
}

pub run-state-of : (k : Running) (s : RunState) → s.tick ≡ k.ticks → AreWhole k (length k.config.processes) s.processes.items → IsWholeState k.config k.programs s
run-state-of k s tick are = record {
  many = are.long;
  is = subst (λ n. AreProcessStates k.config (world k.config k.programs n) (length k.config.processes) s.processes.items) (sym tick) are.are;
  each = λ p one at. subst (λ n. HoldsAll k.config (world k.config k.programs n) one p) (sym tick) (are.all p one at);
}

-- the main has a row
pub main-there : (k : Running) (p : ℕ) → FamilyStands k.config (trace_of k) p → IsRowAt k p 0 None → ⊥
main-there k p stands at =
    let here : None ≡ Some (counted_row k.config (now_of k) stands.main) = at ∙ ap (option_map (counted_row k.config (now_of k))) (main-shown k p stands) in
    absurd (cc)

pub main-row : (k : Running) (p : ℕ) (row : ThreadRow) → FamilyStands k.config (trace_of k) p → IsRowAt k p 0 (Some row) → row.id ≡ record { process = p; serial = 0 }
main-row k p row stands at =
    let t = thread-of-row k p 0 row at in
    let both : Some t.thread ≡ Some stands.main = sym t.at ∙ main-shown k p stands in
    let same : t.thread ≡ stands.main = cc in
    t.same.0 ∙ ap (λ (x : Thread). x.id) same ∙ stands.id
