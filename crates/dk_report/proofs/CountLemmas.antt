-- How the numbers of a list change with one more entry.
use Rattle.std.proofs.Common.{◌≡◌, ◌≢◌, ◌∙◌, sym, ap, refl, ◌<◌, ◌≤◌, ◌+◌, ℕ, zero, suc, add-zero, zero-add, Bool, true, false, List, [], ◌∷◌, ◌++◌, length, map, get_or, set, length-append, append-nil, arith}
use Rattle.std.specs.Prelude.{Option, Some, None, if◌then◌else◌, ◌==◌, ◌||◌, filter, count_by, replicate, IfSome}
use Rattle.std.specs.Option.{option_map_or}
use Rattle.std.proofs.Math.ListN.{length-set}
use Rattle.std.proofs.lemmas.Bool.{ne_eqb, eq-eqb}
use Rattle.std.proofs.lemmas.List.Sums.{length-filter, count_by-le-length}
use Rattle.std.proofs.lemmas.List.Elements.{filter-append}
use Rattle.dk_config.specs.declared.TheConstants.{MAX_TICKS}
use Rattle.dk_config.specs.Sums.{numbers, below}
use Rattle.dk_config.proofs.Counting.{length-map-numbers, get_or-map-numbers}
use Rattle.dk_trace.specs.declared.Entry.{Entry}
use Rattle.dk_trace.specs.declared.ThreadId.{ThreadId}
use Rattle.dk_trace.specs.declared.Label.{Label}
use Rattle.dk_trace.specs.declared.Event.{Event}
use Rattle.dk_trace.specs.Entries.{has_event, thread_of, kernel_level, is_kernel_at}
use Rattle.dk_report.specs.declared.counting.ProcessTotals.{ProcessTotals}
use Rattle.dk_report.specs.Counts.{Numbers, StandsFor, numbers_of, added, no_totals, with_kernel, with_thread, is_kernel, is_idle, counted, tally_of, with_entry, is_in, is_run, is_call, is_out, is_timeline, is_reclaimed, is_create, is_refused, is_fault, is_of_process}

one_or_none : (b : Bool) (x : Entry) → length (if b then (x ∷ []) else []) ≡ (if b then 1 else 0)
one_or_none true x = refl
one_or_none false x = refl

pub count_by-more : (p : Entry → Bool) (es : List Entry) (e : Entry) → count_by p (es ++ e ∷ []) ≡ count_by p es + (if p e then 1 else 0)
count_by-more p es e =
    sym (length-filter p (es ++ e ∷ [])) ∙ ap length (filter-append p es (e ∷ [])) ∙ length-append (filter p es) (filter p (e ∷ []))
    ∙ ap (λ n. n + length (filter p (e ∷ []))) (length-filter p es) ∙ ap (λ n. count_by p es + n) (one_or_none (p e) e)

counted-is : (b : Bool) (n : ℕ) → n < MAX_TICKS → n + (if b then 1 else 0) ≡ counted b n
counted-is true n h = omega arith
counted-is false n h = omega arith

-- a count that is small enough counts exactly
pub count_by-counted : (p : Entry → Bool) (es : List Entry) (e : Entry) → length es < MAX_TICKS → count_by p (es ++ e ∷ []) ≡ counted (p e) (count_by p es)
count_by-counted p es e few =
    let within = count_by-le-length p es in
    count_by-more p es e ∙ counted-is (p e) (count_by p es) (omega (arith, within, few))

pub count_by-same : (p : Entry → Bool) (es : List Entry) (e : Entry) → p e ≡ false → count_by p (es ++ e ∷ []) ≡ count_by p es
count_by-same p es e h = count_by-more p es e ∙ ap (λ b. count_by p es + (if b then 1 else 0)) h ∙ add-zero (count_by p es)

map-same : {A : Type 0} (f g : ℕ → A) (low n : ℕ) → ((i : ℕ) → low ≤ i → g i ≡ f i) → map f (numbers low n) ≡ map g (numbers low n)
map-same f g low zero same = refl
map-same f g low (suc n) same =
    ap (λ x. x ∷ map f (numbers (suc low) n)) (sym (same low (omega arith))) ∙ ap (λ xs. g low ∷ xs) (map-same f g (suc low) n (λ i h. same i (omega (arith, h))))

-- where one number of a list is replaced, and the others stay
set-map : {A : Type 0} (f g : ℕ → A) (low n k : ℕ) → k < n → ((i : ℕ) → i ≢ low + k → g i ≡ f i) → set (map f (numbers low n)) k (g (low + k)) ≡ map g (numbers low n)
set-map f g low zero k h others = absurd (omega arith)
set-map f g low (suc n) zero h others =
    ap (λ j. g j ∷ map f (numbers (suc low) n)) (add-zero low)
    ∙ ap (λ xs. g low ∷ xs) (map-same f g (suc low) n (λ i above. others i (λ same. omega (arith, above, same))))
set-map f g low (suc n) (suc k) h others =
    let same : low + suc k ≡ suc low + k = omega arith in
    ap (λ x. x ∷ set (map f (numbers (suc low) n)) k (g (low + suc k))) (sym (others low (λ is. omega (arith, is))))
    ∙ ap (λ j. g low ∷ set (map f (numbers (suc low) n)) k (g j)) same
    ∙ ap (λ xs. g low ∷ xs) (set-map f g (suc low) n k (omega arith) (λ i other. others i (λ is. other (is ∙ same))))

-- the number at k is counted on
set-below : {A : Type 0} (f g : ℕ → A) (n k : ℕ) (d : A) (count : A → A) → k < n → count (f k) ≡ g k → ((i : ℕ) → i ≢ k → g i ≡ f i)
    → set (map f (below n)) k (count (get_or (map f (below n)) k d)) ≡ map g (below n)
set-below f g n k d count h here others =
    ap (λ x. set (map f (below n)) k (count x)) (get_or-map-numbers f 0 n k d h ∙ ap f (zero-add k))
    ∙ ap (λ x. set (map f (below n)) k x) (here ∙ ap g (sym (zero-add k)))
    ∙ set-map f g 0 n k h (λ i other. others i (λ is. other (is ∙ sym (zero-add k))))

not_same : (i j : ℕ) → i ≢ j → (j == i) ≡ false
not_same i j h = ne_eqb j i (λ is. h (sym is))

module _ (n : ℕ) (es : List Entry) (few : length es < MAX_TICKS) where
  no_kernel : (label : Label) (event : Option Event) → kernel_level label ≡ None
      → map (λ j. count_by (is_kernel_at j) es) (below n) ≡ map (λ j. count_by (is_kernel_at j) (es ++ record { label = label; event = event } ∷ [])) (below n)
  no_kernel label event none =
      map-same (λ j. count_by (is_kernel_at j) es) (λ j. count_by (is_kernel_at j) (es ++ record { label = label; event = event } ∷ [])) 0 n
      (λ j h. count_by-same (is_kernel_at j) es (record { label = label; event = event }) (ap (λ o. option_map_or (λ k. k == j) o false) none))

  pub levels-append : (label : Label) (event : Option Event) → IfSome (kernel_level label) (λ j. j < n)
      → with_kernel (map (λ j. count_by (is_kernel_at j) es) (below n)) label ≡ map (λ j. count_by (is_kernel_at j) (es ++ record { label = label; event = event } ∷ [])) (below n)
  levels-append (Label.Kernel j) event h =
      let e : Entry = record { label = Label.Kernel j; event = event } in
      set-below (λ i. count_by (is_kernel_at i) es) (λ i. count_by (is_kernel_at i) (es ++ e ∷ [])) n j 0 (counted true) h
      (sym (count_by-counted (is_kernel_at j) es e few ∙ ap (λ b. counted b (count_by (is_kernel_at j) es)) (eq-eqb j j refl)))
      (λ i other. count_by-same (is_kernel_at i) es e (not_same i j other))
  levels-append (Label.In x) event h = no_kernel (Label.In x) event refl
  levels-append (Label.Run x) event h = no_kernel (Label.Run x) event refl
  levels-append (Label.Call x) event h = no_kernel (Label.Call x) event refl
  levels-append (Label.Out x) event h = no_kernel (Label.Out x) event refl
  levels-append (Label.Slack x s w) event h = no_kernel (Label.Slack x s w) event refl
  levels-append Label.Idle event h = no_kernel Label.Idle event refl

-- two records with the same fields
pub totals-equal : (a b : ProcessTotals) → a.ins ≡ b.ins → a.runs ≡ b.runs → a.calls ≡ b.calls → a.outs ≡ b.outs → a.timeline ≡ b.timeline → a.reclaimed ≡ b.reclaimed → a.created ≡ b.created → a.refused ≡ b.refused → a.faults ≡ b.faults → a ≡ b
totals-equal a b e0 e1 e2 e3 e4 e5 e6 e7 e8 =
    ap (λ x. record { ins = x; runs = a.runs; calls = a.calls; outs = a.outs; timeline = a.timeline; reclaimed = a.reclaimed; created = a.created; refused = a.refused; faults = a.faults }) e0
    ∙ ap (λ x. record { ins = b.ins; runs = x; calls = a.calls; outs = a.outs; timeline = a.timeline; reclaimed = a.reclaimed; created = a.created; refused = a.refused; faults = a.faults }) e1
    ∙ ap (λ x. record { ins = b.ins; runs = b.runs; calls = x; outs = a.outs; timeline = a.timeline; reclaimed = a.reclaimed; created = a.created; refused = a.refused; faults = a.faults }) e2
    ∙ ap (λ x. record { ins = b.ins; runs = b.runs; calls = b.calls; outs = x; timeline = a.timeline; reclaimed = a.reclaimed; created = a.created; refused = a.refused; faults = a.faults }) e3
    ∙ ap (λ x. record { ins = b.ins; runs = b.runs; calls = b.calls; outs = b.outs; timeline = x; reclaimed = a.reclaimed; created = a.created; refused = a.refused; faults = a.faults }) e4
    ∙ ap (λ x. record { ins = b.ins; runs = b.runs; calls = b.calls; outs = b.outs; timeline = b.timeline; reclaimed = x; created = a.created; refused = a.refused; faults = a.faults }) e5
    ∙ ap (λ x. record { ins = b.ins; runs = b.runs; calls = b.calls; outs = b.outs; timeline = b.timeline; reclaimed = b.reclaimed; created = x; refused = a.refused; faults = a.faults }) e6
    ∙ ap (λ x. record { ins = b.ins; runs = b.runs; calls = b.calls; outs = b.outs; timeline = b.timeline; reclaimed = b.reclaimed; created = b.created; refused = x; faults = a.faults }) e7
    ∙ ap (λ x. record { ins = b.ins; runs = b.runs; calls = b.calls; outs = b.outs; timeline = b.timeline; reclaimed = b.reclaimed; created = b.created; refused = b.refused; faults = x }) e8

pub numbers-equal : (a b : Numbers) → a.entries ≡ b.entries → a.kernel ≡ b.kernel → a.switch ≡ b.switch → a.body ≡ b.body → a.slack ≡ b.slack → a.idle ≡ b.idle → a.levels ≡ b.levels → a.processes ≡ b.processes → a ≡ b
numbers-equal a b e0 e1 e2 e3 e4 e5 e6 e7 =
    ap (λ x. record { entries = x; kernel = a.kernel; switch = a.switch; body = a.body; slack = a.slack; idle = a.idle; levels = a.levels; processes = a.processes }) e0
    ∙ ap (λ x. record { entries = b.entries; kernel = x; switch = a.switch; body = a.body; slack = a.slack; idle = a.idle; levels = a.levels; processes = a.processes }) e1
    ∙ ap (λ x. record { entries = b.entries; kernel = b.kernel; switch = x; body = a.body; slack = a.slack; idle = a.idle; levels = a.levels; processes = a.processes }) e2
    ∙ ap (λ x. record { entries = b.entries; kernel = b.kernel; switch = b.switch; body = x; slack = a.slack; idle = a.idle; levels = a.levels; processes = a.processes }) e3
    ∙ ap (λ x. record { entries = b.entries; kernel = b.kernel; switch = b.switch; body = b.body; slack = x; idle = a.idle; levels = a.levels; processes = a.processes }) e4
    ∙ ap (λ x. record { entries = b.entries; kernel = b.kernel; switch = b.switch; body = b.body; slack = b.slack; idle = x; levels = a.levels; processes = a.processes }) e5
    ∙ ap (λ x. record { entries = b.entries; kernel = b.kernel; switch = b.switch; body = b.body; slack = b.slack; idle = b.idle; levels = x; processes = a.processes }) e6
    ∙ ap (λ x. record { entries = b.entries; kernel = b.kernel; switch = b.switch; body = b.body; slack = b.slack; idle = b.idle; levels = b.levels; processes = x }) e7

-- the numbers of the entries of one process
tally_of-append : (es : List Entry) (e : Entry) → length es < MAX_TICKS → tally_of (es ++ e ∷ []) ≡ with_entry (tally_of es) e
tally_of-append es e few =
    let on = λ (test : Label → Bool). count_by-counted (λ x. test x.label) es e few in
    let by = λ (test : Event → Bool). count_by-counted (has_event test) es e few in
    totals-equal (tally_of (es ++ e ∷ [])) (with_entry (tally_of es) e)
    (on is_in) (on is_run) (on is_call) (on is_out) (on is_timeline) (on is_reclaimed) (by is_create) (by is_refused) (by is_fault)

filtered_few : (p : Entry → Bool) (es : List Entry) → length es < MAX_TICKS → length (filter p es) < MAX_TICKS
filtered_few p es few = let is = length-filter p es in let within = count_by-le-length p es in omega (arith, is, within, few)

module _ (n : ℕ) (es : List Entry) (few : length es < MAX_TICKS) where
  of_other : (p : ℕ) (e : Entry) → is_of_process p e ≡ false → tally_of (filter (is_of_process p) (es ++ e ∷ [])) ≡ tally_of (filter (is_of_process p) es)
  of_other p e h =
      ap tally_of (filter-append (is_of_process p) es (e ∷ []) ∙ ap (λ b. filter (is_of_process p) es ++ (if b then (e ∷ []) else [])) h ∙ append-nil (filter (is_of_process p) es))

  of_this : (p : ℕ) (e : Entry) → is_of_process p e ≡ true → with_entry (tally_of (filter (is_of_process p) es)) e ≡ tally_of (filter (is_of_process p) (es ++ e ∷ []))
  of_this p e h =
      sym (ap tally_of (filter-append (is_of_process p) es (e ∷ []) ∙ ap (λ b. filter (is_of_process p) es ++ (if b then (e ∷ []) else [])) h)
      ∙ tally_of-append (filter (is_of_process p) es) e (filtered_few (is_of_process p) es few))

  pub processes-append : (e : Entry) (o : Option ThreadId) → thread_of e.label ≡ o → IfSome o (λ x. x.process < n)
      → option_map_or (λ x. set (map (λ p. tally_of (filter (is_of_process p) es)) (below n)) x.process
      (with_entry (get_or (map (λ p. tally_of (filter (is_of_process p) es)) (below n)) x.process no_totals) e)) o (map (λ p. tally_of (filter (is_of_process p) es)) (below n))
      ≡ map (λ p. tally_of (filter (is_of_process p) (es ++ e ∷ []))) (below n)
  processes-append e None is h =
      map-same (λ p. tally_of (filter (is_of_process p) es)) (λ p. tally_of (filter (is_of_process p) (es ++ e ∷ []))) 0 n
      (λ p above. of_other p e (ap (λ o. option_map_or (λ x. x.process == p) o false) is))
  processes-append e (Some x) is h =
      set-below (λ p. tally_of (filter (is_of_process p) es)) (λ p. tally_of (filter (is_of_process p) (es ++ e ∷ []))) n x.process no_totals (λ t. with_entry t e) h
      (of_this x.process e (ap (λ o. option_map_or (λ y. y.process == x.process) o false) is ∙ eq-eqb x.process x.process refl))
      (λ p other. of_other p e (ap (λ o. option_map_or (λ y. y.process == p) o false) is ∙ not_same p x.process other))

added-numbers : (levels processes : ℕ) (es : List Entry) (e : Entry) → length es < MAX_TICKS
    → IfSome (kernel_level e.label) (λ j. j < levels) → IfSome (thread_of e.label) (λ x. x.process < processes)
    → added (numbers_of levels processes es) e ≡ numbers_of levels processes (es ++ e ∷ [])
added-numbers levels processes es e few level process =
    let on = λ (test : Label → Bool). sym (count_by-counted (λ x. test x.label) es e few) in
    numbers-equal (added (numbers_of levels processes es) e) (numbers_of levels processes (es ++ e ∷ []))
    (sym (length-append es (e ∷ []) ∙ counted-is true (length es) few))
    (on is_kernel) (on (λ l. is_in l || is_out l)) (on (λ l. is_run l || is_call l)) (on (λ l. is_timeline l || is_reclaimed l)) (on is_idle)
    (levels-append levels es few e.label e.event level) (processes-append processes es few e (thread_of e.label) refl process)

-- the numbers of a list, with one more entry, are those of the longer list
pub stands_after : (n next : Numbers) (es : List Entry) (e : Entry) → next ≡ added n e → StandsFor n es → length es < MAX_TICKS
    → IfSome (kernel_level e.label) (λ j. j < length n.levels) → IfSome (thread_of e.label) (λ x. x.process < length n.processes) → StandsFor next (es ++ e ∷ [])
stands_after n next es e is stands few level process =
    let whole : next ≡ numbers_of (length n.levels) (length n.processes) (es ++ e ∷ []) =
    is ∙ ap (λ m. added m e) stands ∙ added-numbers (length n.levels) (length n.processes) es e few level process in
    let levels : length next.levels ≡ length n.levels =
    ap (λ m. length m.levels) whole ∙ length-map-numbers (λ j. count_by (is_kernel_at j) (es ++ e ∷ [])) 0 (length n.levels) in
    let processes : length next.processes ≡ length n.processes =
    ap (λ m. length m.processes) whole ∙ length-map-numbers (λ p. tally_of (filter (is_of_process p) (es ++ e ∷ []))) 0 (length n.processes) in
    whole ∙ ap (λ k. numbers_of k (length n.processes) (es ++ e ∷ [])) (sym levels) ∙ ap (λ k. numbers_of (length next.levels) k (es ++ e ∷ [])) (sym processes)

same_everywhere : {A : Type 0} (f : ℕ → A) (x : A) (low n : ℕ) → ((i : ℕ) → f i ≡ x) → replicate n x ≡ map f (numbers low n)
same_everywhere f x low zero same = refl
same_everywhere f x low (suc n) same = ap (λ y. y ∷ replicate n x) (sym (same low)) ∙ ap (λ xs. f low ∷ xs) (same_everywhere f x (suc low) n same)

-- where all numbers are 0 they are those of no entry
pub start_stands : (levels : List ℕ) (processes : List ProcessTotals) (m n : ℕ) → levels ≡ replicate m 0 → processes ≡ replicate n no_totals
    → StandsFor (record { entries = 0; kernel = 0; switch = 0; body = 0; slack = 0; idle = 0; levels = levels; processes = processes }) []
start_stands levels processes m n zeros blanks =
    let of_levels : levels ≡ map (λ j. count_by (is_kernel_at j) []) (below m) = zeros ∙ same_everywhere (λ j. count_by (is_kernel_at j) []) 0 0 m (λ i. refl) in
    let of_processes : processes ≡ map (λ p. tally_of (filter (is_of_process p) [])) (below n) = blanks ∙ same_everywhere (λ p. tally_of (filter (is_of_process p) [])) no_totals 0 n (λ i. refl) in
    let as_many_levels : length levels ≡ m = ap length of_levels ∙ length-map-numbers (λ j. count_by (is_kernel_at j) []) 0 m in
    let as_many_processes : length processes ≡ n = ap length of_processes ∙ length-map-numbers (λ p. tally_of (filter (is_of_process p) [])) 0 n in
    numbers-equal (record { entries = 0; kernel = 0; switch = 0; body = 0; slack = 0; idle = 0; levels = levels; processes = processes }) (numbers_of (length levels) (length processes) [])
    refl refl refl refl refl refl
    (of_levels ∙ ap (λ k. map (λ j. count_by (is_kernel_at j) []) (below k)) (sym as_many_levels))
    (of_processes ∙ ap (λ k. map (λ p. tally_of (filter (is_of_process p) [])) (below k)) (sym as_many_processes))

-- a label or an entry leaves as many levels and processes as there are
pub as_many_levels : (ns : List ℕ) (label : Label) → length (with_kernel ns label) ≡ length ns
as_many_levels ns (Label.Kernel j) = simp length-set
as_many_levels ns (Label.In x) = refl
as_many_levels ns (Label.Run x) = refl
as_many_levels ns (Label.Call x) = refl
as_many_levels ns (Label.Out x) = refl
as_many_levels ns (Label.Slack x s w) = refl
as_many_levels ns Label.Idle = refl

pub as_many_processes : (ts : List ProcessTotals) (e : Entry) → length (with_thread ts e) ≡ length ts
as_many_processes ts e = by (thread_of e.label)
  where
    by : (o : Option ThreadId) → length (option_map_or (λ x. set ts x.process (with_entry (get_or ts x.process no_totals) e)) o ts) ≡ length ts
    by None = refl
    by (Some x) = simp length-set
