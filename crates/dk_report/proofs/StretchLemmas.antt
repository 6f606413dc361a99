-- How the numbers of a list change with more entries of one label.
use Rattle.std.proofs.Common.{◌≡◌, ◌∙◌, sym, ap, refl, subst, ◌<◌, ◌≤◌, ◌+◌, ◌-◌, ℕ, zero, suc, Bool, true, false, List, [], ◌∷◌, ◌++◌, length, get_or, set, length-append, append_assoc, append-nil, arith}
use Rattle.std.specs.Prelude.{Option, Some, None, IfSome, replicate}
use Rattle.std.specs.Option.{option_map_or}
use Rattle.std.proofs.Math.ListN.{length-set}
use Rattle.std.proofs.lemmas.List.{get_or-set_same, set-set, replicate_more, length-replicate}
use Rattle.dk_config.specs.declared.TheConstants.{MAX_TICKS}
use Rattle.dk_trace.specs.declared.Entry.{Entry}
use Rattle.dk_trace.specs.declared.Label.{Label}
use Rattle.dk_trace.specs.declared.ThreadId.{ThreadId}
use Rattle.dk_trace.specs.declared.Event.{Event}
use Rattle.dk_trace.specs.Entries.{thread_of, kernel_level, quiet}
use Rattle.dk_ledger.specs.Stretches.{stretch_of}
use Rattle.dk_report.specs.declared.counting.ProcessTotals.{ProcessTotals}
use Rattle.dk_report.specs.Counts.{Numbers, StandsFor, added, added_for, counted, counted_for, no_totals, is_idle, is_in, is_run, is_call, is_out, is_timeline, is_reclaimed, with_kernel, with_kernel_for, with_label, with_label_for, with_thread_label, with_thread_label_for, with_thread_event}
use Rattle.dk_report.specs.Sums.{numbers_with}
use Rattle.dk_report.proofs.CountLemmas.{as_many_levels, as_many_processes, stands_after, totals-equal}
use Rattle.dk_report.proofs.SumLemmas.{counts_alone, counts_event}

-- so many and one more are one more than so many
more-count : (k : ℕ) (b : Bool) (n : ℕ) → counted_for (suc k) b n ≡ counted b (counted_for k b n)
more-count k true n = omega arith
more-count k false n = refl

more-label : (k : ℕ) (t : ProcessTotals) (l : Label) → with_label_for (suc k) t l ≡ with_label (with_label_for k t l) l
more-label k t l =
    totals-equal (with_label_for (suc k) t l) (with_label (with_label_for k t l) l)
    (more-count k (is_in l) t.ins) (more-count k (is_run l) t.runs) (more-count k (is_call l) t.calls) (more-count k (is_out l) t.outs)
    (more-count k (is_timeline l) t.timeline) (more-count k (is_reclaimed l) t.reclaimed) refl refl refl

more-kernel : (k : ℕ) (ns : List ℕ) (l : Label) → IfSome (kernel_level l) (λ j. j < length ns)
    → with_kernel_for (suc k) ns l ≡ with_kernel (with_kernel_for k ns l) l
more-kernel k ns (Label.Kernel j) h =
    let v = counted_for k true (get_or ns j 0) in
    ap (set ns j) (more-count k true (get_or ns j 0)) ∙ sym (set-set ns j v (counted true v))
    ∙ sym (ap (λ n. set (set ns j v) j (counted true n)) (get_or-set_same ns j v 0 h))
more-kernel k ns (Label.In x) h = refl
more-kernel k ns (Label.Run x) h = refl
more-kernel k ns (Label.Call x) h = refl
more-kernel k ns (Label.Out x) h = refl
more-kernel k ns (Label.Slack x s w) h = refl
more-kernel k ns Label.Idle h = refl

more-thread : (k : ℕ) (ts : List ProcessTotals) (l : Label) → IfSome (thread_of l) (λ x. x.process < length ts)
    → with_thread_label_for (suc k) ts l ≡ with_thread_label (with_thread_label_for k ts l) l
more-thread k ts l h = by (thread_of l) h
  where
    by : (o : Option ThreadId) → IfSome o (λ x. x.process < length ts)
        → option_map_or (λ x. set ts x.process (with_label_for (suc k) (get_or ts x.process no_totals) l)) o ts
        ≡ option_map_or (λ x. set (option_map_or (λ y. set ts y.process (with_label_for k (get_or ts y.process no_totals) l)) o ts) x.process
        (with_label (get_or (option_map_or (λ y. set ts y.process (with_label_for k (get_or ts y.process no_totals) l)) o ts) x.process no_totals) l)) o
        (option_map_or (λ y. set ts y.process (with_label_for k (get_or ts y.process no_totals) l)) o ts)
    by None h = refl
    by (Some x) h =
        let row = with_label_for k (get_or ts x.process no_totals) l in
        ap (set ts x.process) (more-label k (get_or ts x.process no_totals) l) ∙ sym (set-set ts x.process row (with_label row l))
        ∙ sym (ap (λ t. set (set ts x.process row) x.process (with_label t l)) (get_or-set_same ts x.process row no_totals h))

-- so many more leave as many levels and processes as there are
same-levels : (k : ℕ) (ns : List ℕ) (l : Label) → length (with_kernel_for k ns l) ≡ length ns
same-levels k ns (Label.Kernel j) = simp length-set
same-levels k ns (Label.In x) = refl
same-levels k ns (Label.Run x) = refl
same-levels k ns (Label.Call x) = refl
same-levels k ns (Label.Out x) = refl
same-levels k ns (Label.Slack x s w) = refl
same-levels k ns Label.Idle = refl

same-processes : (k : ℕ) (ts : List ProcessTotals) (l : Label) → length (with_thread_label_for k ts l) ≡ length ts
same-processes k ts l = by (thread_of l)
  where
    by : (o : Option ThreadId) → length (option_map_or (λ x. set ts x.process (with_label_for k (get_or ts x.process no_totals) l)) o ts) ≡ length ts
    by None = refl
    by (Some x) = simp length-set

-- what is counted of nobody, by level and by process, with so many more of a label
module _ (idle : ℕ) (levels : List ℕ) (ts : List ProcessTotals) (label : Label) (level : IfSome (kernel_level label) (λ j. j < length levels)) (process : IfSome (thread_of label) (λ x. x.process < length ts)) where
  abbrev idles : ℕ → ℕ
  idles k = counted_for k (is_idle label) idle

  abbrev kernels : ℕ → List ℕ
  kernels k = with_kernel_for k levels label

  abbrev threads : ℕ → List ProcessTotals
  threads k = with_thread_label_for k ts label

  level_at : (k : ℕ) → IfSome (kernel_level label) (λ j. j < length (kernels k))
  level_at k = subst (λ n. IfSome (kernel_level label) (λ j. j < n)) (sym (same-levels k levels label)) level

  process_at : (k : ℕ) → IfSome (thread_of label) (λ x. x.process < length (threads k))
  process_at k = subst (λ n. IfSome (thread_of label) (λ x. x.process < n)) (sym (same-processes k ts label)) process

  closed : (k : ℕ) → numbers_with (idles (suc k)) (kernels (suc k)) (threads (suc k)) ≡ added_for (suc k) (numbers_with idle levels ts) (quiet label)
  closed zero = counts_alone idle (idles 1) levels (kernels 1) ts (threads 1) (quiet label) refl refl refl level process refl
  closed (suc k) =
      counts_alone (idles (suc k)) (idles (suc (suc k))) (kernels (suc k)) (kernels (suc (suc k))) (threads (suc k)) (threads (suc (suc k))) (quiet label)
      (more-count (suc k) (is_idle label) idle) (more-kernel (suc k) levels label level) (more-thread (suc k) ts label process) (level_at (suc k)) (process_at (suc k)) refl
      ∙ ap (λ n. added n (quiet label)) (closed k)

-- the numbers with so many entries and one more, from what is counted by level and by process
module _ (idle idle_after : ℕ) (levels levels_after : List ℕ) (ts labelled : List ProcessTotals) (e : Entry) (level : IfSome (kernel_level e.label) (λ j. j < length levels)) (process : IfSome (thread_of e.label) (λ x. x.process < length ts)) where
  abbrev wanted : ℕ → Numbers
  wanted k = added (added_for k (numbers_with idle levels ts) (quiet e.label)) e

  pub counts_alone_for : (k : ℕ) → idle_after ≡ counted_for (suc k) (is_idle e.label) idle → levels_after ≡ with_kernel_for (suc k) levels e.label
      → labelled ≡ with_thread_label_for (suc k) ts e.label → e.event ≡ None → numbers_with idle_after levels_after labelled ≡ wanted k
  counts_alone_for zero idles kernels threads none = counts_alone idle idle_after levels levels_after ts labelled e idles kernels threads level process none
  counts_alone_for (suc k) idles kernels threads none =
      counts_alone (counted_for (suc k) (is_idle e.label) idle) idle_after (with_kernel_for (suc k) levels e.label) levels_after (with_thread_label_for (suc k) ts e.label) labelled e
      (idles ∙ more-count (suc k) (is_idle e.label) idle) (kernels ∙ more-kernel (suc k) levels e.label level) (threads ∙ more-thread (suc k) ts e.label process)
      (level_at idle levels ts e.label level process (suc k)) (process_at idle levels ts e.label level process (suc k)) none
      ∙ ap (λ n. added n e) (closed idle levels ts e.label level process k)

  pub counts_event_for : (k : ℕ) → idle_after ≡ counted_for (suc k) (is_idle e.label) idle → levels_after ≡ with_kernel_for (suc k) levels e.label
      → labelled ≡ with_thread_label_for (suc k) ts e.label → (event : Event) (next : List ProcessTotals) → e.event ≡ Some event
      → next ≡ with_thread_event labelled e.label event → numbers_with idle_after levels_after next ≡ wanted k
  counts_event_for zero idles kernels threads event next some is =
      counts_event idle idle_after levels levels_after ts labelled e idles kernels threads level process event next some is
  counts_event_for (suc k) idles kernels threads event next some is =
      counts_event (counted_for (suc k) (is_idle e.label) idle) idle_after (with_kernel_for (suc k) levels e.label) levels_after (with_thread_label_for (suc k) ts e.label) labelled e
      (idles ∙ more-count (suc k) (is_idle e.label) idle) (kernels ∙ more-kernel (suc k) levels e.label level) (threads ∙ more-thread (suc k) ts e.label process)
      (level_at idle levels ts e.label level process (suc k)) (process_at idle levels ts e.label level process (suc k)) event next some is
      ∙ ap (λ n. added n e) (closed idle levels ts e.label level process k)

-- so many quiet entries more leave as many levels and processes, and stand for a longer list
module _ (n : Numbers) (label : Label) where
  pub levels_for : (k : ℕ) → length (added_for k n (quiet label)).levels ≡ length n.levels
  levels_for zero = refl
  levels_for (suc k) = as_many_levels (added_for k n (quiet label)).levels label ∙ levels_for k

  pub processes_for : (k : ℕ) → length (added_for k n (quiet label)).processes ≡ length n.processes
  processes_for zero = refl
  processes_for (suc k) = as_many_processes (added_for k n (quiet label)).processes (quiet label) ∙ processes_for k

  module _ (level : IfSome (kernel_level label) (λ j. j < length n.levels)) (process : IfSome (thread_of label) (λ x. x.process < length n.processes)) where
    pub level_for : (k : ℕ) → IfSome (kernel_level label) (λ j. j < length (added_for k n (quiet label)).levels)
    level_for k = subst (λ m. IfSome (kernel_level label) (λ j. j < m)) (sym (levels_for k)) level

    pub process_for : (k : ℕ) → IfSome (thread_of label) (λ x. x.process < length (added_for k n (quiet label)).processes)
    process_for k = subst (λ m. IfSome (thread_of label) (λ x. x.process < m)) (sym (processes_for k)) process

    stands_for : (es : List Entry) → StandsFor n es → (k : ℕ) → length es + k ≤ MAX_TICKS → StandsFor (added_for k n (quiet label)) (es ++ replicate k (quiet label))
    stands_for es stands zero few = subst (StandsFor n) (sym (append-nil es)) stands
    stands_for es stands (suc k) few =
        let q = quiet label in
        let before = stands_for es stands k (omega (arith, few)) in
        let size : length (es ++ replicate k q) < MAX_TICKS = omega (arith, few, length-append es (replicate k q), length-replicate k q) in
        let step : k + 1 ≡ suc k = omega arith in
        subst (StandsFor (added_for (suc k) n q))
        (append_assoc es (replicate k q) (q ∷ []) ∙ ap (λ qs. es ++ qs) (replicate_more k q ∙ ap (λ m. replicate m q) step))
        (stands_after (added_for k n q) (added (added_for k n q) q) (es ++ replicate k q) q refl before size (level_for k) (process_for k))

-- the numbers of a list, with so many more entries of one label, are those of the longer list
pub stretch_stands : (n next : Numbers) (es : List Entry) (count : ℕ) (e : Entry) → 1 ≤ count → next ≡ added (added_for (count - 1) n (quiet e.label)) e
    → StandsFor n es → length es + count ≤ MAX_TICKS → IfSome (kernel_level e.label) (λ j. j < length n.levels)
    → IfSome (thread_of e.label) (λ x. x.process < length n.processes) → StandsFor next (es ++ stretch_of count e)
stretch_stands n next es count e some is stands few level process =
    let k = count - 1 in
    let q = quiet e.label in
    let before = stands_for n e.label level process es stands k (omega (arith, few)) in
    let size : length (es ++ replicate k q) < MAX_TICKS = omega (arith, some, few, length-append es (replicate k q), length-replicate k q) in
    subst (StandsFor next) (append_assoc es (replicate k q) (e ∷ []))
    (stands_after (added_for k n q) next (es ++ replicate k q) e is before size (level_for n e.label level process k) (process_for n e.label level process k))
