-- How the sums over all levels and processes change with one more entry.
use Rattle.std.proofs.Common.{◌≡◌, ◌∙◌, sym, ap, refl, ◌<◌, ◌+◌, ℕ, zero, suc, true, List, length, get_or, set, arith}
use Rattle.std.specs.Prelude.{Option, Some, None, IfSome, replicate, sum_by}
use Rattle.std.specs.Option.{option_map_or}
use Rattle.std.proofs.lemmas.List.{get_or-set_same, set-set}
use Rattle.std.proofs.lemmas.List.Sums.{sum_by-cons, sum_by-set, get_or-le-sum_by}
use Rattle.dk_trace.specs.declared.Entry.{Entry}
use Rattle.dk_trace.specs.declared.Label.{Label}
use Rattle.dk_trace.specs.declared.Source.{Source}
use Rattle.dk_trace.specs.declared.ThreadId.{ThreadId}
use Rattle.dk_trace.specs.declared.Event.{Event}
use Rattle.dk_trace.specs.Entries.{thread_of, kernel_level}
use Rattle.dk_report.specs.declared.counting.ProcessTotals.{ProcessTotals}
use Rattle.dk_report.specs.Counts.{Numbers, added, counted, no_totals, is_idle, with_kernel, with_thread, with_label, with_event, with_entry, with_thread_label, with_thread_event}
use Rattle.dk_report.specs.Sums.{capped, numbers_with}
use Rattle.dk_report.proofs.CountLemmas.{numbers-equal}

-- a sum over rows of which one has one tick more, or the same
raised : {A : Type 0} (f : A → ℕ) (rows : List A) (i : ℕ) (row d : A) (n rest : ℕ) → i < length rows
    → f (get_or rows i d) ≡ n + rest → f row ≡ counted true n + rest
    → capped (sum_by f (set rows i row)) ≡ counted true (capped (sum_by f rows))
raised f rows i row d n rest here was is =
    let change = sum_by-set f rows i row d here in
    let within = get_or-le-sum_by f rows i d here in
    omega (arith, change, within, was, is)

kept : {A : Type 0} (f : A → ℕ) (rows : List A) (i : ℕ) (row d : A) → i < length rows → f row ≡ f (get_or rows i d)
    → capped (sum_by f (set rows i row)) ≡ capped (sum_by f rows)
kept f rows i row d here same = let change = sum_by-set f rows i row d here in omega (arith, change, same)

abbrev switch : ProcessTotals → ℕ
switch t = t.ins + t.outs

abbrev body : ProcessTotals → ℕ
body t = t.runs + t.calls

abbrev slack : ProcessTotals → ℕ
slack t = t.timeline + t.reclaimed

module _ (idle : ℕ) (levels : List ℕ) (ts : List ProcessTotals) (event : Option Event) where
  abbrev pub after : Label → Numbers
  after label = numbers_with (counted (is_idle label) idle) (with_kernel levels label)
      (with_thread ts (record { label = label; event = event }))

  abbrev pub before : Label → Numbers
  before label = added (numbers_with idle levels ts) (record { label = label; event = event })

  -- the row of the thread's process, before and after
  abbrev old : ThreadId → ProcessTotals
  old x = get_or ts x.process no_totals

  abbrev row : ThreadId → Label → ProcessTotals
  row x label = with_entry (old x) (record { label = label; event = event })

  same : (f : ProcessTotals → ℕ) (x : ThreadId) (label : Label) → x.process < length ts → f (row x label) ≡ f (old x)
      → capped (sum_by f (set ts x.process (row x label))) ≡ capped (sum_by f ts)
  same f x label h is = kept f ts x.process (row x label) no_totals h is

  more : (f : ProcessTotals → ℕ) (x : ThreadId) (label : Label) (n rest : ℕ) → x.process < length ts
      → f (old x) ≡ n + rest → f (row x label) ≡ counted true n + rest
      → capped (sum_by f (set ts x.process (row x label))) ≡ counted true (capped (sum_by f ts))
  more f x label n rest h was is = raised f ts x.process (row x label) no_totals n rest h was is

  pub counts_label : (label : Label) → IfSome (kernel_level label) (λ j. j < length levels) → IfSome (thread_of label) (λ x. x.process < length ts)
      → after label ≡ before label
  counts_label (Label.Kernel j) level process =
      let k = raised (λ n. n) levels j (counted true (get_or levels j 0)) 0 (get_or levels j 0) 0 level (omega arith) (omega arith) in
      numbers-equal (after (Label.Kernel j)) (before (Label.Kernel j)) (omega (arith, k)) k refl refl refl refl refl refl
  counts_label (Label.In x) level h =
      let s = more switch x (Label.In x) (old x).ins (old x).outs h refl refl in
      let b = same body x (Label.In x) h refl in
      let l = same slack x (Label.In x) h refl in
      numbers-equal (after (Label.In x)) (before (Label.In x)) (omega (arith, s, b, l)) refl s b l refl refl refl
  counts_label (Label.Out x) level h =
      let s = more switch x (Label.Out x) (old x).outs (old x).ins h (omega arith) (omega arith) in
      let b = same body x (Label.Out x) h refl in
      let l = same slack x (Label.Out x) h refl in
      numbers-equal (after (Label.Out x)) (before (Label.Out x)) (omega (arith, s, b, l)) refl s b l refl refl refl
  counts_label (Label.Run x) level h =
      let s = same switch x (Label.Run x) h refl in
      let b = more body x (Label.Run x) (old x).runs (old x).calls h refl refl in
      let l = same slack x (Label.Run x) h refl in
      numbers-equal (after (Label.Run x)) (before (Label.Run x)) (omega (arith, s, b, l)) refl s b l refl refl refl
  counts_label (Label.Call x) level h =
      let s = same switch x (Label.Call x) h refl in
      let b = more body x (Label.Call x) (old x).calls (old x).runs h (omega arith) (omega arith) in
      let l = same slack x (Label.Call x) h refl in
      numbers-equal (after (Label.Call x)) (before (Label.Call x)) (omega (arith, s, b, l)) refl s b l refl refl refl
  counts_label (Label.Slack x Source.Timeline w) level h =
      let label = Label.Slack x Source.Timeline w in
      let s = same switch x label h refl in
      let b = same body x label h refl in
      let l = more slack x label (old x).timeline (old x).reclaimed h refl refl in
      numbers-equal (after label) (before label) (omega (arith, s, b, l)) refl s b l refl refl refl
  counts_label (Label.Slack x (Source.Reclaimed j) w) level h =
      let label = Label.Slack x (Source.Reclaimed j) w in
      let s = same switch x label h refl in
      let b = same body x label h refl in
      let l = more slack x label (old x).reclaimed (old x).timeline h (omega arith) (omega arith) in
      numbers-equal (after label) (before label) (omega (arith, s, b, l)) refl s b l refl refl refl
  counts_label Label.Idle level process =
      numbers-equal (after Label.Idle) (before Label.Idle) (omega arith) refl refl refl refl refl refl refl

-- an entry without an event is counted by its label
pub label_alone : (ts : List ProcessTotals) (label : Label) → with_thread_label ts label ≡ with_thread ts (record { label = label; event = None })
label_alone ts label = by (thread_of label)
  where
    by : (o : Option ThreadId)
        → option_map_or (λ x. set ts x.process (with_label (get_or ts x.process no_totals) label)) o ts
        ≡ option_map_or (λ x. set ts x.process (with_entry (get_or ts x.process no_totals) (record { label = label; event = None }))) o ts
    by None = refl
    by (Some x) = refl

-- an entry with an event is counted by its label, then by its event
pub label_then_event : (ts : List ProcessTotals) (label : Label) (event : Event) → IfSome (thread_of label) (λ x. x.process < length ts)
    → with_thread_event (with_thread_label ts label) label event ≡ with_thread ts (record { label = label; event = Some event })
label_then_event ts label event h = by (thread_of label) h
  where
    by : (o : Option ThreadId) → IfSome o (λ x. x.process < length ts)
        → option_map_or (λ x. set (option_map_or (λ y. set ts y.process (with_label (get_or ts y.process no_totals) label)) o ts) x.process
        (with_event (get_or (option_map_or (λ y. set ts y.process (with_label (get_or ts y.process no_totals) label)) o ts) x.process no_totals) (Some event))) o
        (option_map_or (λ y. set ts y.process (with_label (get_or ts y.process no_totals) label)) o ts)
        ≡ option_map_or (λ x. set ts x.process (with_entry (get_or ts x.process no_totals) (record { label = label; event = Some event }))) o ts
    by None h = refl
    by (Some x) h =
        let row = with_label (get_or ts x.process no_totals) label in
        ap (λ t. set (set ts x.process row) x.process (with_event t (Some event))) (get_or-set_same ts x.process row no_totals h)
        ∙ set-set ts x.process row (with_event row (Some event))

-- the numbers with one more entry, from what is counted by level and by process
module _ (idle idle_after : ℕ) (levels levels_after : List ℕ) (ts labelled : List ProcessTotals) (e : Entry) (idles : idle_after ≡ counted (is_idle e.label) idle) (kernels : levels_after ≡ with_kernel levels e.label) (threads : labelled ≡ with_thread_label ts e.label) (level : IfSome (kernel_level e.label) (λ j. j < length levels)) (process : IfSome (thread_of e.label) (λ x. x.process < length ts)) where
  counts_entry : (next : List ProcessTotals) → next ≡ with_thread ts e → numbers_with idle_after levels_after next ≡ added (numbers_with idle levels ts) e
  counts_entry next is =
      ap (λ i. numbers_with i levels_after next) idles
      ∙ ap (λ ns. numbers_with (counted (is_idle e.label) idle) ns next) kernels
      ∙ ap (λ rows. numbers_with (counted (is_idle e.label) idle) (with_kernel levels e.label) rows) is
      ∙ counts_label idle levels ts e.event e.label level process

  pub counts_alone : e.event ≡ None → numbers_with idle_after levels_after labelled ≡ added (numbers_with idle levels ts) e
  counts_alone none =
      counts_entry labelled
      (threads ∙ label_alone ts e.label ∙ ap (λ o. with_thread ts (record { label = e.label; event = o })) (sym none))

  pub counts_event : (event : Event) (next : List ProcessTotals) → e.event ≡ Some event → next ≡ with_thread_event labelled e.label event
      → numbers_with idle_after levels_after next ≡ added (numbers_with idle levels ts) e
  counts_event event next some is =
      counts_entry next
      (is ∙ ap (λ rows. with_thread_event rows e.label event) threads ∙ label_then_event ts e.label event process
      ∙ ap (λ o. with_thread ts (record { label = e.label; event = o })) (sym some))

no_sum : {A : Type 0} (f : A → ℕ) (x : A) (n : ℕ) → f x ≡ 0 → sum_by f (replicate n x) ≡ 0
no_sum f x zero h = refl
no_sum f x (suc n) h = let one = sum_by-cons f x (replicate n x) in let rest = no_sum f x n h in omega (arith, one, rest, h)

-- where all counts are 0, all sums are
pub no_sums : (levels : List ℕ) (ts : List ProcessTotals) (m n : ℕ) → levels ≡ replicate m 0 → ts ≡ replicate n no_totals
    → numbers_with 0 levels ts
    ≡ record { entries = 0; kernel = 0; switch = 0; body = 0; slack = 0; idle = 0; levels = levels; processes = ts }
no_sums levels ts m n zeros blanks =
    let k : sum_by (λ x. x) levels ≡ 0 = ap (sum_by (λ x. x)) zeros ∙ no_sum (λ (x : ℕ). x) 0 m refl in
    let s : sum_by switch ts ≡ 0 = ap (sum_by switch) blanks ∙ no_sum switch no_totals n refl in
    let b : sum_by body ts ≡ 0 = ap (sum_by body) blanks ∙ no_sum body no_totals n refl in
    let l : sum_by slack ts ≡ 0 = ap (sum_by slack) blanks ∙ no_sum slack no_totals n refl in
    numbers-equal (numbers_with 0 levels ts)
    (record { entries = 0; kernel = 0; switch = 0; body = 0; slack = 0; idle = 0; levels = levels; processes = ts })
    (omega (arith, k, s, b, l)) (omega (arith, k)) (omega (arith, s)) (omega (arith, b)) (omega (arith, l)) refl refl refl
