-- What more entries make of what is counted.
use Rattle.std.proofs.Common.{ℕ, zero, suc, ◌≡◌, ◌+◌, ◌<◌, ◌∙◌, refl, sym, ap, arith, Bool, true, false, cond, List, [], ◌∷◌, ◌++◌, length, map}
use Rattle.std.specs.Prelude.{◌&&◌, count_by, replicate}
use Rattle.std.proofs.Math.Bool.{and-false}
use Rattle.std.proofs.lemmas.List.{length-append, length-replicate}
use Rattle.std.proofs.lemmas.List.Sums.{count_by-le-length}
use Rattle.dk_trace.specs.declared.Entry.{Entry}
use Rattle.dk_trace.specs.declared.Label.{Label}
use Rattle.dk_trace.specs.Entries.{quiet}
use Rattle.dk_trace.proofs.Windows.{count_by-cons}
use Rattle.dk_report.specs.Counts.{is_call, is_idle, is_in, is_kernel, is_of_process, is_out, is_run}
use Rattle.dk_window_report.specs.Rows.{RowsStep}
use Rattle.dk_window_report.specs.Passing.{RowsGoBy}
use Rattle.dk_window_report.proofs.Steps.{no_row}
use Rattle.dk_cycle_counts.specs.declared.process.MainShare.{MainShare}
use Rattle.dk_cycle_counts.specs.declared.process.ProcessUse.{ProcessUse}
use Rattle.dk_cycle_counts.specs.declared.totals.CycleTotals.{CycleTotals}
use Rattle.dk_cycle_counts.specs.declared.counts.CycleCounts.{CycleCounts}
use Rattle.dk_cycle_counts.specs.Process.{added_if, has_fault, has_refused, has_slack, main_owner, use_gone_by, use_of, use_with}
use Rattle.dk_cycle_counts.specs.Totals.{is_slack, totals_of, totals_with}
use Rattle.dk_cycle_counts.specs.Counts.{AreCountsOf}
use Rattle.dk_cycle_counts.proofs.Beginnings.{begins-gone, begins-next}

added-none : (b : Bool) (k : ℕ) → k < 4294967295 → k ≡ added_if b 0 k
added-none true k few = omega (arith, few)
added-none false k few = refl

added-one : (b : Bool) (n k : ℕ) → k + n < 4294967295 → cond b 1 0 + added_if b n k ≡ added_if b (suc n) k
added-one true n k few = omega (arith, few)
added-one false n k few = omega arith

-- so many entries that are the same
count-more : (p : Entry → Bool) (e : Entry) (n : ℕ) (es : List Entry) → length es + n < 4294967295
    → count_by p (replicate n e ++ es) ≡ added_if (p e) n (count_by p es)
count-more p e zero es few = let most = count_by-le-length p es in added-none (p e) (count_by p es) (omega (arith, most, few))
count-more p e (suc n) es few =
    let most = count_by-le-length p es in
    count_by-cons p e (replicate n e ++ es) ∙ ap (λ k. cond (p e) 1 0 + k) (count-more p e n es (omega (arith, few)))
    ∙ added-one (p e) n (count_by p es) (omega (arith, most, few))

use-equal : (a b : ProcessUse) → a.main ≡ b.main → a.begins ≡ b.begins → a.budget ≡ b.budget → a.slack ≡ b.slack → a.refused ≡ b.refused → a.faults ≡ b.faults → a ≡ b
use-equal a b e0 begins e1 e2 e3 e4 =
    ap (λ x. record { main = x; begins = a.begins; budget = a.budget; slack = a.slack; refused = a.refused; faults = a.faults }) e0
    ∙ ap (λ x. record { main = b.main; begins = x; budget = a.budget; slack = a.slack; refused = a.refused; faults = a.faults }) begins
    ∙ ap (λ x. record { main = b.main; begins = b.begins; budget = x; slack = a.slack; refused = a.refused; faults = a.faults }) e1
    ∙ ap (λ x. record { main = b.main; begins = b.begins; budget = b.budget; slack = x; refused = a.refused; faults = a.faults }) e2
    ∙ ap (λ x. record { main = b.main; begins = b.begins; budget = b.budget; slack = b.slack; refused = x; faults = a.faults }) e3
    ∙ ap (λ x. record { main = b.main; begins = b.begins; budget = b.budget; slack = b.slack; refused = b.refused; faults = x }) e4

use-next : RowsStep → (e : Entry) (es : List Entry) → length es + 1 < 4294967295 → (m : MainShare) → use_of m (e ∷ es) ≡ use_with (length es) e (use_of m es)
use-next step e es few m =
    use-equal (use_of m (e ∷ es)) (use_with (length es) e (use_of m es))
    (step (main_owner m) e es (omega (arith, few))) (begins-next m.process m.period e es (omega (arith, few))) refl
    (count-more (has_slack m.process) e 1 es few)
    (count-more (has_refused m.process) e 1 es few)
    (count-more (has_fault m.process) e 1 es few)

use-gone : RowsGoBy → (label : Label) (n : ℕ) (es : List Entry) → length es + n < 4294967295 → (m : MainShare)
    → use_of m (replicate n (quiet label) ++ es) ≡ use_gone_by (length es) label n (use_of m es)
use-gone go label n es few m =
    let u = use_of m es in
    let none : (is_of_process m.process (quiet label) && false) ≡ false = and-false (is_of_process m.process (quiet label)) in
    use-equal (use_of m (replicate n (quiet label) ++ es)) (use_gone_by (length es) label n u)
    (go (main_owner m) label n es few) (begins-gone m.process m.period label n es go few) refl
    (count-more (has_slack m.process) (quiet label) n es few)
    (count-more (has_refused m.process) (quiet label) n es few ∙ ap (λ b. added_if b n u.refused) none)
    (count-more (has_fault m.process) (quiet label) n es few ∙ ap (λ b. added_if b n u.faults) none)

-- of each process
uses-as : (f : ProcessUse → ProcessUse) (before after : List Entry) → ((m : MainShare) → use_of m after ≡ f (use_of m before)) → (ms : List MainShare)
    → map f (map (λ m. use_of m before) ms) ≡ map (λ m. use_of m after) ms
uses-as f before after same [] = refl
uses-as f before after same (m ∷ ms) =
    ap (λ u. u ∷ map f (map (λ n. use_of n before) ms)) (sym (same m))
    ∙ ap (λ us. use_of m after ∷ us) (uses-as f before after same ms)

totals-equal : (a b : CycleTotals) → a.ins ≡ b.ins → a.runs ≡ b.runs → a.calls ≡ b.calls → a.outs ≡ b.outs → a.slack ≡ b.slack → a.kernel ≡ b.kernel → a.idle ≡ b.idle
    → a ≡ b
totals-equal a b e0 e1 e2 e3 e4 e5 e6 =
    ap (λ x. record { ins = x; runs = a.runs; calls = a.calls; outs = a.outs; slack = a.slack; kernel = a.kernel; idle = a.idle }) e0
    ∙ ap (λ x. record { ins = b.ins; runs = x; calls = a.calls; outs = a.outs; slack = a.slack; kernel = a.kernel; idle = a.idle }) e1
    ∙ ap (λ x. record { ins = b.ins; runs = b.runs; calls = x; outs = a.outs; slack = a.slack; kernel = a.kernel; idle = a.idle }) e2
    ∙ ap (λ x. record { ins = b.ins; runs = b.runs; calls = b.calls; outs = x; slack = a.slack; kernel = a.kernel; idle = a.idle }) e3
    ∙ ap (λ x. record { ins = b.ins; runs = b.runs; calls = b.calls; outs = b.outs; slack = x; kernel = a.kernel; idle = a.idle }) e4
    ∙ ap (λ x. record { ins = b.ins; runs = b.runs; calls = b.calls; outs = b.outs; slack = b.slack; kernel = x; idle = a.idle }) e5
    ∙ ap (λ x. record { ins = b.ins; runs = b.runs; calls = b.calls; outs = b.outs; slack = b.slack; kernel = b.kernel; idle = x }) e6

totals-more : (e : Entry) (n : ℕ) (es : List Entry) → length es + n < 4294967295 → totals_of (replicate n e ++ es) ≡ totals_with e.label n (totals_of es)
totals-more e n es few =
    let more : (test : Label → Bool) → count_by (λ d. test d.label) (replicate n e ++ es) ≡ added_if (test e.label) n (count_by (λ d. test d.label) es) =
    λ test. count-more (λ d. test d.label) e n es few in
    totals-equal (totals_of (replicate n e ++ es)) (totals_with e.label n (totals_of es))
    (more is_in) (more is_run) (more is_call) (more is_out) (more is_slack) (more is_kernel) (more is_idle)

-- with one more entry
pub counts-next : (old new : CycleCounts) (shares : List MainShare) (e : Entry) (es : List Entry) → RowsStep → old.ticks + 1 < 4294967295 → AreCountsOf shares es old
    → new.ticks ≡ old.ticks + 1 → new.totals ≡ totals_with e.label 1 old.totals
    → new.processes.items ≡ map (use_with old.ticks e) old.processes.items → AreCountsOf shares (e ∷ es) new
counts-next old new shares e es step room is ticks totals processes =
    let long = is.ticks in
    let few : length es + 1 < 4294967295 = omega (arith, long, room) in
    record {
      ticks = omega (arith, ticks, long);
      totals = totals ∙ ap (totals_with e.label 1) is.totals ∙ sym (totals-more e 1 es few);
      processes = processes ∙ ap (map (use_with old.ticks e)) is.processes
          ∙ ap (λ n. map (use_with n e) (map (λ m. use_of m es) shares)) long ∙ uses-as (use_with (length es) e) es (e ∷ es) (use-next step e es few) shares;
    }

-- with so many more that have one label and no event
pub counts-gone : (old new : CycleCounts) (shares : List MainShare) (label : Label) (count : ℕ) (es : List Entry) → RowsGoBy → old.ticks + count < 4294967295
    → AreCountsOf shares es old → new.ticks ≡ old.ticks + count → new.totals ≡ totals_with label count old.totals
    → new.processes.items ≡ map (use_gone_by old.ticks label count) old.processes.items → AreCountsOf shares (replicate count (quiet label) ++ es) new
counts-gone old new shares label count es go room is ticks totals processes =
    let long = is.ticks in
    let few : length es + count < 4294967295 = omega (arith, long, room) in
    let more = replicate count (quiet label) ++ es in
    let size = length-append (replicate count (quiet label)) es in
    let many = length-replicate count (quiet label) in
    record {
      ticks = omega (arith, ticks, long, size, many);
      totals = totals ∙ ap (totals_with label count) is.totals ∙ sym (totals-more (quiet label) count es few);
      processes = processes ∙ ap (map (use_gone_by old.ticks label count)) is.processes
          ∙ ap (λ n. map (use_gone_by n label count) (map (λ m. use_of m es) shares)) long
          ∙ uses-as (use_gone_by (length es) label count) es more (use-gone go label count es few) shares;
    }

abbrev pub no_use : ProcessUse
no_use = record { main = no_row; begins = record { first = 0; last = 0 }; budget = 0; slack = 0; refused = 0; faults = 0 }
