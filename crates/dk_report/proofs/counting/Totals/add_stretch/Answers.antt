use Rattle.std.proofs.Common.{◌≡◌, ◌<◌, ◌∙◌, ◌-◌, suc, length, ap, sym, subst, arith, rules}
use Rattle.std.specs.Prelude.{IfSome}
use Rattle.std.specs.Vec.{with_items}
use Rattle.std.proofs.lemmas.List.{with_items_is, places}
use Rattle.dk_trace.specs.Entries.{thread_of, kernel_level, quiet}
use Rattle.dk_report.specs.Counts.{Numbers, added, added_for, counted_for, is_idle, with_kernel_for, with_thread_label_for, with_thread_event}
use Rattle.dk_report.proofs.CountLemmas.{as_many_levels, as_many_processes}
use Rattle.dk_report.proofs.StretchLemmas.{counts_alone_for, counts_event_for, levels_for, processes_for, stretch_stands}
use Rattle.dk_report.proofs.counting.Totals.add_stretch.Goals as goal

pub returns-in_default-clause-numbers : goal.returns-in_default-clause-numbers
returns-in_default-clause-numbers c =
    let t = c.self.inside in
    let label = c.args.entry.label in
    let k = c.args.count - 1 in
    let count : c.args.count ≡ suc k = omega (arith, c.requires.some) in
    let kernels : (with_items t.levels c.count_label.new.levels).items ≡ with_kernel_for (suc k) t.levels.items label =
    with_items_is t.levels c.count_label.new.levels (search (rules, places)) ∙ c.count_label.ensures.levels
    ∙ ap (λ ns. with_kernel_for c.args.count ns label) c.deref_mut.ensures.value ∙ ap (λ n. with_kernel_for n t.levels.items label) count in
    let threads : (with_items t.processes c.count_label.new.processes).items ≡ with_thread_label_for (suc k) t.processes.items label =
    with_items_is t.processes c.count_label.new.processes (search (rules, places)) ∙ c.count_label.ensures.processes
    ∙ ap (λ ts. with_thread_label_for c.args.count ts label) c.deref_mut-2.ensures.value ∙ ap (λ n. with_thread_label_for n t.processes.items label) count in
    let idles = c.count_label.ensures.idle ∙ ap (λ n. counted_for n (is_idle label) t.idle) count in
    let level = subst (λ (n : Numbers). IfSome (kernel_level label) (λ j. j < length n.levels)) (sym c.self.view_is) c.requires.level in
    let process = subst (λ (n : Numbers). IfSome (thread_of label) (λ x. x.process < length n.processes)) (sym c.self.view_is) c.requires.process in
    counts_alone_for t.idle c.count_label.new.idle t.levels.items _ t.processes.items _ c.args.entry level process k idles kernels threads c.in_default.is
    ∙ ap (λ (n : Numbers). added (added_for k n (quiet label)) c.args.entry) c.self.view_is

pub returns-in-Some-clause-numbers : goal.returns-in-Some-clause-numbers
returns-in-Some-clause-numbers c =
    let t = c.self.inside in
    let label = c.args.entry.label in
    let k = c.args.count - 1 in
    let count : c.args.count ≡ suc k = omega (arith, c.requires.some) in
    let kernels : (with_items t.levels c.count_label.new.levels).items ≡ with_kernel_for (suc k) t.levels.items label =
    with_items_is t.levels c.count_label.new.levels (search (rules, places)) ∙ c.count_label.ensures.levels
    ∙ ap (λ ns. with_kernel_for c.args.count ns label) c.deref_mut.ensures.value ∙ ap (λ n. with_kernel_for n t.levels.items label) count in
    let threads : (with_items t.processes c.count_label.new.processes).items ≡ with_thread_label_for (suc k) t.processes.items label =
    with_items_is t.processes c.count_label.new.processes (search (rules, places)) ∙ c.count_label.ensures.processes
    ∙ ap (λ ts. with_thread_label_for c.args.count ts label) c.deref_mut-2.ensures.value ∙ ap (λ n. with_thread_label_for n t.processes.items label) count in
    let idles = c.count_label.ensures.idle ∙ ap (λ n. counted_for n (is_idle label) t.idle) count in
    let next : (with_items (with_items t.processes c.count_label.new.processes) c.count_event.new.processes).items
    ≡ with_thread_event (with_items t.processes c.count_label.new.processes).items label c.in-Some.event =
    with_items_is (with_items t.processes c.count_label.new.processes) c.count_event.new.processes (search (rules, places)) ∙ c.count_event.ensures
    ∙ ap (λ ts. with_thread_event ts label c.in-Some.event) c.deref_mut-in-Some.ensures.value in
    let level = subst (λ (n : Numbers). IfSome (kernel_level label) (λ j. j < length n.levels)) (sym c.self.view_is) c.requires.level in
    let process = subst (λ (n : Numbers). IfSome (thread_of label) (λ x. x.process < length n.processes)) (sym c.self.view_is) c.requires.process in
    counts_event_for t.idle c.count_label.new.idle t.levels.items _ t.processes.items _ c.args.entry level process k idles kernels threads c.in-Some.event _ c.in-Some.is next
    ∙ ap (λ (n : Numbers). added (added_for k n (quiet label)) c.args.entry) c.self.view_is

pub returns-in_default-clause-after : goal.returns-in_default-clause-after
returns-in_default-clause-after c = λ es stands few.
    stretch_stands c.args.self.now _ es c.args.count c.args.entry c.requires.some (returns-in_default-clause-numbers c) stands few c.requires.level c.requires.process

pub returns-in-Some-clause-after : goal.returns-in-Some-clause-after
returns-in-Some-clause-after c = λ es stands few.
    stretch_stands c.args.self.now _ es c.args.count c.args.entry c.requires.some (returns-in-Some-clause-numbers c) stands few c.requires.level c.requires.process

pub returns-in_default-clause-levels : goal.returns-in_default-clause-levels
returns-in_default-clause-levels c =
    let n = c.args.self.now in
    let k = c.args.count - 1 in
    let label = c.args.entry.label in
    ap (λ (m : Numbers). length m.levels) (returns-in_default-clause-numbers c) ∙ as_many_levels (added_for k n (quiet label)).levels label ∙ levels_for n label k

pub returns-in_default-clause-processes : goal.returns-in_default-clause-processes
returns-in_default-clause-processes c =
    let n = c.args.self.now in
    let k = c.args.count - 1 in
    let label = c.args.entry.label in
    ap (λ (m : Numbers). length m.processes) (returns-in_default-clause-numbers c) ∙ as_many_processes (added_for k n (quiet label)).processes c.args.entry ∙ processes_for n label k

pub returns-in-Some-clause-levels : goal.returns-in-Some-clause-levels
returns-in-Some-clause-levels c =
    let n = c.args.self.now in
    let k = c.args.count - 1 in
    let label = c.args.entry.label in
    ap (λ (m : Numbers). length m.levels) (returns-in-Some-clause-numbers c) ∙ as_many_levels (added_for k n (quiet label)).levels label ∙ levels_for n label k

pub returns-in-Some-clause-processes : goal.returns-in-Some-clause-processes
returns-in-Some-clause-processes c =
    let n = c.args.self.now in
    let k = c.args.count - 1 in
    let label = c.args.entry.label in
    ap (λ (m : Numbers). length m.processes) (returns-in-Some-clause-numbers c) ∙ as_many_processes (added_for k n (quiet label)).processes c.args.entry ∙ processes_for n label k
