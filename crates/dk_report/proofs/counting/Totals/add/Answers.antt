use Rattle.std.proofs.Common.{◌≡◌, ◌<◌, ◌∙◌, length, ap, sym, subst, rules}
use Rattle.std.specs.Prelude.{IfSome}
use Rattle.std.specs.Vec.{with_items}
use Rattle.std.proofs.lemmas.List.{with_items_is, places}
use Rattle.dk_trace.specs.Entries.{thread_of, kernel_level}
use Rattle.dk_report.specs.Counts.{Numbers, added, with_kernel, with_thread_label, with_thread_event}
use Rattle.dk_report.proofs.CountLemmas.{stands_after, as_many_levels, as_many_processes}
use Rattle.dk_report.proofs.SumLemmas.{counts_alone, counts_event}
use Rattle.dk_report.proofs.counting.Totals.add.Goals as goal

pub returns-in_default-clause-numbers : goal.returns-in_default-clause-numbers
returns-in_default-clause-numbers c =
    let t = c.self.inside in
    let label = c.args.entry.label in
    let kernels : (with_items t.levels c.count_label.new.levels).items ≡ with_kernel t.levels.items label =
    with_items_is t.levels c.count_label.new.levels (search (rules, places)) ∙ c.count_label.ensures.levels
    ∙ ap (λ ns. with_kernel ns label) c.deref_mut.ensures.value in
    let threads : (with_items t.processes c.count_label.new.processes).items ≡ with_thread_label t.processes.items label =
    with_items_is t.processes c.count_label.new.processes (search (rules, places)) ∙ c.count_label.ensures.processes
    ∙ ap (λ ts. with_thread_label ts label) c.deref_mut-2.ensures.value in
    let level = subst (λ (n : Numbers). IfSome (kernel_level label) (λ j. j < length n.levels)) (sym c.self.view_is) c.requires.level in
    let process = subst (λ (n : Numbers). IfSome (thread_of label) (λ x. x.process < length n.processes)) (sym c.self.view_is) c.requires.process in
    counts_alone t.idle c.count_label.new.idle t.levels.items _ t.processes.items _ c.args.entry c.count_label.ensures.idle kernels threads
    level process c.in_default.is
    ∙ ap (λ (n : Numbers). added n c.args.entry) c.self.view_is

pub returns-in-Some-clause-numbers : goal.returns-in-Some-clause-numbers
returns-in-Some-clause-numbers c =
    let t = c.self.inside in
    let label = c.args.entry.label in
    let kernels : (with_items t.levels c.count_label.new.levels).items ≡ with_kernel t.levels.items label =
    with_items_is t.levels c.count_label.new.levels (search (rules, places)) ∙ c.count_label.ensures.levels
    ∙ ap (λ ns. with_kernel ns label) c.deref_mut.ensures.value in
    let threads : (with_items t.processes c.count_label.new.processes).items ≡ with_thread_label t.processes.items label =
    with_items_is t.processes c.count_label.new.processes (search (rules, places)) ∙ c.count_label.ensures.processes
    ∙ ap (λ ts. with_thread_label ts label) c.deref_mut-2.ensures.value in
    let next : (with_items (with_items t.processes c.count_label.new.processes) c.count_event.new.processes).items
    ≡ with_thread_event (with_items t.processes c.count_label.new.processes).items label c.in-Some.event =
    with_items_is (with_items t.processes c.count_label.new.processes) c.count_event.new.processes (search (rules, places)) ∙ c.count_event.ensures
    ∙ ap (λ ts. with_thread_event ts label c.in-Some.event) c.deref_mut-in-Some.ensures.value in
    let level = subst (λ (n : Numbers). IfSome (kernel_level label) (λ j. j < length n.levels)) (sym c.self.view_is) c.requires.level in
    let process = subst (λ (n : Numbers). IfSome (thread_of label) (λ x. x.process < length n.processes)) (sym c.self.view_is) c.requires.process in
    counts_event t.idle c.count_label.new.idle t.levels.items _ t.processes.items _ c.args.entry c.count_label.ensures.idle kernels threads
    level process c.in-Some.event _ c.in-Some.is next
    ∙ ap (λ (n : Numbers). added n c.args.entry) c.self.view_is

pub returns-in_default-clause-after : goal.returns-in_default-clause-after
returns-in_default-clause-after c = λ es stands few.
    stands_after c.args.self.now _ es c.args.entry (returns-in_default-clause-numbers c) stands few c.requires.level c.requires.process

pub returns-in-Some-clause-after : goal.returns-in-Some-clause-after
returns-in-Some-clause-after c = λ es stands few.
    stands_after c.args.self.now _ es c.args.entry (returns-in-Some-clause-numbers c) stands few c.requires.level c.requires.process

pub returns-in_default-clause-levels : goal.returns-in_default-clause-levels
returns-in_default-clause-levels c =
    ap (λ (n : Numbers). length n.levels) (returns-in_default-clause-numbers c) ∙ as_many_levels c.args.self.now.levels c.args.entry.label

pub returns-in_default-clause-processes : goal.returns-in_default-clause-processes
returns-in_default-clause-processes c =
    ap (λ (n : Numbers). length n.processes) (returns-in_default-clause-numbers c) ∙ as_many_processes c.args.self.now.processes c.args.entry

pub returns-in-Some-clause-levels : goal.returns-in-Some-clause-levels
returns-in-Some-clause-levels c =
    ap (λ (n : Numbers). length n.levels) (returns-in-Some-clause-numbers c) ∙ as_many_levels c.args.self.now.levels c.args.entry.label

pub returns-in-Some-clause-processes : goal.returns-in-Some-clause-processes
returns-in-Some-clause-processes c =
    ap (λ (n : Numbers). length n.processes) (returns-in-Some-clause-numbers c) ∙ as_many_processes c.args.self.now.processes c.args.entry
