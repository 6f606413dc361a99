use Rattle.std.proofs.Common.{ℕ, List, ◌≡◌, ◌∙◌, ◌++◌, [], ap, sym, subst, refl, append_assoc}
use Rattle.dk_ledger.specs.Heading.{Heading}
use Rattle.dk_ledger.specs.Readable.{Journal}
use Rattle.dk_groups.specs.Groups.{groups}
use Rattle.dk_groups.specs.Cutting.{ComesNext}
use Rattle.dk_groups.specs.Writing.{Puts}
use Rattle.dk_groups.proofs.Going.{cut_short, then_puts}
use Rattle.dk_groups.proofs.Texts.{nothing_put}
use Rattle.dk_overrun_spans.specs.declared.overrun.Overrun.{Overrun}
use Rattle.dk_overrun_spans.specs.Overruns.{overruns}
use Rattle.dk_trace_events.specs.Behind.{lines_text, past_of}
use Rattle.dk_trace_events.specs.HoldSlices.{mutex_names, open_holds}
use Rattle.dk_trace_events.specs.Names.{process_texts}
use Rattle.dk_trace_events.specs.Traces.{Tracing, end_text, groups_text, head_text, trace_text}
use Rattle.dk_trace_events.proofs.writing.Trace.write.Goals as goal

-- what stands behind the names: of the groups in one range, and of the lines in another
abbrev behind : Journal → List Overrun → ℕ → ℕ → ℕ → ℕ → List ℕ
behind j os from to first last =
    groups_text j.heading (groups from to j.entries)
    ++ (lines_text j.heading from (groups first last j.entries) ++ (open_holds j.heading from last (past_of (groups first last j.entries)) ++ end_text from last j.heading os))

pub write_objects-requires-clause-start : goal.write_objects-requires-clause-start
write_objects-requires-clause-start g c = c.self.invariant.0

pub write_objects-requires-clause-zero : goal.write_objects-requires-clause-zero
write_objects-requires-clause-zero g c = c.self.invariant.1

pub write_objects-requires-clause-groups : goal.write_objects-requires-clause-groups
write_objects-requires-clause-groups g c = c.self.invariant.2

pub returns-in_err-write_head : goal.returns-in_err-write_head
returns-in_err-write_head g c = λ j from to readable trace.
    let names = mutex_names ++ process_texts 0 c.self.inside.header.processes in
    let rest = behind j (overruns j.heading j.entries) from to 0 to in
    let own_is = ap (λ (t : Tracing). t.heading) c.self.view_is ∙ trace.heading in
    cut_short (trace_text from to j.heading j.entries) []
    (g.S.Sink.seen c.args.sink.now) (g.S.Sink.seen c.args.sink.now) (g.S.Sink.seen c.write_head.new.sink) _ c.from_residual.result (head_text ++ names) rest c.from_residual.ensures.1
    (sym (append_assoc head_text (mutex_names ++ process_texts 0 j.heading.processes) rest) ∙ ap (λ (h : Heading). (head_text ++ (mutex_names ++ process_texts 0 h.processes)) ++ rest) (sym own_is))
    (nothing_put (g.S.Sink.seen c.args.sink.now).written) refl refl c.in_err-write_head.ensures

pub returns : goal.returns
returns g c = λ j from to readable trace.
    let view = c.self.view_is in
    let inside = c.self.inside in
    let names = mutex_names ++ process_texts 0 inside.header.processes in
    let rest = behind j (overruns j.heading j.entries) from to 0 to in
    let own_is = ap (λ (t : Tracing). t.heading) view ∙ trace.heading in
    let first = subst (λ (t : Tracing). ComesNext j [] t.first t.groups) (sym view) trace.first in
    let first_line = subst (λ (t : Tracing). ComesNext j [] t.first_line t.lines) (sym view) trace.first_line in
    let put = c.write_objects.ensures j readable (sym own_is) first first_line in
    let from_is = ap (λ (t : Tracing). t.groups.from) view ∙ trace.from in
    let to_is = ap (λ (t : Tracing). t.groups.to) view ∙ trace.to in
    let begins = ap (λ (t : Tracing). t.lines.from) view ∙ trace.begins in
    let ends = ap (λ (t : Tracing). t.lines.to) view ∙ trace.ends in
    let own = c.as_slice.result.now in
    let own_are : own ≡ overruns j.heading j.entries = c.as_slice.ensures.value ∙ ap (λ (t : Tracing). t.overruns) view ∙ trace.overruns in
    let same : behind j own inside.groups.from inside.groups.to inside.lines.from inside.lines.to ≡ rest =
    ap (λ n. behind j own n inside.groups.to inside.lines.from inside.lines.to) from_is ∙ ap (λ n. behind j own from n inside.lines.from inside.lines.to) to_is
    ∙ ap (λ n. behind j own from to n inside.lines.to) begins ∙ ap (λ n. behind j own from to 0 n) ends ∙ ap (λ os. behind j os from to 0 to) own_are in
    then_puts (trace_text from to j.heading j.entries) (head_text ++ names)
    (g.S.Sink.seen c.args.sink.now) (g.S.Sink.seen c.write_head.new.sink) (g.S.Sink.seen c.write_objects.new.sink) _ c.write_objects.result rest
    (sym (append_assoc head_text (mutex_names ++ process_texts 0 j.heading.processes) rest) ∙ ap (λ (h : Heading). (head_text ++ (mutex_names ++ process_texts 0 h.processes)) ++ rest) (sym own_is))
    c.in_ok-write_head.ensures
    (subst (Puts (g.S.Sink.seen c.write_head.new.sink) (g.S.Sink.seen c.write_objects.new.sink) c.write_objects.result) same put)
