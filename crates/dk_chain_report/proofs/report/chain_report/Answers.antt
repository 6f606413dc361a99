use Rattle.std.proofs.Common.{◌∙◌, ◌++◌, ap, append_assoc, subst}
use Rattle.std.specs.Prelude.{string_bytes, length}
use Rattle.dk_config.specs.Configuration.{Configuration}
use Rattle.dk_config_report.specs.Pages.{AddsLines}
use Rattle.dk_config_report.proofs.Adding.{five_added}
use Rattle.dk_chain_report.specs.Changes.{IsFasterLine}
use Rattle.dk_chain_report.specs.Spans.{reaction_lines}
use Rattle.dk_chain_report.proofs.report.chain_report.Goals as goal

pub returns-clause-text : goal.returns-clause-text
returns-clause-text c =
    let latency = c.latency_of-latency.result in
    let span = c.span_of-span.result in
    let steps = c.in_ok-add_steps.ensures in
    let earlier = c.in_ok-add_earlier.ensures.lines in
    let same = c.add_earlier.ensures.same in
    let faster =
    subst (λ (k : Configuration). AddsLines (IsFasterLine k c.args.first c.args.rest.now latency.reaction) (length k.processes) (string_bytes c.add_earlier.new.text) (string_bytes c.add_faster.new.text))
    same c.in_ok-add_faster.ensures.lines in
    let bound = c.in_ok-push_line.ensures ∙ ap (λ t. string_bytes c.add_steps.new.text ++ t) c.in_ok-reaction_lines.ensures in
    let part = c.in_ok-push_str.ensures.bytes ∙ ap (λ t. t ++ c.args.measured.now) bound ∙ append_assoc (string_bytes c.add_steps.new.text) (reaction_lines latency span) c.args.measured.now in
    let last = c.in_ok-push_line-2.ensures ∙ ap (λ t. string_bytes c.add_faster.new.text ++ t) c.in_ok-from_str.ensures.ok in
    record {
      latency = latency;
      is = c.latency_of-latency.ensures;
      span = span;
      spans = c.span_of-span.ensures;
      event = c.worst_event.result;
      worst = λ done are. c.worst_event.ensures.worst done latency.reaction are (c.latency_of-latency.ensures.reaction done are);
      steps = steps.lines;
      earlier = earlier.lines;
      faster = faster.lines;
      step_lines = steps.are;
      earlier_lines = earlier.are;
      faster_lines = faster.are;
      whole = c.new.ensures ∙ five_added steps.lines (reaction_lines latency span ++ c.args.measured.now) earlier.lines faster.lines _ _ _ _ _ _ _ c.new-text.ensures.bytes steps.added part earlier.added faster.added last;
    }
