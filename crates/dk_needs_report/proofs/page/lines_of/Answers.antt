use Rattle.std.proofs.Common.{◌∙◌, ◌++◌, ap}
use Rattle.std.specs.Prelude.{string_bytes}
use Rattle.dk_needs_report.proofs.page.lines_of.Goals as goal

pub returns : goal.returns
returns c =
    let adds = c.in_ok-add_lines.ensures in
    let before = adds.added ∙ ap (λ t. t ++ adds.lines) c.new-text.ensures.bytes in
    record {
      lines = adds.lines;
      are = adds.are;
      whole = c.new.ensures ∙ (c.in_ok-push_line.ensures ∙ (ap (λ t. t ++ string_bytes c.in_ok-count_line.field-0) before ∙ ap (λ t. adds.lines ++ t) c.in_ok-count_line.ensures));
    }
