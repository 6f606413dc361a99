use Rattle.std.proofs.Common.{◌∙◌, ◌++◌, ap, codes, string_bytes}
use Rattle.dk_repeat_report.specs.Lines.{refused_part, used_part, waited_part}
use Rattle.dk_repeat_report.proofs.Joined.{joined}
use Rattle.dk_repeat_report.proofs.lines.own_use_line.Goals as goal

pub returns : goal.returns
returns c =
    let waited = c.as_str.ensures.value ∙ c.in_ok-waited_part.ensures in
    let used = c.as_str-2.ensures.value ∙ c.in_ok-used_part.ensures in
    let refused = c.as_str-3.ensures.value ∙ c.in_ok-refused_part.ensures in
    joined (codes "  ") c.args.name.now (codes " by itself") (waited_part c.args.done.main.counts) (used_part c.args.done.main.counts c.args.done.budget)
    (refused_part c.args.done.refused) _ _ _ _ _ c.in_ok-line.ensures.ok c.in_ok-push_str.ensures.bytes
    (c.in_ok-push_str-2.ensures.bytes ∙ ap (λ t. string_bytes c.push_str.new.self ++ t) waited)
    (c.in_ok-push_str-3.ensures.bytes ∙ ap (λ t. string_bytes c.push_str-2.new.self ++ t) used)
    (c.in_ok-push_str-4.ensures.bytes ∙ ap (λ t. string_bytes c.push_str-3.new.self ++ t) refused)
