use Rattle.std.proofs.Common.{◌≡◌, ◌∙◌, ◌++◌, ap, sym, rules}
use Rattle.std.specs.Prelude.{None, flat_map, reverse}
use Rattle.std.proofs.lemmas.Result.{on_ok_weaker}
use Rattle.dk_config.specs.Sums.{below}
use Rattle.dk_hold_spans.proofs.Going.{ends_of, line_ends, no_ends}
use Rattle.dk_hold_spans.proofs.reading.push_ends.Goals as goal

pub returns-then-is_none : goal.returns-then-is_none
returns-then-is_none c = λ es start holders so_far.
    let none : c.args.line.now.event ≡ None = search rules in
    so_far ∙ sym (no_ends c.args.from c.args.line.now es c.requires.some start none)

pub returns : goal.returns
returns c =
    on_ok_weaker c.push_ended.result
    (λ ended es start holders so_far.
    ended (reverse es) holders ∙ ap (λ t. t ++ flat_map (ends_of c.args.from c.args.line.now (reverse es)) (below 16)) so_far
    ∙ sym (line_ends c.args.from c.args.line.now es c.requires.some start)) c.push_ended.ensures
