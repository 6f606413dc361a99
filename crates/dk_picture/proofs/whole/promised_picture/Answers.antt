use Rattle.dk_picture.proofs.Names.{◌≡◌, ◌∙◌, ◌≤◌, [], length, ap, subst, Heading, Err, groups, TooMany, IsTooMany}
use Rattle.std.specs.Prelude.{string_bytes}
use Rattle.dk_picture.proofs.Adding.{ok_wider}
use Rattle.dk_picture.proofs.Framed.{shown_text}
use Rattle.dk_picture.proofs.whole.promised_picture.Goals as goal

pub read_groups-requires : goal.read_groups-requires
read_groups-requires c = let j = c.requires.0 in let shown = c.requires.1 in (j, shown.readable, [], c.new-reader.ensures.nothing j shown.text)

pub of_groups-requires-clause-levels : goal.of_groups-requires-clause-levels
of_groups-requires-clause-levels c =
    let shown = c.requires.1 in subst (λ (h : Heading). length h.levels ≤ 12) shown.heading shown.readable.heading.few_levels

pub of_groups-requires-clause-processes : goal.of_groups-requires-clause-processes
of_groups-requires-clause-processes c =
    let shown = c.requires.1 in subst (λ (h : Heading). length h.processes ≤ 32) shown.heading shown.readable.heading.few_processes

pub returns-in-Ok-clause-drawn : goal.returns-in-Ok-clause-drawn
returns-in-Ok-clause-drawn c =
    ok_wider c.of_groups.result _ _
    (λ text is j shown.
    shown_text j c.args.header.now c.args.promise c.args.bytes.now c.args.ticks c.args.from c.args.to c.new-reader.result.from c.new-reader.result.to c.in-Ok.groups.items (string_bytes text) shown
    (c.in-Ok.ensures.groups j shown.readable (c.new-reader.ensures.nothing j shown.text)) c.new-reader.ensures.from c.new-reader.ensures.to (is j shown) c.in-Ok.ensures.few)
    c.of_groups.ensures.drawn

pub returns-in-Err-clause-too_many : goal.returns-in-Err-clause-too_many
returns-in-Err-clause-too_many c = λ t is j shown.
    let same : c.in-Err.fault ≡ TooMany t = cc in
    subst (λ n. IsTooMany (groups n c.args.to j.entries) t) c.new-reader.ensures.from
    (subst (λ n. IsTooMany (groups c.new-reader.result.from n j.entries) t) c.new-reader.ensures.to
    (c.read_groups.ensures.too_many t (c.in-Err.is ∙ ap Err same) j shown.readable (c.new-reader.ensures.nothing j shown.text)))
