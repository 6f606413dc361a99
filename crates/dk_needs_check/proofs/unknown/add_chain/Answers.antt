use Rattle.std.proofs.Common.{◌++◌, ◌∙◌, ap, refl}
use Rattle.dk_chain_report.specs.Finding.{is_known}
use Rattle.dk_needs.specs.declared.fault.Key.{Key}
use Rattle.dk_needs.proofs.Lists.{row_more, rows_done}
use Rattle.dk_needs_check.specs.Unknown.{unknown_in_chain, unless}
use Rattle.dk_needs_check.proofs.unknown.add_chain.Goals as goal

pub loop-place-preserved : goal.loop-place-preserved
loop-place-preserved c =
    let config = c.args.config.now in
    row_more (λ place name. unless (is_known config name) c.args.need Key.Processes place) c.args.names.now c.loop-place.place c.index-names-place.result
    c.loop-place.found.items c.add_unless.new.found.items (c.args.found.now.items ++ unknown_in_chain config c.args.need c.args.names.now)
    (unless (is_known config c.index-names-place.result) c.args.need Key.Processes c.loop-place.place) c.loop-place-test.true c.index-names-place.is refl
    (c.in_ok-add_unless.ensures
    ∙ ap (λ known. c.loop-place.found.items ++ unless known c.args.need Key.Processes c.loop-place.place)
    (c.is_process.ensures ∙ ap (is_known config) c.as_str.ensures))
    c.loop-place.invariant

pub returns : goal.returns
returns c =
    let config = c.args.config.now in
    rows_done (λ place name. unless (is_known config name) c.args.need Key.Processes place) c.args.names.now c.loop-place.place c.loop-place.found.items
    (c.args.found.now.items ++ unknown_in_chain config c.args.need c.args.names.now) c.loop-place-test.false c.loop-place.invariant
