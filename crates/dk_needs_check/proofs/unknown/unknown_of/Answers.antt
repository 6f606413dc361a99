use Rattle.std.proofs.Common.{refl}
use Rattle.dk_needs.specs.declared.needs.Need.{Need}
use Rattle.dk_needs.proofs.Lists.{row_more, rows_done}
use Rattle.dk_needs_check.specs.Unknown.{unknown_in, unknown_of}
use Rattle.dk_needs_check.proofs.unknown.unknown_of.Goals as goal

pub loop-i-preserved : goal.loop-i-preserved
loop-i-preserved c =
    let config = c.args.config.now in
    row_more (λ i (need : Need). unknown_in config i need.what) c.args.needs.now c.loop-i.i c.index-needs-i.result c.loop-i.found.items
    c.add_unknown.new.found.items (unknown_of config c.args.needs.now) _ c.loop-i-test.true c.index-needs-i.is refl c.in_ok-add_unknown.ensures
    c.loop-i.invariant

pub returns : goal.returns
returns c =
    let config = c.args.config.now in
    rows_done (λ i (need : Need). unknown_in config i need.what) c.args.needs.now c.loop-i.i c.loop-i.found.items (unknown_of config c.args.needs.now)
    c.loop-i-test.false c.loop-i.invariant
