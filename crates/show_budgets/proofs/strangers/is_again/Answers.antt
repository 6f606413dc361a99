use Rattle.std.proofs.Common.{rules, ◌∙◌, ◌+◌, sym, arith}
use Rattle.csv.specs.Records.{fields_of}
use Rattle.show_budgets.proofs.OneColumn.{one_name_more, stays}
use Rattle.show_budgets.proofs.strangers.is_again.Goals as goal

pub returns-then-is_named : goal.returns-then-is_named
returns-then-is_named c =
    let name = c.args.name.now in
    let names = fields_of c.args.row.now in
    let at = c.loop-other.other in
    let more = one_name_more name names at in
    let named = sym c.is_named.ensures ∙ c.if-is_named.true in
    let none = c.loop-other.invariant in
    sym (stays name names (at + 1) c.args.place (search (rules, arith)) (grind (arith, more, named, none)))

pub loop-other-preserved : goal.loop-other-preserved
loop-other-preserved c =
    let more = one_name_more c.args.name.now (fields_of c.args.row.now) c.loop-other.other in
    let named = sym c.is_named.ensures ∙ c.if-is_named.false in
    let none = c.loop-other.invariant in
    grind (arith, more, named, none)
