use Rattle.dk_loader.proofs.Names.{◌∙◌, ◌++◌, ap, table_view, broken, then_more, rule_tests}
use Rattle.dk_loader.specs.declared.shape.Rule.TheVariants as rule
use Rattle.dk_loader.proofs.Shapes.{shape_same}
use Rattle.dk_loader.proofs.all_shape.add_rules.Goals as goal

pub returns : goal.returns
returns c =
    let version = c.version_of-version.result in
    let ms = table_view c.args.table.now in
    let first = c.args.found.now.items in
    let last = c.add_rule-3.new.found.items in
    then_more first c.add_rule.new.found.items last (rule_tests rule.Unknown version ms) (rule_tests rule.Missing version ms ++ rule_tests rule.Wrong version ms) c.in_ok-add_rule.ensures (
    then_more c.add_rule.new.found.items c.add_rule-2.new.found.items last (rule_tests rule.Missing version ms) (rule_tests rule.Wrong version ms) c.in_ok-add_rule-2.ensures c.in_ok-add_rule-3.ensures)
    ∙ ap (λ ts. first ++ broken ts) (shape_same version ms c.version_of-version.ensures)
