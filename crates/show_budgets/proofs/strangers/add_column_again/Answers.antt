use Rattle.std.proofs.Common.{rules, ◌∙◌, ◌++◌, ap}
use Rattle.std.specs.Prelude.{codes}
use Rattle.show_budgets.specs.Strangers.{column_head}
use Rattle.show_budgets.proofs.OneColumn.{in_turn}
use Rattle.show_budgets.proofs.strangers.add_column_again.Goals as goal

pub returns : goal.returns
returns c =
    in_turn c.args.out.now.items (column_head c.args.place) c.args.name.now (codes " once more\n") c.add_column_head.new.out.items
    c.extend_from_slice.new.self.items c.extend_from_slice-2.new.self.items
    (search rules) (search rules)
    (c.in_ok-extend_from_slice-2.ensures.items ∙ ap (λ l. c.extend_from_slice.new.self.items ++ l) c.as_bytes.ensures.value)
