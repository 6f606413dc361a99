use Rattle.dk_page.specs.More.{chain_table}
use Rattle.dk_page.proofs.chaining.add_table.Goals as goal

pub returns : goal.returns
unfolding chain_table
returns c = c.add_parts.ensures
