use Rattle.dk_ledger.proofs.Names.{rules, tests, bytes_eq, YieldsList-from_slice, position_from_yields_List}
use Rattle.dk_ledger.proofs.words.place_of.Goals as goal

pub returns : goal.returns
returns c = position_from_yields_List (λ line. bytes_eq line.name c.args.name.now) _ _ _ c.position.ensures.ran (YieldsList-from_slice _ c.iter.ensures.rest) (λ x b q k. search (rules, tests))
