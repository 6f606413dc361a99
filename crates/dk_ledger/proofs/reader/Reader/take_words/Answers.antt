use Rattle.dk_ledger.proofs.Names.{◌≡◌, false, TakesNone, nat_tests, arith}
use Rattle.dk_ledger.proofs.NextItem.{one_side}
use Rattle.dk_ledger.proofs.FirstWord.{ok_weaker, none_but_level, none_but_process, none_but_end, none_but_ticks}
use Rattle.dk_ledger.proofs.reader.Reader.take_words.Goals as goal

pub returns-then-begins-clause-refused : goal.returns-then-begins-clause-refused
returns-then-begins-clause-refused c =
    ok_weaker c.take_level.result _ (λ taken. taken ≡ false → TakesNone c.args.self.now c.args.line.now) c.take_level.ensures.refused
    (λ b refused no. none_but_level c.args.self.now c.args.line.now c.args.words.now c.requires.words c.requires.part (c.begins.ensures.0 c.if-begins.true) (refused no))

pub returns-then-begins-2-clause-refused : goal.returns-then-begins-2-clause-refused
returns-then-begins-2-clause-refused c =
    ok_weaker c.take_process.result _ (λ taken. taken ≡ false → TakesNone c.args.self.now c.args.line.now) c.take_process.ensures.refused
    (λ b refused no. none_but_process c.args.self.now c.args.line.now c.args.words.now c.requires.words c.requires.part (c.begins-2.ensures.0 c.if-begins-2.true) (refused no))

pub returns-then-begins-3-clause-refused : goal.returns-then-begins-3-clause-refused
returns-then-begins-3-clause-refused c = grind (arith, nat_tests, none_but_end)

pub returns-clause-refused : goal.returns-clause-refused
returns-clause-refused c = grind (arith, nat_tests, none_but_ticks, one_side)
