use Rattle.dk_ledger.proofs.NextItem.{one_side}
use Rattle.dk_ledger.proofs.WordLists.{idle_count, plain_count, timeline_count, reclaimed_count, some_words}
use Rattle.dk_ledger.proofs.words.label_count.Goals as goal
use Rattle.std.proofs.lemmas.Bool.Decides.{nat_tests}
use Rattle.std.proofs.Common.{arith}

pub returns-then-begins : goal.returns-then-begins
returns-then-begins c = λ h label more e. idle_count c.args.words.now h label more e (c.begins.ensures.0 c.if-begins.true)

pub returns-then-not-begins : goal.returns-then-not-begins
returns-then-not-begins c = grind (arith, nat_tests, plain_count, one_side)

pub returns-then-begins-2 : goal.returns-then-begins-2
returns-then-begins-2 c = grind (arith, nat_tests, timeline_count)

pub returns-else-begins-2 : goal.returns-else-begins-2
returns-else-begins-2 c = grind (arith, nat_tests, reclaimed_count, one_side)

pub slice_bounds-begins-count : goal.slice_bounds-begins-count
slice_bounds-begins-count c = some_words c.args.words.now (c.begins-else-begins.ensures.0 c.if-not-begins.false)
