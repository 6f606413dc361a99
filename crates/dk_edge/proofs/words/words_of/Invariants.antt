use Rattle.std.proofs.Common.{map, string_bytes}
use Rattle.dk_edge.proofs.WordsLemmas.{GatheredIf}
use Rattle.dk_edge.proofs.words.words_of.Given as goal

abbrev pub invariant-loop-number : goal.invariant-loop-number
invariant-loop-number g l = GatheredIf (g.W.Words.told l.given) l.number (map string_bytes l.words.items)
