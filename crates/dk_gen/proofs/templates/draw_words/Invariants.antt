use Rattle.dk_gen.proofs.Steps.{Words}
use Rattle.dk_gen.proofs.templates.draw_words.Given as goal

abbrev pub invariant-loop-i : goal.invariant-loop-i
invariant-loop-i l = Words l.initial.draws l._i l.draws l.code.items
