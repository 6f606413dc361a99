use Rattle.std.proofs.Common.{arith}
use Rattle.dk_gen.proofs.Steps.{no_words, word_more, all_words}
use Rattle.dk_gen.proofs.templates.draw_words.Goals as goal

pub loop-i-init : goal.loop-i-init
loop-i-init c = no_words c.args.draws.now c.new-code.result.items c.new-code.ensures.items

pub loop-i-preserved : goal.loop-i-preserved
loop-i-preserved c =
    word_more _ c.loop-i._i c.loop-i.draws c.draw_word.new.draws c.loop-i.code.items c.draw_word.result _ c.loop-i.invariant c.draw_word.ensures.bytes c.draw_word.ensures.next
    c.in_ok-extend_from_slice.ensures.items

pub returns-clause-bytes : goal.returns-clause-bytes
returns-clause-bytes c = (all_words c.args.draws.now c.loop-i._i c.loop-i.draws c.loop-i.code.items c.loop-i.invariant (omega arith)).0

pub returns-clause-next : goal.returns-clause-next
returns-clause-next c = (all_words c.args.draws.now c.loop-i._i c.loop-i.draws c.loop-i.code.items c.loop-i.invariant (omega arith)).1
