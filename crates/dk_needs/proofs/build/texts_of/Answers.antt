use Rattle.dk_loader.specs.Reading.{text_of}
use Rattle.dk_loader.proofs.PrintedLemmas.{read_more, rows_read}
use Rattle.dk_needs.proofs.build.texts_of.Goals as goal

pub loop-value-init : goal.loop-value-init
loop-value-init c = c.new-texts.ensures.items

pub loop-value-preserved : goal.loop-value-preserved
loop-value-preserved c =
    read_more text_of c.args.values.now c.loop-value.value-index _ c.value-item.result c.loop-value.texts.items _ c.in_ok-text_of.field-0 c.loop-value-test.true c.value-item.is c.loop-value.invariant c.in_ok-text_of.ensures c.in_ok-push.ensures.items

pub returns : goal.returns
returns c = rows_read text_of c.args.values.now c.loop-value.value-index c.loop-value.texts.items c.loop-value-test.false c.loop-value.invariant
