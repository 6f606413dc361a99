use Rattle.dk_picture.proofs.Names.{refl, share_text, shares_of_process}
use Rattle.std.specs.Prelude.{string_bytes}
use Rattle.dk_picture.proofs.Adding.{each_shown}
use Rattle.dk_picture.proofs.share_texts.add_shares.Goals as goal

pub loop-process-preserved : goal.loop-process-preserved
loop-process-preserved c =
    each_shown (share_text c.args.header.now c.args.frame c.args.span c.args.drawing.now) (shares_of_process c.args.header.now c.args.span c.args.drawing.now) c.loop-process.process
    (string_bytes c.args.text.now) (string_bytes c.loop-process.text) (string_bytes c.add_main.new.text) _
    refl c.in_ok-add_main.ensures c.loop-process.invariant
