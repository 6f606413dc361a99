use Rattle.dk_picture.proofs.Names.{◌∙◌, ◌++◌, ap, opening_text, body_text, foot_text}
use Rattle.dk_picture.specs.Pictures.{parts_text}
use Rattle.std.specs.Prelude.{string_bytes}
use Rattle.dk_picture.proofs.Framed.{three_parts}
use Rattle.dk_picture.proofs.whole.framed.Goals as goal

pub returns : goal.returns
unfolding parts_text
returns c =
    three_parts (opening_text c.args.header.now c.args.frame c.args.span c.args.ticks c.args.drawing.now.groups) (body_text c.args.header.now c.args.frame c.args.span c.args.drawing.now) (foot_text c.args.span c.args.frame c.args.drawing.now)
    _ _ _ _ c.new-text.ensures.bytes
    (c.in_ok-add_opening.ensures ∙ ap (λ gs. string_bytes c.new-text.result ++ opening_text c.args.header.now c.args.frame c.args.span c.args.ticks gs) c.groups.ensures.groups) c.in_ok-add_body.ensures c.in_ok-add_foot.ensures
