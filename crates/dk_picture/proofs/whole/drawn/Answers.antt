use Rattle.std.specs.Prelude.{string_bytes}
use Rattle.dk_picture.proofs.Framed.{if_each, same_frame}
use Rattle.dk_picture.proofs.whole.drawn.Goals as goal

pub read_holds-requires : goal.read_holds-requires
read_holds-requires c = let shown = c.requires.ledger.1 in (c.requires.ledger.0, shown.readable, shown.text)

pub read_makings-requires : goal.read_makings-requires
read_makings-requires c = let shown = c.requires.ledger.1 in (c.requires.ledger.0, shown.readable, shown.text)

pub returns : goal.returns
returns c =
    if_each string_bytes c.framed.result _ _
    (λ j shown.
    same_frame c.args.header.now c.args.promise c.args.span c.args.ticks c.args.groups.items c.in_ok-holds.holds.items c.in_ok-makings.makings.items c.in_ok-drawing.drawing c.frame.result j.entries (c.in_ok-holds.ensures.holds j shown.readable shown.text)
    (c.in_ok-makings.ensures j shown.readable shown.text) c.in_ok-drawing.ensures c.frame.ensures) c.framed.ensures
