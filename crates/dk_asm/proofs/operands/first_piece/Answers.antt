use Rattle.std.proofs.Common.{sym}
use Rattle.dk_asm.proofs.TextLines.{piece_at_cut, piece_at_end}
use Rattle.dk_asm.proofs.operands.first_piece.Goals as goal

pub returns-in-Some : goal.returns-in-Some
returns-in-Some c = piece_at_cut c.args.text.now c.in-Some.piece.now c.in-Some.rest.now (sym c.in-Some.ensures)

pub returns-in-None : goal.returns-in-None
returns-in-None c = piece_at_end c.args.text.now (sym c.in-None.ensures)
