use Rattle.dk_asm.proofs.Imports.{◌∙◌, ap, sym, is_some}
use Rattle.dk_asm.proofs.Cuts.{blanks_by_place}
use Rattle.dk_asm.proofs.words.are_blanks.Goals as goal

pub returns : goal.returns
returns c = blanks_by_place c.args.bytes.now c.is_none.result (ap is_some (sym c.solid_at.ensures) ∙ c.is_none.ensures)
