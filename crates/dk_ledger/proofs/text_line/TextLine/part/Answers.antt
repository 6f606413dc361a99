use Rattle.dk_ledger.proofs.Names.{◌∙◌, ◌+◌, ◌-◌, ◌++◌, length, take, ap, arith}
use Rattle.dk_ledger.proofs.NumberText.{part_written}
use Rattle.dk_ledger.proofs.text_line.TextLine.part.Goals as goal

pub returns-clause-bytes : goal.returns-clause-bytes
returns-clause-bytes c =
    let line = c.self.inside in
    let len = c.args.len in
    let piece = c.copy_from_slice.new.self in
    let after = c.copy_from_slice.ensures.after in
    part_written line.len (line.len + length c.args.bytes.now - line.len) len line.bytes piece
    (omega (arith, c.self.told, c.self.invariant))
    (omega (arith, ap length after, c.requires.part))
    ∙ ap (λ t. t ++ take len piece) c.self.view_is
    ∙ ap (λ t. c.args.self.now ++ take len t) after
