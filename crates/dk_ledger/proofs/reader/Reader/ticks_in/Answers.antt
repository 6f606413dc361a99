use Rattle.dk_ledger.proofs.Names.{sym, subst, IsPrintable, Kept}
use Rattle.dk_ledger.proofs.NextItem.{part_printable}
use Rattle.dk_ledger.proofs.reader.Reader.ticks_in.Goals as goal

pub line_in-requires : goal.line_in-requires
line_in-requires c = subst (λ (k : Kept). IsPrintable k.heading) (sym c.self.view_is) (part_printable c.args.self.now c.requires)
