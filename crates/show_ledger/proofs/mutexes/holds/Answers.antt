use Rattle.std.proofs.Common.{subst, sym}
use Rattle.dk_ledger.specs.Heading.{IsPrintable}
use Rattle.dk_ledger.specs.Readable.{Journal}
use Rattle.show_ledger.proofs.Printable.{readable_printable}
use Rattle.show_ledger.proofs.mutexes.holds.Goals as goal

pub add_mutexes-requires : goal.add_mutexes-requires
add_mutexes-requires c =
    subst (λ (j : Journal). IsPrintable j.heading) (sym c.ledger.view_is) (readable_printable c.args.ledger.now.heading c.requires.readable.heading)
