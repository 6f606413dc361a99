use Rattle.dk_audit.proofs.Names.{inr, refl}
use Rattle.dk_audit.proofs.Threads.{none-untold, quiet-follows}
use Rattle.dk_audit.proofs.booking.book.Goals as goal

pub returns-in-None : goal.returns-in-None
returns-in-None g c =
    let is = c.requires in
    let none = c.in-None.is in
    record {
      whole = record { follows = quiet-follows _ _ c.args.entry is.chose is.obeys none; told = inr (is.charged, none-untold c.args.entry.event none) };
      config = refl;
      entries = refl;
    }

pub owner_of-id-requires-clause-may : goal.owner_of-id-requires-clause-may
owner_of-id-requires-clause-may g c = c.requires.obeys.work
