use Rattle.dk_recount.proofs.Call.Booking.{untold-booked}
use Rattle.dk_recount.proofs.event_laws.untold_event_is_booked.Goals as goal

pub returns : goal.returns
returns c = untold-booked
