use Rattle.dk_audit.proofs.Names.{refl, Event}
use Rattle.dk_audit.proofs.Events.{create-booked, create-refused, in-call}
use Rattle.dk_audit.proofs.booking.create.Goals as goal

pub create-requires : goal.create-requires
create-requires g c = in-call c.args.id (Event.Create c.args.serial c.args.level c.args.quota) c.args.entry c.args.tables.now.past c.requires refl

pub returns-in-Ok : goal.returns-in-Ok
returns-in-Ok g c =
    create-booked c.args.id c.args.serial c.args.level c.args.quota c.args.entry c.args.tables.now c.create.new.self c.choice_law.ensures c.requires c.in-Ok.row c.has_serial.result
    c.has_serial.ensures c.in-Ok.ensures.answer

pub returns-in-Err : goal.returns-in-Err
returns-in-Err g c =
    create-refused c.args.id c.args.serial c.args.level c.args.quota c.args.entry c.args.tables.now c.create.new.self c.requires _ c.in-Err.ensures.answer
