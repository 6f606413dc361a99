-- Each event is booked by its call.
use Rattle.dk_audit.proofs.Names.{refl, subst, Event, IsEventOpen}
use Rattle.dk_audit.proofs.Events.{call-judged, end-booked, ending, in-call, untold-booked}
use Rattle.dk_audit.proofs.booking.book_event.Goals as goal

pub stop-requires : goal.stop-requires
stop-requires g c =
    ending c.args.id Event.Exit c.args.entry c.args.tables.now.past (subst (λ v. IsEventOpen c.args.id v c.args.entry c.args.tables.now.past) c.in-Exit.is c.requires) c.choice_law.ensures (λ row. (tt, refl)) refl

pub returns-in-Exit : goal.returns-in-Exit
returns-in-Exit g c =
    end-booked c.args.id Event.Exit c.args.entry c.args.tables.now.past (subst (λ v. IsEventOpen c.args.id v c.args.entry c.args.tables.now.past) c.in-Exit.is c.requires) c.choice_law.ensures (λ row. (tt, refl))
    c.stop.new.self.past c.stop.ensures.past

pub stop-requires-in-Fault : goal.stop-requires-in-Fault
stop-requires-in-Fault g c =
    ending c.args.id (Event.Fault c.in-Fault.field-0) c.args.entry c.args.tables.now.past (subst (λ v. IsEventOpen c.args.id v c.args.entry c.args.tables.now.past) c.in-Fault.is c.requires)
    c.choice_law.ensures (λ row. (tt, refl)) refl

pub returns-in-Fault : goal.returns-in-Fault
returns-in-Fault g c =
    end-booked c.args.id (Event.Fault c.in-Fault.field-0) c.args.entry c.args.tables.now.past (subst (λ v. IsEventOpen c.args.id v c.args.entry c.args.tables.now.past) c.in-Fault.is c.requires)
    c.choice_law.ensures (λ row. (tt, refl)) c.stop-in-Fault.new.self.past c.stop-in-Fault.ensures.past

pub returns-in-Put : goal.returns-in-Put
returns-in-Put g c =
    untold-booked c.args.id _ c.args.entry c.args.tables.now.past (subst (λ v. IsEventOpen c.args.id v c.args.entry c.args.tables.now.past) c.in-Put.is c.requires)
    c.choice_law.ensures (λ row. (tt, refl)) tt

pub returns-in-Refused : goal.returns-in-Refused
returns-in-Refused g c =
    untold-booked c.args.id _ c.args.entry c.args.tables.now.past (subst (λ v. IsEventOpen c.args.id v c.args.entry c.args.tables.now.past) c.in-Refused.is c.requires)
    c.choice_law.ensures (λ row. (tt, refl)) tt

pub wait-requires : goal.wait-requires
wait-requires g c = in-call c.args.id Event.Wait c.args.entry c.args.tables.now.past (subst (λ v. IsEventOpen c.args.id v c.args.entry c.args.tables.now.past) c.in-Wait.is c.requires) refl

pub returns-in-Wait : goal.returns-in-Wait
returns-in-Wait g c =
    call-judged c.args.id Event.Wait c.args.entry c.args.tables.now c.wait.new.self (subst (λ v. IsEventOpen c.args.id v c.args.entry c.args.tables.now.past) c.in-Wait.is c.requires) refl c.choice_law.ensures
    c.wait.result c.is_ok.result c.is_ok.ensures.value tt c.wait.ensures.answer

pub delete-requires : goal.delete-requires
delete-requires g c = in-call c.args.id (Event.Delete c.in-Delete.serial) c.args.entry c.args.tables.now.past (subst (λ v. IsEventOpen c.args.id v c.args.entry c.args.tables.now.past) c.in-Delete.is c.requires) refl

pub returns-in-Delete : goal.returns-in-Delete
returns-in-Delete g c =
    call-judged c.args.id (Event.Delete c.in-Delete.serial) c.args.entry c.args.tables.now c.delete.new.self (subst (λ v. IsEventOpen c.args.id v c.args.entry c.args.tables.now.past) c.in-Delete.is c.requires) refl c.choice_law.ensures
    c.delete.result c.is_ok-in-Delete.result c.is_ok-in-Delete.ensures.value tt c.delete.ensures.answer

pub lock-requires : goal.lock-requires
lock-requires g c = in-call c.args.id (Event.Lock c.in-Lock.mutex) c.args.entry c.args.tables.now.past (subst (λ v. IsEventOpen c.args.id v c.args.entry c.args.tables.now.past) c.in-Lock.is c.requires) refl

pub returns-in-Lock : goal.returns-in-Lock
returns-in-Lock g c =
    call-judged c.args.id (Event.Lock c.in-Lock.mutex) c.args.entry c.args.tables.now c.lock.new.self (subst (λ v. IsEventOpen c.args.id v c.args.entry c.args.tables.now.past) c.in-Lock.is c.requires) refl c.choice_law.ensures
    c.lock.result c.is_ok-in-Lock.result c.is_ok-in-Lock.ensures.value tt c.lock.ensures.answer

pub unlock-requires : goal.unlock-requires
unlock-requires g c = in-call c.args.id (Event.Unlock c.in-Unlock.mutex) c.args.entry c.args.tables.now.past (subst (λ v. IsEventOpen c.args.id v c.args.entry c.args.tables.now.past) c.in-Unlock.is c.requires) refl

pub returns-in-Unlock : goal.returns-in-Unlock
returns-in-Unlock g c =
    call-judged c.args.id (Event.Unlock c.in-Unlock.mutex) c.args.entry c.args.tables.now c.unlock.new.self (subst (λ v. IsEventOpen c.args.id v c.args.entry c.args.tables.now.past) c.in-Unlock.is c.requires) refl c.choice_law.ensures
    c.unlock.result c.is_ok-in-Unlock.result c.is_ok-in-Unlock.ensures.value tt c.unlock.ensures.answer

pub ask-requires : goal.ask-requires
ask-requires g c = in-call c.args.id (Event.Slack c.in-Slack.amount) c.args.entry c.args.tables.now.past (subst (λ v. IsEventOpen c.args.id v c.args.entry c.args.tables.now.past) c.in-Slack.is c.requires) refl

pub returns-in-Slack : goal.returns-in-Slack
returns-in-Slack g c =
    call-judged c.args.id (Event.Slack c.in-Slack.amount) c.args.entry c.args.tables.now c.ask.new.self (subst (λ v. IsEventOpen c.args.id v c.args.entry c.args.tables.now.past) c.in-Slack.is c.requires) refl c.choice_law.ensures
    c.ask.result c.is_ok-in-Slack.result c.is_ok-in-Slack.ensures.value tt c.ask.ensures.answer
