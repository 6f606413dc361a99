use Rattle.dk_session.proofs.Names.{◌≡◌, ◌∙◌, inl, inr, map, string_bytes, rules, sym}
use Rattle.dk_inputs.specs.declared.status.Status.TheVariants as status
use Rattle.dk_session.proofs.Leaving.{is_loud, leaves_more, refusal_stands, usage_stands, work_stands}
use Rattle.dk_session.proofs.Told.{completed, exactly, given_for_refusal, given_for_usage, given_for_work, kept, said_no_usage, said_undone, undone}
use Rattle.dk_session.proofs.session.deosk.Goals as goal

-- ---- the work was written

pub returns-in-Ok-Some-clause-output : goal.returns-in-Ok-Some-clause-output
returns-in-Ok-Some-clause-output g c =
    leaves_more g.S.Sink.seen _ _ c.args.sink.now c.put.new.sink c.put.result
    (λ speaks. work_stands (g.D.Depot.seen c.args.depot.now).files (map string_bytes c.args.words.now) c.in-Ok-Some.work
    (g.D.Depot.seen c.args.depot.now).given (g.D.Depot.seen c.work_for.new.depot).given (rw c.in-Ok-Some.field-0-is at c.in-Ok-Some.ensures.follows).told)
    (rw c.in-Ok-Some.field-0-is at c.put.ensures.left)

pub returns-in-Ok-Some-clause-received_bounded_granted : goal.returns-in-Ok-Some-clause-received_bounded_granted
returns-in-Ok-Some-clause-received_bounded_granted g c =
    kept (g.D.Depot.seen c.args.depot.now).files (map string_bytes c.args.words.now) (g.D.Depot.seen c.args.depot.now).given (g.D.Depot.seen c.work_for.new.depot).given
    c.in-Ok-Some.work c.put.result (rw c.in-Ok-Some.field-0-is at c.in-Ok-Some.ensures.follows).told

pub returns-in-Ok-Some-clause-config : goal.returns-in-Ok-Some-clause-config
returns-in-Ok-Some-clause-config g c =
    exactly g.S.Sink.seen c.args.sink.now c.put.new.sink c.put.result (map string_bytes c.args.words.now)
    status.Config (λ is. cc) (λ is. cc) (g.D.Depot.seen c.args.depot.now).files (returns-in-Ok-Some-clause-output g c)

pub returns-in-Ok-Some-clause-uncertified : goal.returns-in-Ok-Some-clause-uncertified
returns-in-Ok-Some-clause-uncertified g c =
    exactly g.S.Sink.seen c.args.sink.now c.put.new.sink c.put.result (map string_bytes c.args.words.now)
    status.Uncertified (λ is. cc) (λ is. cc) (g.D.Depot.seen c.args.depot.now).files (returns-in-Ok-Some-clause-output g c)

pub returns-in-Ok-Some-clause-program : goal.returns-in-Ok-Some-clause-program
returns-in-Ok-Some-clause-program g c =
    exactly g.S.Sink.seen c.args.sink.now c.put.new.sink c.put.result (map string_bytes c.args.words.now)
    status.Program (λ is. cc) (λ is. cc) (g.D.Depot.seen c.args.depot.now).files (returns-in-Ok-Some-clause-output g c)

pub returns-in-Ok-Some-clause-given : goal.returns-in-Ok-Some-clause-given
returns-in-Ok-Some-clause-given g c =
    given_for_work (g.D.Depot.seen c.args.depot.now).files (map string_bytes c.args.words.now) (g.D.Depot.seen c.args.depot.now).given (g.D.Depot.seen c.work_for.new.depot).given
    c.in-Ok-Some.work c.put.result (rw c.in-Ok-Some.field-0-is at c.in-Ok-Some.ensures.follows).told

-- ---- the usage line was written

pub returns-in-Ok-None-clause-output : goal.returns-in-Ok-None-clause-output
returns-in-Ok-None-clause-output g c =
    leaves_more g.S.Sink.seen _ _ c.args.sink.now c.write_line.new.sink c.write_line.result
    (λ speaks text ended says. usage_stands (g.D.Depot.seen c.args.depot.now).files (map string_bytes c.args.words.now)
    (g.D.Depot.seen c.args.depot.now).given (g.D.Depot.seen c.work_for.new.depot).given (rw c.in-Ok-None.field-0-is at c.in-Ok-None.ensures.follows).told
    text ended (says.0 ∙ c.usage.ensures, says.1))
    c.write_line.ensures.left

pub returns-in-Ok-None-clause-received_bounded_granted : goal.returns-in-Ok-None-clause-received_bounded_granted
returns-in-Ok-None-clause-received_bounded_granted g c =
    undone (g.D.Depot.seen c.args.depot.now).files (map string_bytes c.args.words.now) c.write_line.result (λ done. elim c.write_line.ensures.only [
      | inl is ↦ (let same : status.Usage ≡ status.Done = sym is ∙ done in cc)
      | inr is ↦ (let same : status.SinkFault ≡ status.Done = sym is ∙ done in cc)
    ])

pub returns-in-Ok-None-clause-config : goal.returns-in-Ok-None-clause-config
returns-in-Ok-None-clause-config g c =
    exactly g.S.Sink.seen c.args.sink.now c.write_line.new.sink c.write_line.result (map string_bytes c.args.words.now)
    status.Config (λ is. cc) (λ is. cc) (g.D.Depot.seen c.args.depot.now).files (returns-in-Ok-None-clause-output g c)

pub returns-in-Ok-None-clause-uncertified : goal.returns-in-Ok-None-clause-uncertified
returns-in-Ok-None-clause-uncertified g c =
    exactly g.S.Sink.seen c.args.sink.now c.write_line.new.sink c.write_line.result (map string_bytes c.args.words.now)
    status.Uncertified (λ is. cc) (λ is. cc) (g.D.Depot.seen c.args.depot.now).files (returns-in-Ok-None-clause-output g c)

pub returns-in-Ok-None-clause-program : goal.returns-in-Ok-None-clause-program
returns-in-Ok-None-clause-program g c =
    exactly g.S.Sink.seen c.args.sink.now c.write_line.new.sink c.write_line.result (map string_bytes c.args.words.now)
    status.Program (λ is. cc) (λ is. cc) (g.D.Depot.seen c.args.depot.now).files (returns-in-Ok-None-clause-output g c)

pub returns-in-Ok-None-clause-given : goal.returns-in-Ok-None-clause-given
returns-in-Ok-None-clause-given g c =
    given_for_usage (g.D.Depot.seen c.args.depot.now).files (map string_bytes c.args.words.now) (g.D.Depot.seen c.args.depot.now).given (g.D.Depot.seen c.work_for.new.depot).given
    c.write_line.result (rw c.in-Ok-None.field-0-is at c.in-Ok-None.ensures.follows).told

pub returns-in-Ok-None-clause-complete : goal.returns-in-Ok-None-clause-complete
returns-in-Ok-None-clause-complete g c =
    completed g.S.Sink.seen c.args.sink.now c.write_line.new.sink c.write_line.result (map string_bytes c.args.words.now)
    (g.D.Depot.seen c.args.depot.now).files (g.D.Depot.seen c.args.depot.now).faults (g.D.Depot.seen c.work_for.new.depot).faults (returns-in-Ok-None-clause-output g c)
    (λ is. search rules)

-- ---- why it was refused was written

pub returns-in-Err-clause-usage_only : goal.returns-in-Err-clause-usage_only
returns-in-Err-clause-usage_only g c = λ is.
    absurd (said_no_usage g.S.Sink.seen c.args.sink.now c.say.new.sink c.say.result c.in-Err.refusal c.say.ensures.left is)

pub returns-in-Err-clause-usage_line : goal.returns-in-Err-clause-usage_line
returns-in-Err-clause-usage_line g c = λ is.
    absurd (said_no_usage g.S.Sink.seen c.args.sink.now c.say.new.sink c.say.result c.in-Err.refusal c.say.ensures.left is)

pub returns-in-Err-clause-output : goal.returns-in-Err-clause-output
returns-in-Err-clause-output g c =
    leaves_more g.S.Sink.seen _ _ c.args.sink.now c.say.new.sink c.say.result
    (λ speaks. refusal_stands (g.D.Depot.seen c.args.depot.now).files (map string_bytes c.args.words.now) c.in-Err.refusal
    (g.D.Depot.seen c.args.depot.now).given (g.D.Depot.seen c.work_for.new.depot).given c.in-Err.ensures.follows.told
    (is_loud c.in-Err.refusal c.say.result c.say.ensures.silent speaks))
    c.say.ensures.left

pub returns-in-Err-clause-received_bounded_granted : goal.returns-in-Err-clause-received_bounded_granted
returns-in-Err-clause-received_bounded_granted g c =
    undone (g.D.Depot.seen c.args.depot.now).files (map string_bytes c.args.words.now) c.say.result
    (said_undone g.S.Sink.seen c.args.sink.now c.say.new.sink c.say.result c.in-Err.refusal c.say.ensures.left)

pub returns-in-Err-clause-config : goal.returns-in-Err-clause-config
returns-in-Err-clause-config g c =
    exactly g.S.Sink.seen c.args.sink.now c.say.new.sink c.say.result (map string_bytes c.args.words.now)
    status.Config (λ is. cc) (λ is. cc) (g.D.Depot.seen c.args.depot.now).files (returns-in-Err-clause-output g c)

pub returns-in-Err-clause-uncertified : goal.returns-in-Err-clause-uncertified
returns-in-Err-clause-uncertified g c =
    exactly g.S.Sink.seen c.args.sink.now c.say.new.sink c.say.result (map string_bytes c.args.words.now)
    status.Uncertified (λ is. cc) (λ is. cc) (g.D.Depot.seen c.args.depot.now).files (returns-in-Err-clause-output g c)

pub returns-in-Err-clause-program : goal.returns-in-Err-clause-program
returns-in-Err-clause-program g c =
    exactly g.S.Sink.seen c.args.sink.now c.say.new.sink c.say.result (map string_bytes c.args.words.now)
    status.Program (λ is. cc) (λ is. cc) (g.D.Depot.seen c.args.depot.now).files (returns-in-Err-clause-output g c)

pub returns-in-Err-clause-given : goal.returns-in-Err-clause-given
returns-in-Err-clause-given g c =
    given_for_refusal (g.D.Depot.seen c.args.depot.now).files (map string_bytes c.args.words.now) (g.D.Depot.seen c.args.depot.now).given (g.D.Depot.seen c.work_for.new.depot).given
    c.in-Err.refusal c.say.result c.say.ensures.silent c.in-Err.ensures.follows.told

-- ---- a command that can be done

pub returns-in-Ok-Some-clause-complete : goal.returns-in-Ok-Some-clause-complete
returns-in-Ok-Some-clause-complete g c =
    completed g.S.Sink.seen c.args.sink.now c.put.new.sink c.put.result (map string_bytes c.args.words.now)
    (g.D.Depot.seen c.args.depot.now).files (g.D.Depot.seen c.args.depot.now).faults (g.D.Depot.seen c.work_for.new.depot).faults (returns-in-Ok-Some-clause-output g c)
    (λ is. search rules)

pub returns-in-Err-clause-complete : goal.returns-in-Err-clause-complete
returns-in-Err-clause-complete g c =
    completed g.S.Sink.seen c.args.sink.now c.say.new.sink c.say.result (map string_bytes c.args.words.now)
    (g.D.Depot.seen c.args.depot.now).files (g.D.Depot.seen c.args.depot.now).faults (g.D.Depot.seen c.work_for.new.depot).faults (returns-in-Err-clause-output g c)
    (λ is. search rules)
