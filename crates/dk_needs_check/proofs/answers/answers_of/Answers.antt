use Rattle.std.proofs.Common.{ap, refl, subst, sym}
use Rattle.dk_chain_report.specs.Finding.{process_named}
use Rattle.dk_needs.specs.declared.needs.What.{What}
use Rattle.dk_needs_check.specs.Meaning.{AreAnswers, mutex_named}
use Rattle.dk_needs_check.proofs.Told.{one_answer}
use Rattle.dk_needs_check.proofs.answers.answers_of.Goals as goal

pub returns-in-Deadline : goal.returns-in-Deadline
returns-in-Deadline c =
    subst (λ (w : What). AreAnswers c.args.config.now c.args.allotments.now w c.one.result) (sym c.in-Deadline.is)
    (one_answer _ _ _ c.deadline.result c.one.result (ap (process_named c.args.config.now) c.as_str.ensures) c.deadline.ensures c.one.ensures.first c.one.ensures.second)

pub returns-in-Budget : goal.returns-in-Budget
returns-in-Budget c =
    subst (λ (w : What). AreAnswers c.args.config.now c.args.allotments.now w c.one-in-Budget.result) (sym c.in-Budget.is)
    (one_answer _ _ _ c.budget.result c.one-in-Budget.result (ap (process_named c.args.config.now) c.as_str-in-Budget.ensures) c.budget.ensures c.one-in-Budget.ensures.first c.one-in-Budget.ensures.second)

pub returns-in-Hold : goal.returns-in-Hold
returns-in-Hold c =
    subst (λ (w : What). AreAnswers c.args.config.now c.args.allotments.now w c.one-in-Hold.result) (sym c.in-Hold.is)
    (one_answer _ _ _ c.hold.result c.one-in-Hold.result (ap (mutex_named c.args.config.now) c.as_str-in-Hold.ensures) c.hold.ensures c.one-in-Hold.ensures.first c.one-in-Hold.ensures.second)

pub returns-in-Spare : goal.returns-in-Spare
returns-in-Spare c =
    subst (λ (w : What). AreAnswers c.args.config.now c.args.allotments.now w c.one-in-Spare.result) (sym c.in-Spare.is)
    (one_answer _ _ _ c.spare.result c.one-in-Spare.result (refl) c.spare.ensures c.one-in-Spare.ensures.first c.one-in-Spare.ensures.second)
