use Rattle.dk_recount.proofs.Questions.{told-left, told-innermost}
use Rattle.dk_recount.proofs.question_laws.holds_are_the_pasts.Goals as goal

pub returns : goal.returns
returns c = record {
  left = told-left c.nesting_law.ensures c.holds_are_the_pasts.ensures.left;
  mutex = told-innermost c.nesting_law.ensures c.holds_are_the_pasts.ensures.innermost;
}
