use Rattle.dk_recount.proofs.Questions.{rows-body}
use Rattle.dk_recount.proofs.question_laws.rows_are_the_pasts.Goals as goal

pub returns : goal.returns
returns c = record {
  there = λ k now past d id is. c.rows_are_the_pasts.ensures.there k now past d.threads id is.rows;
  found = λ k now past d id is known. c.rows_are_the_pasts.ensures.found k now past d.threads id is.rows known;
  child = λ k now past d process index is known. c.rows_are_the_pasts.ensures.child k now past d.threads process index is.rows known;
  body = rows-body;
}
