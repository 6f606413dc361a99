use Rattle.dk_repeat_search.proofs.Names.{subst, IsYoung}
use Rattle.dk_repeat_search.proofs.search.is_worth.Goals as goal

pub returns : goal.returns
returns c = λ off. record {
  young = subst (λ n. IsYoung c.args.search.now.saved n) c.requires (c.is_due.ensures.young c.if-is_due.false);
  context = c.in-Some.context;
  words = c.in-Some-memory.words.now;
  context_is = c.in-Some.ensures.context;
  words_are = c.in-Some-memory.ensures.words;
  gone = c.had.ensures off;
}
