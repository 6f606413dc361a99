use Rattle.dk_repeat_search.proofs.Names.{List, Option, sym, subst, inl, inr, IsYoungRun, RunState, ProcessState, HasOtherNow, IsOtherRun}
use Rattle.dk_repeat_search.proofs.search.Searches.is_worth.Goals as goal

pub returns-then-self : goal.returns-then-self
returns-then-self c = λ off.
    let k = c.args.kernel.now in
    let run = c.args.self.now.run in
    let other = subst (λ (states : List ProcessState). HasOtherNow k states) c.as_slice.ensures.value (c.all_may_be.ensures off) in
    record {
      young = subst (λ n. IsYoungRun run.saved n) c.requires.tick (c.is_due.ensures.young c.if-is_due.false);
      why = inr (subst (λ (o : Option RunState). IsOtherRun k o) (sym c.in-Some.is) other);
    }

pub returns-else-self : goal.returns-else-self
returns-else-self c = λ off. record {
  young = subst (λ n. IsYoungRun c.args.self.now.run.saved n) c.requires.tick (c.is_due.ensures.young c.if-is_due.false);
  why = inl c.if-self.false;
}
