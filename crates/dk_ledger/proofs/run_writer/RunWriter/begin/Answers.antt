use Rattle.dk_ledger.proofs.run_writer.RunWriter.begin.Goals as goal
use Rattle.dk_ledger.proofs.Readings.{some_of}

pub put_tick-self-inside-requires-clause-after : goal.put_tick-self-inside-requires-clause-after
put_tick-self-inside-requires-clause-after c = some_of c.self.inside.last _ (λ l is. (c.self.invariant l is).0)

pub put_tick-self-inside-requires-clause-all : goal.put_tick-self-inside-requires-clause-all
put_tick-self-inside-requires-clause-all c = some_of c.self.inside.last _ (λ l is. (c.self.invariant l is).1)

pub put_tick-self-inside-requires-clause-before : goal.put_tick-self-inside-requires-clause-before
put_tick-self-inside-requires-clause-before c = some_of c.self.inside.last _ (λ l is. (c.self.invariant l is).2)
