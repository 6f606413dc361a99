use Rattle.dk_cycle.proofs.Names.{◌%◌, arith}
use Rattle.dk_cycle.proofs.Starts.{is-none, not-none, opens, shuts-early, shuts-late, shuts-loud}
use Rattle.dk_cycle.proofs.start.StartSearch.is_open.Goals as goal

pub returns-then-early-self-clause-shuts : goal.returns-then-early-self-clause-shuts
returns-then-early-self-clause-shuts c = λ no. shuts-loud c.args.self.now c.args.early c.args.late c.forever_law.ensures c.if-early-self.true

pub returns-then-early-self-ne0-clause-shuts : goal.returns-then-early-self-ne0-clause-shuts
returns-then-early-self-ne0-clause-shuts c = λ no. shuts-early c.args.self.now c.args.early c.args.late c.if-early-self-ne0.true

pub returns-clause-opens : goal.returns-clause-opens
returns-clause-opens c = λ yes.
    let quiet = c.if-early-self.false in
    let begins = c.if-early-self-ne0.false in
    opens c.args.self.now c.args.early c.args.late (omega (arith, quiet)) (omega (arith, begins))
    (is-none (c.args.late % c.args.self.now.longest) yes)

pub returns-clause-shuts : goal.returns-clause-shuts
returns-clause-shuts c = λ no. shuts-late c.args.self.now c.args.early c.args.late (not-none (c.args.late % c.args.self.now.longest) no)
