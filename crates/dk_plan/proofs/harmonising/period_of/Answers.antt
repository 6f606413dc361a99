use Rattle.dk_plan.proofs.Names.{suc, arith}
use Rattle.dk_plan.proofs.Doubles.{found, gets, doubled_more}
use Rattle.dk_plan.proofs.harmonising.period_of.Goals as goal

pub loop-got-preserved : goal.loop-got-preserved
loop-got-preserved c =
    let (k, is) = c.loop-got.invariant.doubled in
    let more = doubled_more c.args.base k in
    record { doubled = (suc k, omega (arith, is, more)); some = omega arith; fits = omega arith }

pub returns-clause-got : goal.returns-clause-got
returns-clause-got c =
    found c.args.base c.args.period c.loop-got.got c.requires.some c.loop-got.invariant.doubled c.loop-got.invariant.fits (omega arith)

pub returns-clause-gets : goal.returns-clause-gets
returns-clause-gets c =
    gets c.args.base c.args.period c.loop-got.got c.requires.some c.loop-got.invariant.doubled c.loop-got.invariant.fits (omega arith)
