use Rattle.dk_asm.proofs.Imports.{arith, seen_lines, lines_of}
use Rattle.dk_asm.proofs.Programs.{all_fit, gives_program, gives_fault}
use Rattle.dk_asm.proofs.assembling.labelled_outcome.Goals as goal

pub returns-in-Some-clause-outcome : goal.returns-in-Some-clause-outcome
returns-in-Some-clause-outcome c = λ text read. gives_fault text (seen_lines c.args.lines.now) c.in-Some.fault.0 c.in-Some.fault.1 read c.in-Some.ensures.first

pub returns-in-Some-clause-within : goal.returns-in-Some-clause-within
returns-in-Some-clause-within c = omega (arith, c.requires.few, c.in-Some.ensures.within)

pub code_of-requires : goal.code_of-requires
code_of-requires c = all_fit c.args.labels.now.places (seen_lines c.args.lines.now) (lines_of c.requires.read.0) c.requires.places c.requires.read.1 c.in-None.ensures.first

pub returns-in_ok-code_of-in-None-clause-outcome : goal.returns-in_ok-code_of-in-None-clause-outcome
returns-in_ok-code_of-in-None-clause-outcome c = λ text read.
    gives_program text c.args.labels.now.places (seen_lines c.args.lines.now) c.in_ok-code_of-in-None.field-0.items read c.requires.places c.in-None.ensures.first
    c.in_ok-code_of-in-None.ensures
