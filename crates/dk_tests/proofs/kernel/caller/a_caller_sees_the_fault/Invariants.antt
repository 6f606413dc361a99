use Rattle.dk_tests.proofs.kernel.caller.a_caller_sees_the_fault.Given as goal

abbrev pub ghosts-answer : goal.ghosts-answer
ghosts-answer g a = record { name = a.blank.name; parts = a.blank.parts }
