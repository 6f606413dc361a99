use Rattle.dk_threads.proofs.Finding.{rows-there, rows-found, rows-child}
use Rattle.dk_threads.proofs.laws.rows_are_the_pasts.Goals as goal

pub returns : goal.returns
returns c = record { there = rows-there; found = rows-found; child = rows-child }
