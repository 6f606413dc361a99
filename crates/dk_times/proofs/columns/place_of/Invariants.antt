use Rattle.std.specs.Str.{bytes_eq}
use Rattle.csv.specs.Records.{fields_of}
use Rattle.dk_times.proofs.Places.{Tells}
use Rattle.dk_times.proofs.columns.place_of.Given as goal

abbrev pub invariant-loop-place : goal.invariant-loop-place
invariant-loop-place l = Tells (λ field. bytes_eq field l.name) (fields_of l.row) l.place
