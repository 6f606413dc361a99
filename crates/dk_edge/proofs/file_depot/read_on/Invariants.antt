use Rattle.std.proofs.Common.{◌≡◌, ◌≤◌, ◌-◌, vec_len}
use Rattle.std.specs.Io.KnownBytes.{Consumes}
use Rattle.dk_edge.proofs.file_depot.read_on.Given as goal

abbrev pub invariant-loop-buffer : goal.invariant-loop-buffer
invariant-loop-buffer g l = record {
  short : vec_len l.bytes ≤ l.most;
  read : Consumes (g.R.Opener.left l.fn.file) (g.R.Opener.left l.file) l.bytes.items;
  counted : g.R.Opener.failures l.opener ≡ g.R.Opener.failures l.fn.opener;
  strays : g.R.Opener.strays l.opener ≡ g.R.Opener.strays l.fn.opener;
  same : g.R.Opener.contents l.opener ≡ g.R.Opener.contents l.fn.opener;
}

abbrev pub decreases-loop-buffer : goal.decreases-loop-buffer
decreases-loop-buffer g l = l.most - vec_len l.bytes
