use Rattle.std.proofs.Common.{◌≤◌, sym, arith}
use Rattle.dk_isa.proofs.RoundTrip.{no-row}
use Rattle.dk_isa.proofs.decode_row.Goals as goal

pub returns-in_default : goal.returns-in_default
returns-in_default c =
    let past : 23 ≤ c.args.code = omega arith in
    sym (no-row c.args.code c.args.x c.args.y c.args.z past)
