use Rattle.std.proofs.Common.{◌≡◌, refl, arith}
use Rattle.dk_slack.proofs.Wished.{dropped-none}
use Rattle.dk_slack.proofs.table.SlackTable.drop_request.Goals as goal

pub returns-else-want-gt0-clause-table : goal.returns-else-want-gt0-clause-table
returns-else-want-gt0-clause-table g c =
    let none : c.want.result ≡ 0 = omega (arith, c.if-want-gt0.false) in
    rw (dropped-none c.args.node c.args.self.now.wishes (c.want.ensures.none none)) refl
