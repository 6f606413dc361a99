use Rattle.std.proofs.Common.{◌<◌, length, arith}
use Rattle.dk_slack.proofs.Tables.{queued, low, sound-removed, table-removed}
use Rattle.dk_slack.proofs.table.SlackTable.remove.Goals as goal

pub unlink-requires : goal.unlink-requires
unlink-requires g c = queued _ _ _ _ _ _ c.self.invariant.0 c.self.view_is c.args.node c.requires

pub index_mut-requires : goal.index_mut-requires
index_mut-requires g c =
    let inside : c.args.node < length c.self.inside.rows.items = low _ _ _ _ _ _ c.self.invariant.0 c.self.view_is c.args.node c.requires in
    omega (arith, inside, c.self.inside.rows.ok)

pub invariant_of-self : goal.invariant_of-self
invariant_of-self g c = (
  sound-removed _ _ _ _ _ _ c.self.invariant.0 c.self.view_is c.args.node c.unlink.new.self c.unlink.ensures.nodes c.unlink.ensures.lists c.requires,
  c.self.invariant.1,
  c.self.invariant.2,
)

pub returns-clause-table : goal.returns-clause-table
returns-clause-table g c = table-removed _ _ _ _ _ _ c.self.invariant.0 c.self.view_is c.args.node c.unlink.new.self c.unlink.ensures.nodes c.unlink.ensures.lists
