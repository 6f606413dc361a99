use Rattle.dk_slack.proofs.Names.{◌<◌, length, map, refl, ap, arith, length-map, wish_at, Slack}
use Rattle.dk_slack.proofs.Tables.{free, sound-put, table-put}
use Rattle.dk_slack.proofs.table.SlackTable.put.Goals as goal

pub push_back-requires-clause-free : goal.push_back-requires-clause-free
push_back-requires-clause-free g c = free _ _ _ _ _ _ c.self.invariant.0 c.self.view_is c.args.node c.requires.free

pub invariant_of-self : goal.invariant_of-self
invariant_of-self g c = (
  sound-put _ _ _ _ _ _ c.self.invariant.0 c.self.view_is c.args.node c.push_back.new.self _ _ c.push_back.ensures.nodes c.push_back.ensures.lists
      c.requires.node (omega (arith, c.requires.level)) c.requires.free c.requires.some,
  c.self.invariant.1,
  c.self.invariant.2,
)

pub returns-clause-table : goal.returns-clause-table
returns-clause-table g c =
    table-put _ _ _ _ _ _ c.self.invariant.0 c.self.view_is c.args.node c.push_back.new.self c.args.level _ c.push_back.ensures.nodes c.push_back.ensures.lists
    c.requires.node c.requires.level c.requires.free refl

pub push_back-requires-clause-level : goal.push_back-requires-clause-level
push_back-requires-clause-level g c =
    let lists = c.self.inside.rail.lists in
    omega (arith, c.requires.level, ap (λ (t : Slack). length t.wishes) c.self.view_is, length-map lists (map (wish_at c.self.inside.rows.items)))

pub push_back-requires-clause-node : goal.push_back-requires-clause-node
push_back-requires-clause-node g c = omega (arith, c.requires.node, ap (λ (t : Slack). t.nodes) c.self.view_is)

pub index_mut-requires : goal.index_mut-requires
index_mut-requires g c =
    let inside : c.args.node < length c.self.inside.rows.items =
    omega (arith, c.requires.node, c.self.invariant.0.nodes, ap (λ (t : Slack). t.nodes) c.self.view_is) in
    omega (arith, inside, c.self.inside.rows.ok)
