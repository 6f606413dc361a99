use Rattle.dk_dispatch.proofs.Names.{◌≡◌, ◌∙◌, true, sym, begins_at}
use Rattle.dk_dispatch.proofs.opening.begin_row.Goals as goal

pub begins-requires : goal.begins-requires
begins-requires g c =
    c.requires.known.level

pub share_of-share-requires-clause-levels : goal.share_of-share-requires-clause-levels
share_of-share-requires-clause-levels g c =
    c.requires.levels

pub share_of-share-requires-clause-known : goal.share_of-share-requires-clause-known
share_of-share-requires-clause-known g c =
    c.requires.known

pub release-requires-clause-node : goal.release-requires-clause-node
release-requires-clause-node g c =
    rw c.node_on-node.ensures c.requires.seat.node

pub release-requires-clause-level : goal.release-requires-clause-level
release-requires-clause-level g c =
    c.requires.seat.queue

pub release-requires-clause-free : goal.release-requires-clause-free
release-requires-clause-free g c =
    rw c.node_on-node.ensures (c.requires.seat.free (sym c.begins.ensures ∙ c.if-begins.true))

pub returns-then-begins-clause-slack : goal.returns-then-begins-clause-slack
returns-then-begins-clause-slack g c =
    let on : begins_at c.args.windows.now c.args.row.level ≡ true = sym c.begins.ensures ∙ c.if-begins.true in
    rw (on, sym c.node_on-node.ensures) c.drop_request.ensures.table
