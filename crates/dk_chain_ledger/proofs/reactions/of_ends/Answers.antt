use Rattle.std.proofs.Common.{arith}
use Rattle.dk_chain_ledger.specs.Reactions.{reaction_by}
use Rattle.dk_chain_ledger.specs.Tables.{told}
use Rattle.dk_chain_ledger.proofs.Events.{all-below, reaction_below, tells-same, tells_with}
use Rattle.dk_chain_ledger.proofs.reactions.of_ends.Goals as goal

pub loop-window-preserved : goal.loop-window-preserved
loop-window-preserved c =
    tells_with c.args.ends.now c.args.ticks c.loop-window.window c.end_at-end.result c.loop-window.seen c.with_window-next.result c.requires.some
    c.end_at-end.ensures c.with_window-next.ensures c.loop-window.invariant

pub returns : goal.returns
returns c =
    tells-same (reaction_below (told c.args.ends.now) c.args.ticks c.loop-window.window) (reaction_by (told c.args.ends.now) c.args.ticks) c.loop-window.seen
    (λ t. all-below c.args.ends.now c.args.ticks c.loop-window.window t (omega arith)) c.loop-window.invariant
