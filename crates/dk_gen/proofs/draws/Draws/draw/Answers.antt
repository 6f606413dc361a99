use Rattle.std.proofs.Common.{◌≡◌}
use Rattle.dk_gen.proofs.Stream.{state_first, draw_first}
use Rattle.dk_gen.proofs.draws.Draws.draw.Goals as goal

pub returns-clause-drawn : goal.returns-clause-drawn
returns-clause-drawn c =
    let same : c.self.inside.state ≡ c.args.self.now = cc in
    draw_first _ _ c.args.below (state_first _ _ same)

pub returns-clause-next : goal.returns-clause-next
returns-clause-next c =
    let same : c.self.inside.state ≡ c.args.self.now = cc in
    state_first _ _ same
