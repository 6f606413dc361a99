use Rattle.std.proofs.Common.{◌≡◌, ◌+◌, ◌<◌, ◌∙◌, ◌≤◌, List, [], ◌∷◌, ap, sym, subst, arith, get_or, length}
use Rattle.std.specs.Prelude.{slice_get, Some}
use Rattle.dk_windows.specs.declared.row.Window.{Window}
use Rattle.dk_windows.specs.Clock.{Clock, end_at, passed}
use Rattle.dk_windows.proofs.Moving.{clock_of, end-row, few-rows, rows-stay}
use Rattle.dk_windows.proofs.windows.Windows.pass.Goals as goal

pub invariant_of-self : goal.invariant_of-self
invariant_of-self c =
    let n = c.self.inside.tick in
    let ws = c.self.inside.rows.items in
    let below : 0 < length ws = few-rows ws 0 (subst (λ (w : Clock). 0 < length w.periods) (sym c.self.view_is) c.requires.known) in
    let within : n + c.args.count < end_at (clock_of n ws) 0 = subst (λ (w : Clock). w.tick + c.args.count < end_at w 0) (sym c.self.view_is) c.requires.within in
    let room : n + c.args.count ≤ 4000000000 = subst (λ (w : Clock). w.tick + c.args.count ≤ 4000000000) (sym c.self.view_is) c.requires.room in (
      rows-stay c.args.count n ws c.self.invariant.0 c.self.invariant.1 (λ w at.
          (let ends = end-row n ws 0 w c.self.invariant.0 below in
          let is : get_or ws 0 w ≡ w = first-row ws w at in
          let same : w.start + w.period ≡ end_at (clock_of n ws) 0 = ap (λ (z : Window). z.start + z.period) (sym is) ∙ ends in
          omega (arith, within, same))),
      c.self.invariant.1,
      room,
    )
  where
    first-row : (ws : List Window) (w : Window) → slice_get ws 0 ≡ Some w → get_or ws 0 w ≡ w
    first-row [] w at = cc
    first-row (x ∷ ws) w at = cc

pub returns : goal.returns
returns c = ap (passed c.args.count) c.self.view_is
