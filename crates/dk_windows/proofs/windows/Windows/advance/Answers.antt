use Rattle.std.proofs.Common.{◌≡◌, ◌+◌, ◌∙◌, ℕ, List, map, ap, sym, subst, arith}
use Rattle.std.specs.Prelude.{All, false, ◌<◌}
use Rattle.dk_windows.specs.Clock.{Clock}
use Rattle.dk_windows.specs.Rows.{AreNested, AreWindowsAt, first_ends_at, moved, periods_in}
use Rattle.dk_windows.proofs.Moving.{ends_fit, rows-moved, AreNested-moved, AreWindowsAt-moved, moved-kept, periods_in-moved}
use Rattle.dk_windows.proofs.windows.Windows.advance.Goals as goal

pub move_on-requires-clause-short : goal.move_on-requires-clause-short
move_on-requires-clause-short c =
    subst (λ ws. All (λ w. w.start + w.period < 4294967296) ws) (sym c.as_mut_slice.ensures.value)
    (ends_fit c.self.inside.tick c.self.inside.rows.items c.self.invariant.2 c.self.invariant.0)

pub move_on-requires-clause-still : goal.move_on-requires-clause-still
move_on-requires-clause-still c =
    let next = c.self.inside.tick + 1 in
    subst (λ ws. first_ends_at next ws ≡ false → map (moved next) ws ≡ ws) (sym c.as_mut_slice.ensures.value)
    (moved-kept c.self.inside.tick c.self.inside.rows.items c.self.invariant.0 c.self.invariant.1)

pub invariant_of-self : goal.invariant_of-self
invariant_of-self c =
    let next = c.self.inside.tick + 1 in
    let old = c.self.inside.rows.items in
    let same = rows-moved next old c.move_on.new.windows (c.move_on.ensures ∙ ap (map (moved next)) c.as_mut_slice.ensures.value) in
    let now : c.self.inside.tick ≡ c.args.self.now.tick = ap (λ (w : Clock). w.tick) c.self.view_is in (
      subst (AreWindowsAt next) (sym same) (AreWindowsAt-moved c.self.inside.tick old c.self.invariant.0),
      subst AreNested (sym same) (AreNested-moved next old c.self.invariant.1),
      omega arith,
    )

pub returns : goal.returns
returns c =
    let next = c.self.inside.tick + 1 in
    let old = c.self.inside.rows.items in
    let same = rows-moved next old c.move_on.new.windows (c.move_on.ensures ∙ ap (map (moved next)) c.as_mut_slice.ensures.value) in
    let clock : List ℕ → Clock = λ ps. record { tick = next; periods = ps } in
    ap clock (ap periods_in same ∙ periods_in-moved next old)
    ∙ ap (λ (w : Clock). record { tick = w.tick + 1; periods = w.periods }) c.self.view_is
