use Rattle.dk_inspect.proofs.Names.{◌≡◌, ◌<◌, ◌++◌, ◌∷◌, [], ◌∙◌, ℕ, ap, refl, subst, arith, rules, flat_map, IsErr, below, Writes, level_line_of}
use Rattle.dk_inspect.proofs.Pieces.{none_written, next_written, next_failed, written_as}
use Rattle.dk_inspect.proofs.levels.write_levels.Goals as goal

pub loop-level-init : goal.loop-level-init
loop-level-init g c = none_written (level_line_of c.args.kernel.now) (g.S.Sink.seen c.args.sink.now)

pub returns-in_err-write_to : goal.returns-in_err-write_to
returns-in_err-write_to g c =
    let lines = level_line_of c.args.kernel.now in
    let end : ℕ = c.args.levels in
    let within : c.loop-level.level < end = omega (arith, c.loop-level-test.true) in
    let fails : IsErr c.from_residual.result = search rules in
    subst (λ t. Writes (g.S.Sink.seen c.args.sink.now) (g.S.Sink.seen c.write_to.new.sink) c.from_residual.result t) refl
    (next_failed lines (g.S.Sink.seen c.args.sink.now) (g.S.Sink.seen c.loop-level.sink) (g.S.Sink.seen c.write_to.new.sink) c.loop-level.level end _ c.from_residual.result
    (c.level_text.result ++ 10 ∷ []) c.level_text.ensures.text within fails c.loop-level.invariant c.in_err-write_to.ensures)

pub loop-level-preserved : goal.loop-level-preserved
loop-level-preserved g c =
    next_written (level_line_of c.args.kernel.now) (g.S.Sink.seen c.args.sink.now) (g.S.Sink.seen c.loop-level.sink) (g.S.Sink.seen c.write_to.new.sink) c.loop-level.level _
    (c.level_text.result ++ 10 ∷ []) c.level_text.ensures.text c.loop-level.invariant c.in_ok-write_to.ensures

pub returns : goal.returns
returns g c =
    let lines = level_line_of c.args.kernel.now in
    let end : ℕ = c.args.levels in
    let last : c.loop-level.level ≡ end = omega (arith, c.loop-level-test.false, c.loop-level.auto.level-end) in
    written_as (g.S.Sink.seen c.args.sink.now) (g.S.Sink.seen c.loop-level.sink) _ (flat_map lines (below c.loop-level.level)) _ (ap (λ m. flat_map lines (below m)) last ∙ refl)
    c.loop-level.invariant
