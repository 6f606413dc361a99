use Rattle.dk_command.proofs.Names.{◌≡◌, ◌++◌, ◌∙◌, ap, sym, refl, append_assoc, append-nil, [], rules, IsErr, Ok}
use Rattle.dk_command.proofs.WritingLemmas.{goes_on, none_left, nothing, same_text, stopped}
use Rattle.dk_command.proofs.work.write_lines.Goals as goal

pub loop-rest-init : goal.loop-rest-init
loop-rest-init g c = ([], refl, nothing (g.S.Sink.seen c.args.sink.now))

pub returns-in_err-write_piece : goal.returns-in_err-write_piece
returns-in_err-write_piece g c =
    let (front, split, before) = c.loop-rest.invariant in
    let line = c.split_at.result.0.now in
    let behind = c.split_at.result.1.now in
    let parts : line ++ behind ≡ c.loop-rest.rest.now = search rules in
    let failed : IsErr c.write_piece.result = search rules in
    let both = goes_on (g.S.Sink.seen c.args.sink.now) (g.S.Sink.seen c.loop-rest.sink) (g.S.Sink.seen c.write_piece.new.sink) _ c.write_piece.result front line refl before c.write_piece.ensures in
    same_text _ _ _ ((front ++ line) ++ behind) c.args.bytes.now (append_assoc front line behind ∙ ap (λ r. front ++ r) parts ∙ split)
    (stopped _ _ c.write_piece.result c.from_residual.result (front ++ line) behind failed c.from_residual.ensures.0 both)

pub loop-rest-preserved : goal.loop-rest-preserved
loop-rest-preserved g c =
    let (front, split, before) = c.loop-rest.invariant in
    let line = c.split_at.result.0.now in
    let behind = c.split_at.result.1.now in
    let parts : line ++ behind ≡ c.loop-rest.rest.now = search rules in (
      front ++ line,
      append_assoc front line behind ∙ ap (λ r. front ++ r) parts ∙ split,
      goes_on (g.S.Sink.seen c.args.sink.now) (g.S.Sink.seen c.loop-rest.sink) (g.S.Sink.seen c.write_piece.new.sink) (Ok tt) (Ok tt) front line refl before c.in_ok-write_piece.ensures,
    )

pub returns : goal.returns
returns g c =
    let (front, split, before) = c.loop-rest.invariant in
    let none : c.loop-rest.rest.now ≡ [] = none_left c.loop-rest.rest.now (sym c.is_empty.ensures ∙ c.loop-rest-test.false) in
    same_text _ _ _ front c.args.bytes.now (sym (append-nil front) ∙ ap (λ r. front ++ r) (sym none) ∙ split) before
