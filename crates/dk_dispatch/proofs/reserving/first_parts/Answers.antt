use Rattle.dk_dispatch.proofs.Names.{◌++◌, ◌∷◌, ◌∙◌, [], map, take, ap, sym, map_more, take_all, LevelRow, Configuration, new_job}
use Rattle.dk_dispatch.proofs.reserving.first_parts.Goals as goal

pub loop-level-init : goal.loop-level-init
loop-level-init c = c.new-parts.ensures.items

pub loop-level-preserved : goal.loop-level-preserved
loop-level-preserved c =
    let levels = c.as_slice-level-items.result.now in
    let i = c.loop-level.level-index in
    c.in_ok-push.ensures.items
    ∙ ap (λ parts. parts ++ c.released.result ∷ []) c.loop-level.invariant
    ∙ ap (λ part. map (λ (row : LevelRow). new_job row.release) (take i levels) ++ part ∷ []) c.released.ensures
    ∙ sym (map_more (λ (row : LevelRow). new_job row.release) levels i (record { period = 0; release = 0 }) c.loop-level-test.true)

pub returns : goal.returns
returns c =
    let levels = c.as_slice-level-items.result.now in
    let all = take_all c.loop-level.level-index levels c.loop-level-test.false in
    c.loop-level.invariant
    ∙ ap (map (λ (row : LevelRow). new_job row.release)) (all ∙ c.as_slice-level-items.ensures.value)
    ∙ ap (λ (k : Configuration). map (λ (row : LevelRow). new_job row.release) k.levels) c.config.view_is
