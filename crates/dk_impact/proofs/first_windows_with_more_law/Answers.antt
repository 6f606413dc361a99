use Rattle.dk_impact.proofs.Names.{◌≡◌, ◌*◌, ◌+◌, ◌/◌, ◌%◌, ◌∙◌, true, ap, arith, map, refl, sym, subst, div-add-mod, mul-mod_left, period, main_level, own_window, renamed, has_enough}
use Rattle.dk_impact.proofs.first_windows_with_more_law.Goals as goal

pub returns : goal.returns
returns c one other programs others p p' s k holds checked accepted checked' accepted' keeps keeps' agree given again enough first tick begins =
    let P = period one (main_level one p) in
    let P' = period other (main_level other p') in
    let n = tick / P' in
    let parts : P' * n + tick % P' ≡ tick = div-add-mod tick P' in
    let turned : P' * n ≡ n * P' = grind arith in
    let is : n * P' ≡ tick = omega (arith, parts, turned, begins) in
    let same = c.windows_with_more_law.ensures one other programs others p p' n checked accepted checked' accepted' keeps keeps' agree given
    (λ j less. c.first_windows_law.ensures one programs programs p s k (has_enough p) checked accepted keeps refl again enough (j * P) (mul-mod_left j P)) in
    let told = c.first_windows_law.ensures one programs programs p s k (λ es. holds (map (renamed p') es)) checked accepted keeps refl again first (n * P) (mul-mod_left n P) in
    subst (λ t. holds (own_window other others p' t) ≡ true) is (ap holds (sym same) ∙ told)
