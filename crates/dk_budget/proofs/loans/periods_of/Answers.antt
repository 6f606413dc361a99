use Rattle.dk_budget.proofs.Names.{◌≡◌, ◌<◌, ◌≤◌, ◌∙◌, ◌++◌, ◌∷◌, [], ap, subst, sym, take, get_or, length, map, ℕ, List, arith, slice_get, option_map_or, slice_get-get_or, length-map, length-take-le, map-append, take_more, MAX_LEVELS, LevelRow, Configuration, period}
use Rattle.dk_budget.proofs.loans.periods_of.Goals as goal

-- the period of a level that was read
read : (c : Configuration) (levels : List LevelRow) (i : ℕ) (d : LevelRow) → levels ≡ c.levels → i < length levels → (get_or levels i d).period ≡ period c i
read c levels i d same below =
    sym (subst (λ (rows : List LevelRow). option_map_or (λ (row : LevelRow). row.period) (slice_get rows i) 0 ≡ (get_or levels i d).period) same
    (ap (λ o. option_map_or (λ (row : LevelRow). row.period) o 0) (slice_get-get_or levels i d below)))

pub of-requires : goal.of-requires
of-requires c =
    let config = c.args.config.now in
    let levels = c.deref-level-items.result.now in
    let i = c.loop-level.level-index in
    let same : levels ≡ config.levels = c.deref-level-items.ensures.value ∙ ap (λ (k : Configuration). k.levels) c.config.view_is in
    let at = read config levels i (record { period = 0; release = 0 }) same c.loop-level-test.true in
    let inside : i < length config.levels = subst (λ (rows : List LevelRow). i < length rows) same c.loop-level-test.true in
    record {
      some = omega (arith, at, c.requires.checked.positive i inside);
      short = omega (arith, at, c.requires.limits.periods i);
    }

pub push-requires : goal.push-requires
push-requires c =
    let levels = c.deref-level-items.result.now in
    let made : length c.loop-level.periods.items ≡ c.loop-level.level-index =
    ap length c.loop-level.invariant
    ∙ length-map (take c.loop-level.level-index levels) (λ (row : LevelRow). row.period)
    ∙ length-take-le c.loop-level.level-index levels (omega arith) in
    let few : length c.args.config.now.levels ≤ MAX_LEVELS = c.requires.limits.few_levels in
    let same : length levels ≡ length c.args.config.now.levels =
    ap length c.deref-level-items.ensures.value ∙ ap (λ (k : Configuration). length k.levels) c.config.view_is in
    (omega arith, omega arith)

pub loop-level-preserved : goal.loop-level-preserved
loop-level-preserved c =
    let levels = c.deref-level-items.result.now in
    let i = c.loop-level.level-index in
    c.push.ensures.items
    ∙ ap (λ (ps : List ℕ). ps ++ c.of.result ∷ []) c.loop-level.invariant
    ∙ ap (λ (n : ℕ). map (λ (row : LevelRow). row.period) (take i levels) ++ n ∷ []) c.of.ensures
    ∙ sym (ap (map (λ (row : LevelRow). row.period)) (take_more levels i (record { period = 0; release = 0 }) c.loop-level-test.true)
    ∙ map-append (λ (row : LevelRow). row.period) (take i levels) (get_or levels i (record { period = 0; release = 0 }) ∷ []))
