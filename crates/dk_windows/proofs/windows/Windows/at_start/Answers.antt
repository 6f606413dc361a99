use Rattle.std.proofs.Common.{◌≡◌, ◌<◌, ◌≤◌, ◌∙◌, ◌++◌, ◌∷◌, [], List, ℕ, length, get_or, map, take, ap, sym, subst, arith}
use Rattle.std.specs.Prelude.{slice_get}
use Rattle.std.specs.Option.{option_map_or}
use Rattle.std.proofs.lemmas.Option.{slice_get-get_or}
use Rattle.std.proofs.lemmas.List.{length-map, length-take-le, map_more}
use Rattle.dk_config.specs.declared.TheConstants.{MAX_LEVELS}
use Rattle.dk_config.specs.declared.rows.LevelRow.{LevelRow}
use Rattle.dk_config.specs.Configuration.{Configuration}
use Rattle.dk_config.specs.Windows.{period}
use Rattle.dk_windows.specs.declared.row.Window.{Window}
use Rattle.dk_windows.specs.Clock.{Clock}
use Rattle.dk_windows.specs.Rows.{AreNested, AreWindowsAt, periods_in}
use Rattle.dk_windows.proofs.Moving.{first_window, all-first, AreNested-first, AreWindowsAt-first, periods_in-first}
use Rattle.dk_windows.proofs.windows.Windows.at_start.Goals as goal

-- the period of a level that was read
read : (c : Configuration) (levels : List LevelRow) (i : ℕ) (d : LevelRow) → levels ≡ c.levels → i < length levels → (get_or levels i d).period ≡ period c i
read c levels i d same below =
    sym (subst (λ (rows : List LevelRow). option_map_or (λ (row : LevelRow). row.period) (slice_get rows i) 0 ≡ (get_or levels i d).period) same
    (ap (λ o. option_map_or (λ (row : LevelRow). row.period) o 0) (slice_get-get_or levels i d below)))

pub of-requires : goal.of-requires
of-requires c =
    let config = c.args.config.now in
    let levels = c.deref-level-items.result.now in
    let i = c.loop-level.level-index in
    let same : levels ≡ config.levels = c.deref-level-items.ensures.value ∙ ap (λ (k : Configuration). k.levels) c.config.view_is in
    let at = read config levels i (record { period = 0; release = 0 }) same c.loop-level-test.true in
    let inside : i < length config.levels = subst (λ (rows : List LevelRow). i < length rows) same c.loop-level-test.true in
    record {
      some = omega (arith, at, c.requires.checked.positive i inside);
      short = omega (arith, at, c.requires.limits.periods i);
    }

pub push-requires : goal.push-requires
push-requires c =
    let levels = c.deref-level-items.result.now in
    let built : length c.loop-level.rows.items ≡ c.loop-level.level-index =
    ap length c.loop-level.invariant
    ∙ length-map (take c.loop-level.level-index levels) first_window
    ∙ length-take-le c.loop-level.level-index levels (omega arith) in
    let few : length c.args.config.now.levels ≤ MAX_LEVELS = c.requires.limits.few_levels in
    let same : length levels ≡ length c.args.config.now.levels =
    ap length c.deref-level-items.ensures.value ∙ ap (λ (k : Configuration). length k.levels) c.config.view_is in
    (omega arith, omega arith)

pub loop-level-preserved : goal.loop-level-preserved
loop-level-preserved c =
    let levels = c.deref-level-items.result.now in
    let i = c.loop-level.level-index in
    c.push.ensures.items
    ∙ ap (λ (ws : List Window). ws ++ (record { period = c.of.result; start = 0 }) ∷ []) c.loop-level.invariant
    ∙ ap (λ (n : ℕ). map first_window (take i levels) ++ (record { period = n; start = 0 }) ∷ []) c.of.ensures
    ∙ sym (map_more first_window levels i (record { period = 0; release = 0 }) c.loop-level-test.true)

made : (c : goal.After-loop-level) → c.loop-level.rows.items ≡ map first_window c.args.config.now.levels
made c =
    let levels = c.deref-level-items.result.now in
    let same : levels ≡ c.args.config.now.levels =
    c.deref-level-items.ensures.value ∙ ap (λ (k : Configuration). k.levels) c.config.view_is in
    all-first levels c.loop-level.rows.items c.loop-level.level-index c.loop-level.invariant c.loop-level-test.false
    ∙ ap (map first_window) same

pub invariant_of-result : goal.invariant_of-result
invariant_of-result c = (
  subst (AreWindowsAt 0) (sym (made c)) (AreWindowsAt-first c.args.config.now c.requires.checked c.requires.limits),
  subst AreNested (sym (made c)) (AreNested-first c.args.config.now c.requires.checked),
  omega arith,
)

pub returns : goal.returns
returns c =
    let clock : List ℕ → Clock = λ ps. record { tick = 0; periods = ps } in
    ap clock (ap periods_in (made c) ∙ periods_in-first c.args.config.now.levels)
