use Rattle.dk_demand.proofs.Names.{◌≡◌, ◌++◌, ◌∷◌, ◌∙◌, ◌<◌, ◌≤◌, ◌+◌, ℕ, List, [], length, map, take, refl, ap, sym, arith, length-map, length-take-le, map_more, take_all, MAX_LEVELS, Configuration, LevelRow, Clock, clock_at, cells_at_start, no_ticks, own_by, remaining_by}
use Rattle.dk_demand.proofs.Writing.{cells, cells-same}
use Rattle.dk_demand.proofs.Running.{own-start, remaining-start}
use Rattle.dk_demand.proofs.demand.Demand.at_start.Goals as goal

-- a list of as many zeros as there are levels so far gets one more
more : (cells next : List ℕ) (levels : List LevelRow) (i : ℕ) → i < length levels
    → next ≡ cells ++ 0 ∷ [] → cells ≡ map (λ row. 0) (take i levels) → next ≡ map (λ row. 0) (take (i + 1) levels)
more cells next levels i inside pushed before =
    pushed ∙ ap (λ ns. ns ++ 0 ∷ []) before
    ∙ sym (map_more (λ (row : LevelRow). 0) levels i (record { period = 0; release = 0 }) inside)

pub loop-level-preserved : goal.loop-level-preserved
loop-level-preserved c =
    let levels = c.deref-level-items.result.now in
    let was = c.loop-level.invariant in
    let inside = c.loop-level-test.true in
    record {
      gone = more c.loop-level.gone.items c.push.new.self.items levels c.loop-level._level-index inside c.push.ensures.items was.gone;
      own = more c.loop-level.own.items c.push-in-loop-level.new.self.items levels c.loop-level._level-index inside c.push-in-loop-level.ensures.items was.own;
      remaining = more c.loop-level.remaining.items c.push-in-loop-level-2.new.self.items levels c.loop-level._level-index inside c.push-in-loop-level-2.ensures.items was.remaining;
      blocking = more c.loop-level.blocking.items c.push-in-loop-level-3.new.self.items levels c.loop-level._level-index inside c.push-in-loop-level-3.ensures.items was.blocking;
    }

-- a list of as many items as there are levels so far has room for one more
room : (c : Configuration) (cells : List ℕ) (levels : List LevelRow) (i : ℕ) → levels ≡ c.levels → length c.levels ≤ MAX_LEVELS → i < length levels
    → cells ≡ map (λ row. 0) (take i levels) → length cells < MAX_LEVELS
room c cells levels i same few inside before =
    let made : length cells ≡ i =
    ap length before ∙ length-map (take i levels) (λ (row : LevelRow). 0) ∙ length-take-le i levels (omega arith) in
    omega (arith, made, few, ap length same)

pub push-requires : goal.push-requires
push-requires c =
    let levels = c.deref-level-items.result.now in
    let same = c.deref-level-items.ensures.value ∙ ap (λ (k : Configuration). k.levels) c.config.view_is in
    (omega arith, room c.args.config.now c.loop-level.gone.items levels c.loop-level._level-index same c.requires.limits.few_levels c.loop-level-test.true c.loop-level.invariant.gone)

pub push-requires-in-loop-level : goal.push-requires-in-loop-level
push-requires-in-loop-level c =
    let levels = c.deref-level-items.result.now in
    let same = c.deref-level-items.ensures.value ∙ ap (λ (k : Configuration). k.levels) c.config.view_is in
    (omega arith, room c.args.config.now c.loop-level.own.items levels c.loop-level._level-index same c.requires.limits.few_levels c.loop-level-test.true c.loop-level.invariant.own)

pub push-requires-in-loop-level-2 : goal.push-requires-in-loop-level-2
push-requires-in-loop-level-2 c =
    let levels = c.deref-level-items.result.now in
    let same = c.deref-level-items.ensures.value ∙ ap (λ (k : Configuration). k.levels) c.config.view_is in
    (omega arith, room c.args.config.now c.loop-level.remaining.items levels c.loop-level._level-index same c.requires.limits.few_levels c.loop-level-test.true c.loop-level.invariant.remaining)

pub push-requires-in-loop-level-3 : goal.push-requires-in-loop-level-3
push-requires-in-loop-level-3 c =
    let levels = c.deref-level-items.result.now in
    let same = c.deref-level-items.ensures.value ∙ ap (λ (k : Configuration). k.levels) c.config.view_is in
    (omega arith, room c.args.config.now c.loop-level.blocking.items levels c.loop-level._level-index same c.requires.limits.few_levels c.loop-level-test.true c.loop-level.invariant.blocking)

-- what is seen of marks and counters that are all 0
start-is : (c : Configuration) (gone own remaining blocking : List ℕ) (w : Clock) → gone ≡ no_ticks c → own ≡ no_ticks c
    → remaining ≡ no_ticks c → blocking ≡ no_ticks c → w ≡ clock_at c 0
    → cells (own_by gone own) (remaining_by gone remaining) blocking w ≡ cells_at_start c
start-is c gone own remaining blocking w g o r b now =
    rw (g, o, r, b, now) (cells-same _ _ _ _ _ _ _ (own-start c.levels) (remaining-start c.levels) refl)

pub invariant_of-result : goal.invariant_of-result
invariant_of-result c =
    let rows = c.deref-level-items.result.now in
    let config = c.args.config.now in
    let was = c.loop-level.invariant in
    let all : take c.loop-level._level-index rows ≡ config.levels =
    take_all c.loop-level._level-index rows c.loop-level-test.false
    ∙ c.deref-level-items.ensures.value ∙ ap (λ (k : Configuration). k.levels) c.config.view_is in
    let levels = ap (λ (w : Clock). length w.periods) c.at_start.ensures ∙ length-map config.levels (λ (row : LevelRow). row.period) in
    let each = λ (ns : List ℕ) (same : ns ≡ map (λ row. 0) (take c.loop-level._level-index rows)).
    ap length same ∙ length-map (take c.loop-level._level-index rows) (λ (row : LevelRow). 0) ∙ ap length all ∙ sym levels in
    (each _ was.gone, each _ was.own, each _ was.remaining, each _ was.blocking, λ tick now before. absurd (omega arith))

pub returns : goal.returns
returns c =
    let rows = c.deref-level-items.result.now in
    let was = c.loop-level.invariant in
    let all : take c.loop-level._level-index rows ≡ c.args.config.now.levels =
    take_all c.loop-level._level-index rows c.loop-level-test.false
    ∙ c.deref-level-items.ensures.value ∙ ap (λ (k : Configuration). k.levels) c.config.view_is in
    let none = λ (ns : List ℕ) (same : ns ≡ map (λ row. 0) (take c.loop-level._level-index rows)). same ∙ ap (λ (levels : List LevelRow). map (λ row. 0) levels) all in
    start-is c.args.config.now _ _ _ _ _ (none _ was.gone) (none _ was.own) (none _ was.remaining) (none _ was.blocking) c.at_start.ensures
