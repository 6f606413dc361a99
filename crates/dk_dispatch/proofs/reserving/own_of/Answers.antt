use Rattle.dk_dispatch.proofs.Names.{◌≡◌, ◌<◌, ◌≤◌, ◌∙◌, ℕ, List, length, get_or, rules, ap, arith, sym, subst, Bool, true, false, sum_by, slice_get, ◌==◌, if◌then◌else◌, option_map_or, slice_get-get_or, sum_by-le, LevelRow, Configuration, budgets_at, IsWithinLimits, release}
use Rattle.dk_dispatch.proofs.reserving.own_of.Goals as goal

budget_or_none : (b : Bool) (n m : ℕ) → n ≤ m → (if b then n else 0) ≤ m
budget_or_none true n m h = h
budget_or_none false n m h = omega arith

of_row : {A : Type 0} (f : A → ℕ) (xs : List A) (i : ℕ) (d : A) → i < length xs → option_map_or f (slice_get xs i) 0 ≡ f (get_or xs i d)
of_row f xs i d h = ap (λ o. option_map_or f o 0) (slice_get-get_or xs i d h)

budgets_bounded : (c : Configuration) (level : ℕ) → IsWithinLimits c → budgets_at c level ≤ 32000000
budgets_bounded c level limits =
    let each = sum_by-le (λ row. if row.level == level then row.budget else 0) 1000000 c.processes
    (λ k d h. budget_or_none ((get_or c.processes k d).level == level) (get_or c.processes k d).budget 1000000
    (let is = of_row (λ row. row.budget) c.processes k d h in let within = limits.budgets k in omega (arith, is, within))) in
    let few = limits.few_processes in
    omega (arith, each, few)

pub budgets_of-requires : goal.budgets_of-requires
budgets_of-requires c =
    let bounded = budgets_bounded c.args.config.now c.args.level c.requires.limits in
    let same : c.as_slice.result.now ≡ c.args.config.now.processes = search rules in
    subst (λ rows. sum_by (λ row. if row.level == c.args.level then row.budget else 0) rows ≤ 32000000) (sym same) bounded

release-is : (c : Configuration) (levels : List LevelRow) (i : ℕ) (row : LevelRow) → levels ≡ c.levels → i < length c.levels → row ≡ get_or levels i row → row.release ≡ release c i
release-is c levels i row same known at =
    ap (λ (r : LevelRow). r.release) (at ∙ ap (λ ls. get_or ls i row) same) ∙ sym (of_row (λ (r : LevelRow). r.release) c.levels i row known)

pub overflow_add-result : goal.overflow_add-result
overflow_add-result c =
    let levels = ap (λ (k : Configuration). k.levels) c.config.view_is in
    let release = release-is c.args.config.now c.config.inside.levels.items c.args.level c.index-row.result.now levels c.requires.known c.index-row.ensures in
    let few = c.requires.limits.releases c.args.level in
    let same : c.as_slice.result.now ≡ c.args.config.now.processes = search rules in
    let sum : c.budgets_of.result ≡ budgets_at c.args.config.now c.args.level =
    c.budgets_of.ensures ∙ ap (sum_by (λ row. if row.level == c.args.level then row.budget else 0)) same in
    let bounded = budgets_bounded c.args.config.now c.args.level c.requires.limits in
    omega (arith, release, few, sum, bounded)

pub returns : goal.returns
returns c =
    let levels = ap (λ (k : Configuration). k.levels) c.config.view_is in
    let release = release-is c.args.config.now c.config.inside.levels.items c.args.level c.index-row.result.now levels c.requires.known c.index-row.ensures in
    let same : c.as_slice.result.now ≡ c.args.config.now.processes = search rules in
    let sum : c.budgets_of.result ≡ budgets_at c.args.config.now c.args.level =
    c.budgets_of.ensures ∙ ap (sum_by (λ row. if row.level == c.args.level then row.budget else 0)) same in
    omega (arith, release, sum)
