use Rattle.dk_mutex.proofs.Names.{subst, ◌≡◌, ◌≤◌, ◌∙◌, ◌++◌, ◌∷◌, [], ap, sym, arith, false, length, map, list_any, range_with_len, length-map-range_with_len, map-range_with_len_more, MAX_MUTEXES, Configuration, Lockable, is_held, row_of, LeftsDiffer}
use Rattle.dk_mutex.proofs.Lefts.{LeftsDiffer-start}
use Rattle.dk_mutex.proofs.Outers.{no-outer}
use Rattle.dk_mutex.proofs.Unheld.{start-unheld, unheld-by}
use Rattle.dk_mutex.proofs.mutexes.Mutexes.at_start.Goals as goal

pub push-requires : goal.push-requires
push-requires c =
    let made : length c.loop-mutex.rows.items ≡ c.loop-mutex.mutex =
    ap length c.loop-mutex.invariant ∙ length-map-range_with_len (row_of c.args.config.now) 0 c.loop-mutex.mutex in
    let few : length c.args.config.now.mutexes ≤ MAX_MUTEXES = c.requires.limits.few_mutexes in
    let same : length c.config.inside.mutexes.items ≡ length c.args.config.now.mutexes =
    ap (λ (k : Configuration). length k.mutexes) c.config.view_is in
    (omega arith, omega arith)

pub loop-mutex-preserved : goal.loop-mutex-preserved
loop-mutex-preserved c =
    c.push.ensures.items
    ∙ ap (λ rows. rows ++ c.free_row.result ∷ []) c.loop-mutex.invariant
    ∙ ap (λ (row : Lockable). map (row_of c.args.config.now) (range_with_len 0 c.loop-mutex.mutex) ++ row ∷ []) c.free_row.ensures
    ∙ sym (map-range_with_len_more (row_of c.args.config.now) 0 c.loop-mutex.mutex c.loop-mutex.mutex (omega arith))

pub invariant_of-result : goal.invariant_of-result
invariant_of-result c =
    let range = range_with_len 0 c.loop-mutex.mutex in
    let is : c.of.result ≡ map (row_of c.args.config.now) range = c.of.ensures ∙ c.loop-mutex.invariant in
    let none : list_any is_held c.of.result ≡ false = ap (list_any is_held) is ∙ start-unheld c.args.config.now range in (
      subst LeftsDiffer (sym is) (LeftsDiffer-start c.args.config.now range),
      c.nobody.ensures c.of.result none,
      λ x off. unheld-by x c.of.result none,
      no-outer c.new.result.items c.new.ensures c.of.result,
    )
