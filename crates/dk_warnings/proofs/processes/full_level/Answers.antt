use Rattle.dk_warnings.proofs.Names.{◌<◌, ◌∙◌, eqb, length, sym, rules, spare, full_level}
use Rattle.dk_warnings.proofs.Searching.{ends_here, ends_without, goes_on}
use Rattle.dk_warnings.proofs.processes.full_level.Goals as goal

pub returns-then-is_full : goal.returns-then-is_full
returns-then-is_full c =
    let inside : c.loop-level.level < length c.args.config.now.levels = search rules in
    ends_here (λ j. eqb (spare c.args.config.now j) 0) c.loop-level.level (length c.args.config.now.levels) (full_level c.args.config.now) inside
    (sym c.is_full.ensures ∙ c.if-is_full.true) c.loop-level.invariant

pub loop-level-preserved : goal.loop-level-preserved
loop-level-preserved c =
    let inside : c.loop-level.level < length c.args.config.now.levels = search rules in
    goes_on (λ j. eqb (spare c.args.config.now j) 0) c.loop-level.level (length c.args.config.now.levels) (full_level c.args.config.now) inside
    (sym c.is_full.ensures ∙ c.if-is_full.false) c.loop-level.invariant

pub returns : goal.returns
returns c =
    ends_without (λ j. eqb (spare c.args.config.now j) 0) c.loop-level.level (length c.args.config.now.levels) (full_level c.args.config.now) (search rules) c.loop-level.invariant
