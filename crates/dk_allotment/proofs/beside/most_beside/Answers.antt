use Rattle.std.proofs.Common.{rules, ◌≡◌, length}
use Rattle.dk_allotment.specs.Given.{given}
use Rattle.dk_allotment.proofs.Together.{beside-start, beside-next, none-beside, beside-all}
use Rattle.dk_allotment.proofs.beside.most_beside.Goals as goal

pub loop-level-init : goal.loop-level-init
loop-level-init c =
    beside-start c.args.config.now (given c.args.allotments.now) c.args.process c.level_of-own.result c.spare_of-most.result c.level_of-own.ensures.own c.spare_of-most.ensures.spare

pub loop-level-preserved : goal.loop-level-preserved
loop-level-preserved c =
    beside-next c.args.config.now (given c.args.allotments.now) c.args.process c.loop-level.level c.level_of-own.result c.in-Some.room c.loop-level.most
    c.most_within-most.result c.requires.process c.level_of-own.ensures.own c.loop-level.invariant c.in-Some.ensures c.most_within-most.ensures.within

pub returns-in-None : goal.returns-in-None
returns-in-None c =
    none-beside c.args.config.now (given c.args.allotments.now) c.args.process c.loop-level.level c.requires.process (search rules) c.in-None.ensures

pub returns : goal.returns
returns c =
    let all : c.loop-level.level ≡ length c.args.config.now.levels = search rules in
    beside-all c.args.config.now (given c.args.allotments.now) c.args.process c.loop-level.most c.loop-level.level c.requires.checked c.requires.process all c.loop-level.invariant
