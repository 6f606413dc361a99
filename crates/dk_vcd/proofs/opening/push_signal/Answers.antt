use Rattle.std.proofs.Common.{◌∙◌, ◌++◌, ap, codes}
use Rattle.std.specs.Prelude.{decimal}
use Rattle.dk_groups.proofs.Texts.{extend}
use Rattle.dk_vcd.proofs.opening.push_signal.Goals as goal

pub returns-clause-bytes : goal.returns-clause-bytes
returns-clause-bytes c =
    let old = c.args.text.now in
    let a = c.args.before.now in
    let p = decimal c.args.process in
    let b = codes " " in
    let name = c.args.line.now.name in
    let d = c.args.behind.now in
    let two = extend old c.word.new.self c.number.new.self a p c.word.ensures.bytes c.number.ensures.bytes in
    let three = extend old c.number.new.self c.word-2.new.self (a ++ p) b two c.word-2.ensures.bytes in
    let four = extend old c.word-2.new.self c.word-3.new.self ((a ++ p) ++ b) name three (c.word-3.ensures.bytes ∙ ap (λ n. c.word-2.new.self ++ n) c.as_str.ensures) in
    extend old c.word-3.new.self c.word-4.new.self (((a ++ p) ++ b) ++ name) d four c.word-4.ensures.bytes
