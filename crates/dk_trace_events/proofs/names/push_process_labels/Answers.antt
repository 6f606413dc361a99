use Rattle.std.proofs.Common.{◌+◌, ◌++◌, codes}
use Rattle.std.specs.Prelude.{decimal}
use Rattle.dk_groups.proofs.Texts.{extend}
use Rattle.dk_trace_events.proofs.names.push_process_labels.Goals as goal

pub returns-clause-bytes : goal.returns-clause-bytes
returns-clause-bytes c =
    let old = c.args.text.now in
    let a = codes "{\"args\":{\"labels\":\"level " in
    let b = codes " budget " in
    let d = codes "\"},\"name\":\"process_labels\",\"ph\":\"M\",\"pid\":" in
    let level = decimal c.args.line.now.level in
    let budget = decimal c.args.line.now.budget in
    let pid = decimal (100 + c.args.process) in
    let two = extend old c.word.new.self c.number.new.self a level c.word.ensures.bytes c.number.ensures.bytes in
    let three = extend old c.number.new.self c.word-2.new.self (a ++ level) b two c.word-2.ensures.bytes in
    let four = extend old c.word-2.new.self c.number-2.new.self ((a ++ level) ++ b) budget three c.number-2.ensures.bytes in
    let five = extend old c.number-2.new.self c.word-3.new.self (((a ++ level) ++ b) ++ budget) d four c.word-3.ensures.bytes in
    let six = extend old c.word-3.new.self c.number-3.new.self ((((a ++ level) ++ b) ++ budget) ++ d) pid five c.number-3.ensures.bytes in
    extend old c.number-3.new.self c.word-4.new.self (((((a ++ level) ++ b) ++ budget) ++ d) ++ pid) (codes "},\n") six c.word-4.ensures.bytes
