use Rattle.std.proofs.Common.{◌∙◌, ◌+◌, ◌++◌, ap, codes}
use Rattle.std.specs.Prelude.{decimal}
use Rattle.dk_groups.proofs.Texts.{extend}
use Rattle.dk_trace_events.proofs.names.push_process_name.Goals as goal

pub returns-clause-bytes : goal.returns-clause-bytes
returns-clause-bytes c =
    let old = c.args.text.now in
    let a = codes "{\"args\":{\"name\":\"" in
    let b = codes "\"},\"name\":\"process_name\",\"ph\":\"M\",\"pid\":" in
    let name = c.args.line.now.name in
    let pid = decimal (100 + c.args.process) in
    let two = extend old c.word.new.self c.word-2.new.self a name c.word.ensures.bytes (c.word-2.ensures.bytes ∙ ap (λ n. c.word.new.self ++ n) c.as_str.ensures) in
    let three = extend old c.word-2.new.self c.word-3.new.self (a ++ name) b two c.word-3.ensures.bytes in
    let four = extend old c.word-3.new.self c.number.new.self ((a ++ name) ++ b) pid three c.number.ensures.bytes in
    extend old c.number.new.self c.word-4.new.self (((a ++ name) ++ b) ++ pid) (codes "},\n") four c.word-4.ensures.bytes
