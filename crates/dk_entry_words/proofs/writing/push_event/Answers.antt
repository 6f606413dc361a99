use Rattle.std.proofs.Common.{◌∙◌, ◌++◌, ap, append_assoc}
use Rattle.dk_trace.specs.Says.{arguments_of, word_of}
use Rattle.dk_ledger.specs.LineText.{argument_words}
use Rattle.dk_entry_words.specs.Parted.{behind, byte_of}
use Rattle.dk_entry_words.proofs.writing.push_event.Goals as goal

pub returns-clause-bytes : goal.returns-clause-bytes
returns-clause-bytes c =
    let old = c.args.text.now.bytes in
    let sep = byte_of c.args.separator in
    let more = behind sep (argument_words (arguments_of c.args.event)) in
    let word = c.push_str.ensures.bytes ∙ ap (λ w. old ++ w) c.word.ensures.word in
    c.push_arguments.ensures.bytes ∙ ap (λ a. c.push_str.new.self.bytes ++ behind sep (argument_words a)) c.arguments.ensures
    ∙ ap (λ t. t ++ more) word ∙ append_assoc old (word_of c.args.event) more
