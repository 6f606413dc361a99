use Rattle.dk_inspect.proofs.Names.{◌≡◌, ◌∙◌, true, arith, rules, is_some, IsThereIn}
use Rattle.std.proofs.Common.{false}
use Rattle.dk_inspect.proofs.Lines.{text-told, lines-of-header}
use Rattle.dk_inspect.proofs.threads.text_at.Goals as goal

pub returns-in_err-context-clause-text : goal.returns-in_err-context-clause-text
returns-in_err-context-clause-text c =
    let there : IsThereIn c.args.kernel.now c.args.process c.in_ok-row.row.id = c.in_ok-row.ensures.there in
    let some : is_some c.context.result ≡ true = c.context.ensures.there ∙ there.there in
    let none : is_some c.context.result ≡ false = search rules in
    absurd (cc)

pub thread_text-requires-clause-named : goal.thread_text-requires-clause-named
thread_text-requires-clause-named c =
    let there : IsThereIn c.args.kernel.now c.args.process c.in_ok-row.row.id = c.in_ok-row.ensures.there in
    let own = there.process in
    let many = lines-of-header c.args.kernel.now.config c.args.header.now c.requires.header in
    let known = c.requires.known in
    omega arith

pub returns-clause-text : goal.returns-clause-text
returns-clause-text c =
    text-told c.args.kernel.now c.args.process c.args.place c.args.header.now c.in_ok-row.row c.in_ok-context.context c.thread_text.result c.requires.header
    c.in_ok-row.ensures.row c.in_ok-context.ensures.context c.thread_text.ensures.text
