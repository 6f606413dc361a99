use Rattle.dk_cycle_start.proofs.Names.{ℕ, ◌≡◌, ◌+◌, ◌∙◌, List, [], length, None, false, rules, sym, ap, subst, is_some, slice_index_or, list_any, threads, is_there, world, trace, IsReader}
use Rattle.dk_cycle_start.proofs.Readers.{behind, no-caller, no-context, not-behind}
use Rattle.dk_cycle_start.proofs.reading.reader_of.Goals as goal

pub returns-in_err-thread : goal.returns-in_err-thread
returns-in_err-thread c = λ n ticks adds.
    let k = c.args.kernel.now in
    let e = c.args.entry.now in
    let none : c.from_residual.result ≡ None = search rules in
    subst (IsReader k.config k.programs n e) (sym none)
    (no-caller k.config k.programs n e (c.reads_law.ensures k.config k.programs n e c.dispatcher.ensures.ruled.checked c.dispatcher.ensures.ruled.accepted adds) (sym c.in_err-thread.ensures))

pub returns-in_err-context : goal.returns-in_err-context
returns-in_err-context c = λ n ticks adds.
    let k = c.args.kernel.now in
    let e = c.args.entry.now in
    let x = c.in_ok-thread.thread in
    let there : is_some c.context.result ≡ list_any (is_there k.config (length (trace k.config k.programs (n + 1))) x) (threads k.config (trace k.config k.programs (n + 1))) =
    subst (λ t. is_some c.context.result ≡ list_any (is_there k.config (length (trace k.config k.programs t)) x) (threads k.config (trace k.config k.programs t))) ticks c.context.ensures.there in
    let none : is_some c.context.result ≡ false = search rules in
    absurd (no-context k.config k.programs n e (c.reads_law.ensures k.config k.programs n e c.dispatcher.ensures.ruled.checked c.dispatcher.ensures.ruled.accepted adds) x (is_some c.context.result) (sym c.in_ok-thread.ensures) there none)

pub returns-then-is_behind_read : goal.returns-then-is_behind_read
returns-then-is_behind_read c = λ n ticks adds.
    let k = c.args.kernel.now in
    let e = c.args.entry.now in
    let x = c.in_ok-thread.thread in
    let z = c.in_ok-context.context in
    let context : z ≡ ((world k.config k.programs (n + 1)).images x.process).contexts x.serial =
    subst (λ t. z ≡ ((world k.config k.programs t).images x.process).contexts x.serial) ticks c.in_ok-context.ensures.context in
    behind k.config k.programs n e (c.reads_law.ensures k.config k.programs n e c.dispatcher.ensures.ruled.checked c.dispatcher.ensures.ruled.accepted adds) x
    c.bytes_of-program.result.now z (sym c.in_ok-thread.ensures)
    (c.bytes_of-program.ensures ∙ ap (λ (ps : List (List ℕ)). slice_index_or ps x.process []) c.requires) context (c.is_behind_read.ensures.yes c.if-is_behind_read.true)

pub returns-else-is_behind_read : goal.returns-else-is_behind_read
returns-else-is_behind_read c = λ n ticks adds.
    let k = c.args.kernel.now in
    let e = c.args.entry.now in
    let x = c.in_ok-thread.thread in
    let z = c.in_ok-context.context in
    let context : z ≡ ((world k.config k.programs (n + 1)).images x.process).contexts x.serial =
    subst (λ t. z ≡ ((world k.config k.programs t).images x.process).contexts x.serial) ticks c.in_ok-context.ensures.context in
    not-behind k.config k.programs n e (c.reads_law.ensures k.config k.programs n e c.dispatcher.ensures.ruled.checked c.dispatcher.ensures.ruled.accepted adds) x
    c.bytes_of-program.result.now z (sym c.in_ok-thread.ensures)
    (c.bytes_of-program.ensures ∙ ap (λ (ps : List (List ℕ)). slice_index_or ps x.process []) c.requires) context (c.is_behind_read.ensures.no c.if-is_behind_read.false)
