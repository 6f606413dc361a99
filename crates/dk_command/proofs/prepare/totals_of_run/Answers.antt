use Rattle.dk_command.proofs.Names.{◌≡◌, ◌∙◌, ◌+◌, arith, refl, reverse, subst, sym, OnOk, size_of, Running, trace_of}
use Rattle.dk_command.proofs.RunEntries.{went_on}
use Rattle.dk_command.proofs.RunLemmas.{counts_none}
use Rattle.dk_command.proofs.prepare.totals_of_run.Goals as goal

pub run-requires-clause-begun : goal.run-requires-clause-begun
run-requires-clause-begun g c = (
  size_of c.args.kernel.now.config,
  refl,
  counts_none c.args.kernel.now c.args.header.now c.in_ok-totals.totals c.requires.start c.requires.header
      c.in_ok-totals.ensures.levels c.in_ok-totals.ensures.processes c.in_ok-totals.ensures.none,
)

pub returns-clause-counted : goal.returns-clause-counted
returns-clause-counted g c =
    let old : Running = c.args.kernel.now in
    let new : Running = c.run.new.self in
    let has = c.run.ensures.taken (size_of old.config) (counts_none old c.args.header.now c.in_ok-totals.totals c.requires.start c.requires.header
    c.in_ok-totals.ensures.levels c.in_ok-totals.ensures.processes c.in_ok-totals.ensures.none) in
    let all = subst (λ r. OnOk r (new.ticks ≡ old.ticks + c.args.ticks)) has.ok c.run.ensures.all in
    (reverse (trace_of new), went_on new old c.args.ticks c.run.ensures.next (omega (arith, all, c.requires.start)), has.stands)

pub returns-clause-levels : goal.returns-clause-levels
returns-clause-levels g c =
    let old : Running = c.args.kernel.now in
    let has = c.run.ensures.taken (size_of old.config) (counts_none old c.args.header.now c.in_ok-totals.totals c.requires.start c.requires.header
    c.in_ok-totals.ensures.levels c.in_ok-totals.ensures.processes c.in_ok-totals.ensures.none) in
    c.requires.header.levels ∙ sym has.levels

pub returns-clause-processes : goal.returns-clause-processes
returns-clause-processes g c =
    let old : Running = c.args.kernel.now in
    let none = counts_none old c.args.header.now c.in_ok-totals.totals c.requires.start c.requires.header
    c.in_ok-totals.ensures.levels c.in_ok-totals.ensures.processes c.in_ok-totals.ensures.none in
    let has = c.run.ensures.taken (size_of old.config) none in
    c.in_ok-totals.ensures.processes ∙ none.processes ∙ sym has.processes
