use Rattle.dk_audit.proofs.Names.{◌∙◌, ◌+◌, ◌++◌, length-append, arith, subst, sym, entries_of, LedgerFault, ComesNext, length-entries, if_ok, passed_on, IsFoundSoFar}
use Rattle.dk_audit.proofs.ByLine.{found_further}
use Rattle.dk_audit.proofs.lines.judge_lines.Goals as goal

pub returns-in_err-next-clause-line : goal.returns-in_err-next-clause-line
returns-in_err-next-clause-line g c = λ n e.
    let es = c.loop-next.invariant.0 in
    let comes = subst (λ o. ComesNext c.args.bytes.now es o c.loop-next.reader) c.in-Some.is c.loop-next.invariant.2 in
    c.next.ensures.line n c.args.bytes.now (es ++ entries_of c.in-Some.line)
    (c.in_err-next.was ∙ passed_on c.from_residual.result c.in_err-next.field-0.0 (LedgerFault.Line n) c.from_residual.ensures.1 e) comes.read

pub loop-next-preserved : goal.loop-next-preserved
loop-next-preserved g c =
    let es = c.loop-next.invariant.0 in
    let line = c.in-Some.line in
    let all = es ++ entries_of line in
    let comes = subst (λ o. ComesNext c.args.bytes.now es o c.loop-next.reader) c.in-Some.is c.loop-next.invariant.2 in
    let before = c.loop-next.invariant.1 in
    let sum = length-append es (entries_of line) in
    let count = length-entries line comes.count in
    let some = comes.count in
    let ticks = comes.read.ticks in
    let was = c.in_ok-next.was in
    let heading = if_ok c.next.result c.in_ok-next.next _ was c.next.ensures.heading (omega (arith, some, ticks, sum, count)) in (
      all,
      omega (arith, before, sum, count),
      if_ok c.next.result c.in_ok-next.next _ was c.next.ensures.comes c.args.bytes.now all comes.read,
      subst (λ h. IsFoundSoFar c.args.config.now (record { heading = h; entries = all }) c.further-found.result c.further-found.new.tables) (sym heading)
          (found_further c.args.config.now c.loop-next.reader.kept.heading es line c.loop-next.tables c.further-found.new.tables c.loop-next.found c.further-found.result comes.start
          c.loop-next.invariant.3 c.further-found.ensures),
    )
