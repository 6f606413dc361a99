use Rattle.std.proofs.Common.{◌<◌, ◌≤◌, ◌∙◌, ap, sym, set, length, arith}
use Rattle.std.specs.Prelude.{◌==◌, if◌then◌else◌}
use Rattle.std.specs.Option.{option_map_or}
use Rattle.std.proofs.lemmas.Bool.{eq-eqb, ne_eqb}
use Rattle.dk_trace.specs.declared.ThreadId.{ThreadId}
use Rattle.show_ledger.specs.declared.told.Told.{Told}
use Rattle.show_ledger.specs.Told.{changed, told_line}
use Rattle.show_ledger.proofs.Placing.{changed-is, changed-past, up-to-at}
use Rattle.show_ledger.proofs.mains.take_line.Goals as goal
use Rattle.show_ledger.proofs.mains.take_line.Goals.{else-thread-eq0-via-then-thread-eq0+else-place-len, else-thread-eq0-via-else-thread-eq0}

pub told_line-requires-clause-early : goal.told_line-requires-clause-early
told_line-requires-clause-early c =
    let ts = c.args.mains.now.items in
    let i = c.in-Some.thread.process in
    let there : i < length ts = omega (arith, c.if-place-len.true, c.len.ensures) in
    let at = up-to-at c.args.line.start ts i c.index.result.now c.requires.early there in
    let same = ap (λ (t : Told). t.tick) c.index.ensures in
    omega (arith, at, same)

pub returns-then-place-len : goal.returns-then-place-len
returns-then-place-len c =
    let ts = c.args.mains.now.items in
    let f = told_line c.args.line in
    let x = c.in-Some.thread in
    let there : x.process < length ts = omega (arith, c.if-place-len.true, c.len.ensures) in
    ap (set ts x.process) (c.told_line.ensures ∙ ap f c.index.ensures)
    ∙ changed-is f ts x.process c.index.result.now there
    ∙ ap (λ b. if b then changed f x.process ts else ts) (sym (eq-eqb x.serial 0 c.if-thread-eq0.true))
    ∙ ap (λ o. option_map_or (λ (y : ThreadId). if y.serial == 0 then changed f y.process ts else ts) o ts) (sym c.in-Some.is ∙ c.thread.ensures)

pub returns-else-thread-eq0 : goal.returns-else-thread-eq0
returns-else-thread-eq0 c =
    let ts = c.args.mains.now.items in
    let f = told_line c.args.line in
    let x = c.in-Some.thread in
    let by_thread = ap (λ o. option_map_or (λ (y : ThreadId). if y.serial == 0 then changed f y.process ts else ts) o ts) (sym c.in-Some.is ∙ c.thread.ensures) in
    elim c.else-thread-eq0.branch [
      | else-thread-eq0-via-then-thread-eq0+else-place-len w ↦
          let past : length ts ≤ x.process = omega (arith, w.if-place-len.false, w.len.ensures) in
          changed-past f ts x.process past ∙ ap (λ b. if b then changed f x.process ts else ts) (sym (eq-eqb x.serial 0 w.if-thread-eq0.true)) ∙ by_thread
      | else-thread-eq0-via-else-thread-eq0 w ↦ ap (λ b. if b then changed f x.process ts else ts) (sym (ne_eqb x.serial 0 w.if-thread-eq0.false)) ∙ by_thread
    ]
