use Rattle.dk_dispatch.proofs.Names.{◌≡◌, ◌+◌, ◌-◌, ◌∙◌, ◌++◌, ap, subst, arith, List, ThreadRow, few-children, AreKnown, is_between, rows_from, rows_in, shares_in, rows-next, known-split, shares-append}
use Rattle.dk_dispatch.proofs.opening.shares_by_level.Goals as goal

pub add_process-requires-clause-few : goal.add_process-requires-clause-few
add_process-requires-clause-few c = few-children c.args.threads.now c.loop-process.process c.rows_are_in_order.ensures

pub add_process-requires-clause-known : goal.add_process-requires-clause-known
add_process-requires-clause-known c =
    let t = c.args.threads.now in
    let p = c.loop-process.process in
    let here = rows-next t p c.args.processes c.loop-process-test.true in
    (known-split c.args.loans.now c.args.windows.now (rows_in t p) _ (subst (AreKnown c.args.loans.now c.args.windows.now) here c.loop-process.invariant.known)).0

pub add_process-requires-clause-room : goal.add_process-requires-clause-room
add_process-requires-clause-room c = λ k.
    let few = c.loop-process.invariant.few k in
    let test = c.loop-process-test.true in
    omega (arith, few, test)

pub loop-process-preserved : goal.loop-process-preserved
loop-process-preserved c =
    let t = c.args.threads.now in
    let p = c.loop-process.process in
    let b = c.args.loans.now in
    let w = c.args.windows.now in
    let was = c.loop-process.invariant in
    let rows : List ThreadRow = rows_in t p in
    let next : List ThreadRow = rows_from t (p + 1) (c.args.processes - (p + 1)) in
    let here : rows_from t p (c.args.processes - p) ≡ rows ++ next = rows-next t p c.args.processes c.loop-process-test.true in
    let added = c.add_process.ensures in
    record {
      known = (known-split b w rows next (subst (AreKnown b w) here was.known)).1;
      size = added.size ∙ was.size;
      sums = λ k within.
          let more = ap (shares_in b w (is_between k k)) here ∙ shares-append b w (is_between k k) rows next in
          let one = added.sums k within in
          let before = was.sums k within in
          omega (arith, more, one, before);
      few = λ k.
          let one = added.few k in
          let before = was.few k in
          omega (arith, one, before);
    }
