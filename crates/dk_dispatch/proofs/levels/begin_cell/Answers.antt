use Rattle.dk_dispatch.proofs.Names.{ℕ, List, ◌≡◌, ◌+◌, ◌<◌, ◌∙◌, ap, sym, subst, refl, true, length, get_or, arith, Clock, begins_at, ArePeriods, Cells, by_level, at_level, set_to, kernel_work, shares_to_come}
use Rattle.dk_dispatch.proofs.levels.begin_cell.Goals as goal

pub begins-requires : goal.begins-requires
begins-requires g c =
    subst (λ (w : Clock). c.args.level < length w.periods) (sym c.windows.ensures) c.requires.known

pub kernel_work-work-requires-clause-known : goal.kernel_work-work-requires-clause-known
kernel_work-work-requires-clause-known g c =
    subst (λ (w : Clock). c.args.level < length w.periods) (sym c.windows-windows.ensures) c.requires.known

pub kernel_work-work-requires-clause-releases : goal.kernel_work-work-requires-clause-releases
kernel_work-work-requires-clause-releases g c =
    c.requires.releases ∙ sym (ap (λ (w : Clock). length w.periods) c.windows-windows.ensures)

pub kernel_work-work-requires-clause-periods : goal.kernel_work-work-requires-clause-periods
kernel_work-work-requires-clause-periods g c =
    subst (λ (w : Clock). ArePeriods w.periods) (sym c.windows-windows.ensures) c.requires.periods

pub shares_to_come-requires-clause-levels : goal.shares_to_come-requires-clause-levels
shares_to_come-requires-clause-levels g c =
    ap (λ (w : Clock). w.periods) c.windows-windows.ensures ∙ c.requires.levels

pub shares_to_come-requires-clause-lenders : goal.shares_to_come-requires-clause-lenders
shares_to_come-requires-clause-lenders g c =
    c.requires.lenders

pub shares_to_come-requires-clause-known : goal.shares_to_come-requires-clause-known
shares_to_come-requires-clause-known g c =
    subst (λ (w : Clock). c.args.level < length w.periods) (sym c.windows-windows.ensures) c.requires.known

pub blocking-blocking-requires : goal.blocking-blocking-requires
blocking-blocking-requires g c =
    c.requires.known

pub released-requires : goal.released-requires
released-requires g c =
    c.requires.known

set-cells : (d : Cells) (k own own' remaining remaining' blocking blocking' : ℕ) → own ≡ own' → remaining ≡ remaining' → blocking ≡ blocking'
    → ◌≡◌ {A = Cells}
    (record d { own = by_level (at_level k (set_to own)) d.own; remaining = by_level (at_level k (set_to remaining)) d.remaining; blocking = by_level (at_level k (set_to blocking)) d.blocking })
    (record d { own = by_level (at_level k (set_to own')) d.own; remaining = by_level (at_level k (set_to remaining')) d.remaining; blocking = by_level (at_level k (set_to blocking')) d.blocking })
set-cells d k own own' remaining remaining' blocking blocking' one two three = rw (one, two, three) refl

pub returns-then-begins-clause-cells : goal.returns-then-begins-clause-cells
returns-then-begins-clause-cells g c =
    let d = c.args.demand.now in
    let k = c.args.level in
    let R = c.args.releases.now.items in
    let windows = c.windows-windows.ensures in
    let on : begins_at d.windows k ≡ true = ap (λ (w : Clock). begins_at w k) (sym c.windows.ensures) ∙ sym c.begins.ensures ∙ c.if-begins.true in
    let work = c.kernel_work-work.ensures.work ∙ ap (λ (w : Clock). kernel_work R w k) windows in
    let come = c.shares_to_come.ensures.shares ∙ ap (λ (w : Clock). shares_to_come c.args.loans.now w k) windows in
    let remaining : c.kernel_work-work.result + c.args.shares + c.shares_to_come.result ≡ kernel_work R d.windows k + c.args.shares + shares_to_come c.args.loans.now d.windows k =
    omega (arith, work, come) in
    let own = ap (λ (rs : List ℕ). get_or rs k 0 + c.args.own) c.deref.ensures.0 in
    rw on (c.released.ensures.cells ∙ set-cells d k _ _ _ _ _ _ own remaining c.blocking-blocking.ensures)
