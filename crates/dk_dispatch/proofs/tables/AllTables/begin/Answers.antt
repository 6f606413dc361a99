use Rattle.dk_dispatch.proofs.Names.{ℕ, ◌≡◌, ◌+◌, ◌≤◌, ◌∙◌, List, length, ap, refl, sym, subst, arith, Job, Clock, Cells, Slack, Roster, below, Tables, AreKnown, CanAllSit, MayBegin, all_rows, begin_steps, cell_steps, cells_begun, counts_begun, given, given_steps, parts_begun, quieted, the_view, given-seats, given-lists, quieted-length, counts-length, parts-length, cells-windows}
use Rattle.dk_recount.specs.Opening.{begun}
use Rattle.dk_dispatch.proofs.tables.AllTables.begin.Goals as goal

pub begin_threads-requires-clause-levels : goal.begin_threads-requires-clause-levels
begin_threads-requires-clause-levels g c =
    ap (λ (w : Clock). w.periods) c.windows-windows.ensures ∙ sym c.self.invariant.periods

pub begin_threads-requires-clause-known : goal.begin_threads-requires-clause-known
begin_threads-requires-clause-known g c =
    let may : MayBegin (the_view c.self.inside) = subst MayBegin (sym c.self.view_is) c.requires in
    subst (λ w. AreKnown c.self.inside.loans w (all_rows c.self.inside.threads)) (sym c.windows-windows.ensures) may.known

pub begin_threads-requires-clause-seats : goal.begin_threads-requires-clause-seats
begin_threads-requires-clause-seats g c =
    let may : MayBegin (the_view c.self.inside) = subst MayBegin (sym c.self.view_is) c.requires in
    subst (λ w. CanAllSit c.self.inside.loans w (all_rows c.self.inside.threads) c.self.inside.jobs) (sym c.windows-windows.ensures) may.seats

pub begin_parts-requires-clause-parts : goal.begin_parts-requires-clause-parts
begin_parts-requires-clause-parts g c =
    c.self.invariant.kernel ∙ sym (ap (λ (w : Clock). length w.periods) c.windows-windows.ensures)

pub begin_parts-requires-clause-releases : goal.begin_parts-requires-clause-releases
begin_parts-requires-clause-releases g c =
    c.self.invariant.releases ∙ sym (ap (λ (w : Clock). length w.periods) c.windows-windows.ensures)

pub begin_parts-requires-clause-few : goal.begin_parts-requires-clause-few
begin_parts-requires-clause-few g c =
    subst (λ (w : Clock). length w.periods ≤ 12) (sym c.windows-windows.ensures) c.self.invariant.few

pub begin_cells-requires-clause-levels : goal.begin_cells-requires-clause-levels
begin_cells-requires-clause-levels g c =
    sym c.self.invariant.periods

pub begin_cells-requires-clause-releases : goal.begin_cells-requires-clause-releases
begin_cells-requires-clause-releases g c =
    c.self.invariant.releases

pub begin_cells-requires-clause-periods : goal.begin_cells-requires-clause-periods
begin_cells-requires-clause-periods g c =
    let may : MayBegin (the_view c.self.inside) = subst MayBegin (sym c.self.view_is) c.requires in
    may.periods

pub begin_cells-requires-clause-rows : goal.begin_cells-requires-clause-rows
begin_cells-requires-clause-rows g c =
    let may : MayBegin (the_view c.self.inside) = subst MayBegin (sym c.self.view_is) c.requires in
    may.known

pub invariant_of-self : goal.invariant_of-self
invariant_of-self g c =
    let is = c.self.invariant in
    let t = c.self.inside.threads in
    let b = c.self.inside.loans in
    let R = c.self.inside.releases.items in
    let rows = all_rows t in
    let ks = below (length R) in
    let windows = ap (λ (z : Cells). z.windows) c.begin_cells.ensures.cells ∙ cells-windows R t b ks c.self.inside.demand in
    let periods = ap (λ (z : Clock). length z.periods) windows in
    let wishes = ap (λ (s : Slack). length s.wishes) c.begin_counts.ensures ∙ ap (λ (s : Slack). length s.wishes) c.begin_threads.ensures.slack
    ∙ quieted-length b c.windows-windows.result.now rows c.self.inside.slack.wishes in
    let unclaimed = ap (λ (s : Slack). length s.unclaimed) c.begin_counts.ensures ∙ counts-length c.windows-windows.result.now (below c.len-levels.result) c.begin_threads.new.slack.unclaimed
    ∙ ap (λ (s : Slack). length s.unclaimed) c.begin_threads.ensures.slack in
    let nodes = ap (λ (s : Slack). s.nodes) c.begin_counts.ensures ∙ ap (λ (s : Slack). s.nodes) c.begin_threads.ensures.slack in
    let lists = ap (λ (r : Roster). length r.ready.lists) c.begin_threads.ensures.jobs ∙ given-lists b c.windows-windows.result.now rows c.self.inside.jobs in
    let seats = ap (λ (r : Roster). length r.seats) c.begin_threads.ensures.jobs ∙ given-seats b c.windows-windows.result.now rows c.self.inside.jobs in
    let parts = ap length c.begin_parts.ensures ∙ parts-length R c.windows-windows.result.now ks c.self.inside.kernel in
    record {
      few = subst (λ n. n ≤ 12) (sym periods) is.few;
      kernel = parts ∙ is.kernel ∙ sym periods;
      releases = is.releases ∙ sym periods;
      queues = lists ∙ is.queues ∙ sym periods;
      wishes = wishes ∙ is.wishes ∙ sym periods;
      unclaimed = unclaimed ∙ is.unclaimed ∙ sym periods;
      levels = is.levels ∙ sym periods;
      periods = is.periods ∙ ap (λ (z : Clock). z.periods) (sym windows);
      processes = is.processes;
      lenders = is.lenders;
      rights = is.rights;
      nodes = seats ∙ is.nodes;
      askers = nodes ∙ is.askers;
    }

told : (d : Tables) (w : Clock) (levels : ℕ) (j : Roster) (s1 s2 : Slack) (parts : List Job) (e : Cells)
    → w ≡ d.demand.windows → length d.releases ≡ length d.kernel → levels ≡ length d.kernel
    → j ≡ given d.loans w (all_rows d.threads) d.jobs → s1 ≡ record d.slack { wishes = quieted w (all_rows d.threads) d.slack.wishes }
    → s2 ≡ record s1 { unclaimed = counts_begun w (below levels) s1.unclaimed } → parts ≡ parts_begun d.releases w (below (length d.releases)) d.kernel
    → e ≡ cells_begun d.releases d.threads d.loans (below (length d.releases)) d.demand
    → record d { demand = e; slack = s2; jobs = j; kernel = parts } ≡ begun d
told d w levels j s1 s2 parts e clock releases many a b b2 k z = rw (a, b2, b, k, z, many, releases, clock) refl

pub returns-clause-tables : goal.returns-clause-tables
returns-clause-tables g c =
    let same = c.self.invariant.releases ∙ sym c.self.invariant.kernel in
    told (the_view c.self.inside) c.windows-windows.result.now c.len-levels.result
    c.begin_threads.new.jobs c.begin_threads.new.slack c.begin_counts.new.slack c.begin_parts.new.kernel c.begin_cells.new.demand
    c.windows-windows.ensures same (c.len-levels.ensures.value ∙ same)
    c.begin_threads.ensures.jobs c.begin_threads.ensures.slack c.begin_counts.ensures c.begin_parts.ensures c.begin_cells.ensures.cells
    ∙ ap begun c.self.view_is

pub returns-clause-steps : goal.returns-clause-steps
returns-clause-steps g c =
    let d = c.self.inside in
    let same = c.self.invariant.releases ∙ sym c.self.invariant.kernel in
    let cells : c.begin_cells.new.steps ≡ c.begin_threads.new.steps + cell_steps d.demand.windows (below (length d.kernel)) =
    c.begin_cells.ensures.steps ∙ ap (λ n. c.begin_threads.new.steps + cell_steps d.demand.windows (below n)) same in
    let sat : c.begin_threads.new.steps ≡ c.args.steps.now + given_steps d.loans d.demand.windows (all_rows d.threads) d.slack.wishes =
    c.begin_threads.ensures.steps
    ∙ ap (λ (w : Clock). c.args.steps.now + given_steps d.loans w (all_rows d.threads) d.slack.wishes) c.windows-windows.ensures in
    let all : c.begin_cells.new.steps ≡ c.args.steps.now + begin_steps (the_view d) = omega (arith, cells, sat) in
    all ∙ ap (λ (t : Tables). c.args.steps.now + begin_steps t) c.self.view_is
