use Rattle.dk_dispatch.proofs.Names.{◌≡◌, ◌<◌, ◌+◌, ◌*◌, ◌≤◌, ◌∙◌, ℕ, Bool, List, length, ap, sym, subst, refl, arith, slice_index, Job, Clock, Table, all_stopped, stands, changed_family, Book, future_shares, stopped_process, changed_lender, Lockable, Cells, Slack, Roster, Tables, shut, shut_all, running_children, cells_lost, shut-threads, shut-loans, shut-windows, shut-kernel, one-more}
use Rattle.dk_dispatch.proofs.tables.AllTables.stop_family.Goals as goal

tables-same : {t t' : Table} {b b' : Book} {m m' : List Lockable} {d d' : Cells} {s s' : Slack} {j j' : Roster} {k k' : List Job} {r r' : List ℕ} {a a' : List Bool}
    → t ≡ t' → b ≡ b' → m ≡ m' → d ≡ d' → s ≡ s' → j ≡ j' → k ≡ k' → r ≡ r' → a ≡ a'
    → ◌≡◌ {A = Tables}
    (record { threads = t; loans = b; mutexes = m; demand = d; slack = s; jobs = j; kernel = k; releases = r; rights = a })
    (record { threads = t'; loans = b'; mutexes = m'; demand = d'; slack = s'; jobs = j'; kernel = k'; releases = r'; rights = a' })
tables-same e1 e2 e3 e4 e5 e6 e7 e8 e9 = rw (e1, e2, e3, e4, e5, e6, e7, e8, e9) refl

pub lose_shares-requires-clause-known : goal.lose_shares-requires-clause-known
lose_shares-requires-clause-known g c =
    let p = c.args.main.id.process in
    let d = c.args.self.now in
    let whole = c.self.view_is ∙ c.shut_children.ensures.tables ∙ ap (λ (t : Tables). shut_all (running_children t.threads p) t) c.shut.ensures.tables in
    subst (λ n. p < n) (sym (ap (λ (t : Tables). length t.loans.lenders) whole ∙ ap (λ (b : Book). length b.lenders) (shut-loans (running_children d.threads p) (shut c.args.main d)))) c.requires.process

pub lose_shares-requires-clause-each : goal.lose_shares-requires-clause-each
lose_shares-requires-clause-each g c =
    let p = c.args.main.id.process in
    let d = c.args.self.now in
    let whole = c.self.view_is ∙ c.shut_children.ensures.tables ∙ ap (λ (t : Tables). shut_all (running_children t.threads p) t) c.shut.ensures.tables in
    ap (λ (t : Tables). length t.demand.remaining) whole ∙ c.requires.each
    ∙ sym (ap (λ (t : Tables). length t.demand.windows.periods) whole ∙ ap (λ (w : Clock). length w.periods) (shut-windows (running_children d.threads p) (shut c.args.main d)))

pub lose_shares-requires-clause-low : goal.lose_shares-requires-clause-low
lose_shares-requires-clause-low g c = λ j below.
    let p = c.args.main.id.process in
    let d = c.args.self.now in
    let rows = running_children d.threads p in
    let whole = c.self.view_is ∙ c.shut_children.ensures.tables ∙ ap (λ (t : Tables). shut_all (running_children t.threads p) t) c.shut.ensures.tables in
    let clock : c.self.inside.demand.windows ≡ d.demand.windows = ap (λ (t : Tables). t.demand.windows) whole ∙ shut-windows rows (shut c.args.main d) in
    let loans : c.self.inside.loans ≡ d.loans = ap (λ (t : Tables). t.loans) whole ∙ shut-loans rows (shut c.args.main d) in
    let many : length c.self.inside.demand.windows.periods ≡ length d.demand.windows.periods = ap (λ (w : Clock). length w.periods) clock in
    let known : j < length d.demand.windows.periods = omega (arith, below, c.len-levels.ensures, c.self.invariant.kernel, many) in
    let low = c.requires.shares j known in
    let same : future_shares c.self.inside.loans c.self.inside.demand.windows p j ≡ future_shares d.loans d.demand.windows p j =
    ap (λ b. future_shares b c.self.inside.demand.windows p j) loans ∙ ap (λ w. future_shares d.loans w p j) clock in
    let cell : slice_index c.self.inside.demand.remaining j ≡ slice_index (shut_all rows (shut c.args.main d)).demand.remaining j = ap (λ (t : Tables). slice_index t.demand.remaining j) whole in
    omega (arith, low, same, cell)

pub stop_process-requires-clause-known : goal.stop_process-requires-clause-known
stop_process-requires-clause-known g c =
    let p = c.args.main.id.process in
    let d = c.args.self.now in
    let whole = c.self.view_is ∙ c.shut_children.ensures.tables ∙ ap (λ (t : Tables). shut_all (running_children t.threads p) t) c.shut.ensures.tables in
    subst (λ n. p < n) (sym (ap (λ (t : Tables). length t.loans.lenders) whole ∙ ap (λ (b : Book). length b.lenders) (shut-loans (running_children d.threads p) (shut c.args.main d)))) c.requires.process

pub stop_process-requires-2-clause-stands : goal.stop_process-requires-2-clause-stands
stop_process-requires-2-clause-stands g c =
    let p = c.args.main.id.process in
    let d = c.args.self.now in
    let whole = c.self.view_is ∙ c.shut_children.ensures.tables ∙ ap (λ (t : Tables). shut_all (running_children t.threads p) t) c.shut.ensures.tables in
    ap (λ (t : Tables). stands t.threads p) whole ∙ ap (λ (t : Table). stands t p) (shut-threads (running_children d.threads p) (shut c.args.main d)) ∙ c.requires.stands

pub returns-clause-tables : goal.returns-clause-tables
returns-clause-tables g c =
    let p = c.args.main.id.process in
    let d = c.args.self.now in
    let rows = running_children d.threads p in
    let whole = c.self.view_is ∙ c.shut_children.ensures.tables ∙ ap (λ (t : Tables). shut_all (running_children t.threads p) t) c.shut.ensures.tables in
    let loans : c.self.inside.loans ≡ d.loans = ap (λ (t : Tables). t.loans) whole ∙ shut-loans rows (shut c.args.main d) in
    let threads : c.self.inside.threads ≡ d.threads = ap (λ (t : Tables). t.threads) whole ∙ shut-threads rows (shut c.args.main d) in
    let demand : c.lose_shares.new.demand ≡ cells_lost d.loans p (shut_all rows (shut c.args.main d)).demand =
    c.lose_shares.ensures.cells ∙ ap (λ b. cells_lost b p c.self.inside.demand) loans ∙ ap (λ (t : Tables). cells_lost d.loans p t.demand) whole in
    let clock : c.windows-windows.result.now ≡ d.demand.windows =
    c.windows-windows.ensures ∙ ap (λ (z : Cells). z.windows) demand ∙ shut-windows rows (shut c.args.main d) in
    tables-same
    (c.stop_process-2.ensures ∙ ap (λ w. changed_family (all_stopped w) p c.self.inside.threads) clock ∙ ap (changed_family (all_stopped d.demand.windows) p) threads)
    (c.stop_process.ensures ∙ ap (λ w. changed_lender p (stopped_process w) c.self.inside.loans) clock ∙ ap (changed_lender p (stopped_process d.demand.windows)) loans)
    (ap (λ (t : Tables). t.mutexes) whole)
    demand
    (ap (λ (t : Tables). t.slack) whole)
    (ap (λ (t : Tables). t.jobs) whole)
    (ap (λ (t : Tables). t.kernel) whole)
    (ap (λ (t : Tables). t.releases) whole)
    (ap (λ (t : Tables). t.rights) whole)

pub returns-clause-steps : goal.returns-clause-steps
returns-clause-steps g c =
    let p = c.args.main.id.process in
    let d = c.args.self.now in
    let rows = running_children d.threads p in
    let K = 5 + length d.kernel in
    let whole = c.self.view_is ∙ c.shut_children.ensures.tables ∙ ap (λ (t : Tables). shut_all (running_children t.threads p) t) c.shut.ensures.tables in
    let first = c.shut.ensures.steps in
    let more : c.shut_children.new.steps ≤ c.shut.new.steps + K * length rows =
    subst (λ n. c.shut_children.new.steps ≤ c.shut.new.steps + n)
    (ap (λ (t : Tables). (5 + length t.kernel) * length (running_children t.threads p)) c.shut.ensures.tables) c.shut_children.ensures.steps in
    let last = c.lose_shares.ensures.steps in
    let many = ap (λ (t : Tables). length t.kernel) whole ∙ ap (λ (ks : List Job). length ks) (shut-kernel rows (shut c.args.main d)) in
    let count = c.len-levels.ensures in
    let split = one-more K (length rows) in
    omega (arith, first, more, last, many, count, split)
