use Rattle.dk_dispatch.proofs.Names.{◌≡◌, ◌∙◌, true, ap, sym, subst, body_left, is_free, lock_refusal, seat_at, Tables, node_in, body_in}
use Rattle.dk_dispatch.proofs.Answering.{locked-tables}
use Rattle.dk_dispatch.proofs.tables.AllTables.lock.Goals as goal

pub returns-clause-answer : goal.returns-clause-answer
returns-clause-answer g c =
    let d = c.args.self.now in
    let x = c.args.id in
    let m = c.args.mutex in
    let body : c.body_left-body_left.result ≡ body_in d x =
    c.body_left-body_left.ensures.value
    ∙ ap (λ n. body_left c.self.inside.jobs.switch (seat_at c.self.inside.jobs n).job) c.node_of-node.ensures
    ∙ ap (λ (t : Tables). body_left t.jobs.switch (seat_at t.jobs (node_in d.threads x)).job) c.self.view_is in
    let leveled : c.level-level.result ≡ (seat_at c.self.inside.jobs (node_in c.self.inside.threads x)).level =
    c.level-level.ensures
    ∙ ap (λ n. (seat_at c.self.inside.jobs n).level) c.node_of-node.ensures
    ∙ ap (λ (t : Tables). (seat_at c.self.inside.jobs (node_in t.threads x)).level) (sym c.self.view_is) in (
      ap (λ b. lock_refusal x m b d.mutexes) (sym body)
          ∙ ap (λ (t : Tables). lock_refusal x m c.body_left-body_left.result t.mutexes) (sym c.self.view_is)
          ∙ c.in_ok-number.ensures.answer.0,
      locked-tables x m d _ c.level-level.result c.effective_level-before.result c.effective_level-after.result c.hold_left.result c.lock.new.self c.raise_blocking.new.self
          c.self.view_is leveled c.in_ok-number.ensures.answer.1 c.effective_level-before.ensures c.effective_level-after.ensures c.hold_left.ensures.left c.raise_blocking.ensures.cells,
    )

pub lock-requires : goal.lock-requires
lock-requires g c = λ none.
    let d = c.args.self.now in
    let x = c.args.id in
    let m = c.args.mutex in
    let body : c.body_left-body_left.result ≡ body_in d x =
    c.body_left-body_left.ensures.value
    ∙ ap (λ n. body_left c.self.inside.jobs.switch (seat_at c.self.inside.jobs n).job) c.node_of-node.ensures
    ∙ ap (λ (t : Tables). body_left t.jobs.switch (seat_at t.jobs (node_in d.threads x)).job) c.self.view_is in
    let may = c.requires (ap (λ b. lock_refusal x m b d.mutexes) (sym body)
    ∙ ap (λ (t : Tables). lock_refusal x m c.body_left-body_left.result t.mutexes) (sym c.self.view_is)
    ∙ none) in
    subst (λ (t : Tables). is_free m t.mutexes ≡ true) (sym c.self.view_is) may.free
