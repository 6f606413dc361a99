use Rattle.dk_dispatch.proofs.Names.{◌≡◌, ◌+◌, ◌*◌, ◌≤◌, ◌∙◌, length, drop, ap, sym, subst, refl, arith, filter, Table, is_running, children_at, steps-next, Tables, shut_all, MayShutAll, running_at, shut-join, may-first, may-rest, shut-threads, shut-kernel, next-running}
use Rattle.dk_dispatch.proofs.tables.AllTables.shut_children.Goals as goal

pub loop-index-init : goal.loop-index-init
loop-index-init g c = record { threads = refl; kernel = refl; may = c.requires.may; tables = refl; steps = omega arith }

pub shut_child-requires : goal.shut_child-requires
shut_child-requires g c =
    let i = c.loop-index.index in
    let rows = children_at c.args.self.now.threads c.args.process in
    let at : running_at rows i ≡ running_at (children_at c.loop-index.self.threads c.args.process) i =
    ap (λ (t : Table). running_at (children_at t c.args.process) i) (sym c.loop-index.invariant.threads) in
    record {
      may =
          subst (λ rs. MayShutAll rs c.loop-index.self) at
          (may-first (running_at rows i) (filter is_running (drop (i + 1) rows)) c.loop-index.self
          (subst (λ rs. MayShutAll rs c.loop-index.self) (next-running rows i) c.loop-index.invariant.may));
    }

pub loop-index-preserved : goal.loop-index-preserved
loop-index-preserved g c =
    let i = c.loop-index.index in
    let p = c.args.process in
    let d = c.loop-index.self in
    let rows = children_at c.args.self.now.threads p in
    let rest = filter is_running (drop (i + 1) rows) in
    let one = running_at rows i in
    let K = 5 + length c.args.self.now.kernel in
    let inv = c.loop-index.invariant in
    let at : running_at (children_at d.threads p) i ≡ one = ap (λ (t : Table). running_at (children_at t p) i) inv.threads in
    let new : c.shut_child.new.self ≡ shut_all one d = c.shut_child.ensures.tables ∙ ap (λ rs. shut_all rs d) at in
    let next = next-running rows i in
    let more : c.shut_child.new.steps ≤ c.loop-index.steps + K * length one =
    subst (λ n. c.shut_child.new.steps ≤ c.loop-index.steps + n)
    (ap (λ rs. (5 + length d.kernel) * length rs) at ∙ ap (λ ks. (5 + length ks) * length one) inv.kernel) c.shut_child.ensures.steps in
    let split : K * length (filter is_running (drop i rows)) ≡ K * length one + K * length rest = ap (λ rs. K * length rs) next ∙ steps-next K one rest in
    let before = inv.steps in
    record {
      threads = ap (λ (t : Tables). t.threads) new ∙ shut-threads one d ∙ inv.threads;
      kernel = ap (λ (t : Tables). t.kernel) new ∙ shut-kernel one d ∙ inv.kernel;
      may = subst (MayShutAll rest) (sym new) (may-rest one rest d (subst (λ rs. MayShutAll rs d) next inv.may));
      tables =
          ap (shut_all rest) new ∙ sym (shut-join one rest d) ∙ sym (ap (λ rs. shut_all rs d) next) ∙ inv.tables;
      steps = omega (arith, more, split, before);
    }
