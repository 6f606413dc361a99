use Rattle.dk_dispatch.proofs.Names.{ℕ, ◌≡◌, ◌∙◌, List, Some, get_or, ap, sym, subst, refl, arith, slice_set, Choice, Job, spent, Cells, dropped_cells, new_job, Tables, MayKernel, charged, counts, the_view}
use Rattle.dk_dispatch.proofs.tables.AllTables.charge_kernel.Goals as goal

pub spend-requires-clause-level : goal.spend-requires-clause-level
spend-requires-clause-level g c =
    let may : MayKernel c.args.level (the_view c.self.inside) = subst (MayKernel c.args.level) (sym c.self.view_is) c.requires in
    let known = may.work.known in
    let many = c.self.invariant.kernel in
    omega (arith, known, many)

pub spend-requires-clause-left : goal.spend-requires-clause-left
spend-requires-clause-left g c =
    let may : MayKernel c.args.level (the_view c.self.inside) = subst (MayKernel c.args.level) (sym c.self.view_is) c.requires in
    may.left

pub spent-requires-clause-known : goal.spent-requires-clause-known
spent-requires-clause-known g c =
    let may : MayKernel c.args.level (the_view c.self.inside) = subst (MayKernel c.args.level) (sym c.self.view_is) c.requires in
    may.work.known

pub spent-requires-clause-own : goal.spent-requires-clause-own
spent-requires-clause-own g c =
    let may : MayKernel c.args.level (the_view c.self.inside) = subst (MayKernel c.args.level) (sym c.self.view_is) c.requires in
    may.work.own

pub spent-requires-clause-remaining : goal.spent-requires-clause-remaining
spent-requires-clause-remaining g c =
    let may : MayKernel c.args.level (the_view c.self.inside) = subst (MayKernel c.args.level) (sym c.self.view_is) c.requires in
    may.work.remaining

pub count-requires : goal.count-requires
count-requires g c =
    let may : MayKernel c.args.level (the_view c.self.inside) = subst (MayKernel c.args.level) (sym c.self.view_is) c.requires in
    may.count

told : (d : Tables) (k : ℕ) (parts : List Job) (e : Cells) → parts ≡ slice_set d.kernel k (spent 0 (get_or d.kernel k (new_job 0))) → e ≡ dropped_cells k 1 d.demand
    → record d { kernel = parts; demand = e; slack = counts (Some k) d.slack } ≡ charged (Choice.Kernel k) d
told d k parts e one two = rw (one, two) refl

pub returns-clause-tables : goal.returns-clause-tables
returns-clause-tables g c =
    c.count.ensures
    ∙ told (the_view c.self.inside) c.args.level c.spend.new.self c.spent.new.self c.spend.ensures c.spent.ensures.cells
    ∙ ap (charged (Choice.Kernel c.args.level)) c.self.view_is
