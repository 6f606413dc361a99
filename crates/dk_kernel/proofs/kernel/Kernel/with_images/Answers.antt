-- The first images stand for the first world.
use Rattle.dk_kernel.proofs.Names.{◌≡◌, ◌≤◌, ◌∙◌, ap, length, map, subst, sym, Workload, start, code_of}
use Rattle.std.specs.Prelude.{All}
use Rattle.dk_kernel.proofs.Boots.{boot-running, codes-first_states}
use Rattle.dk_kernel.proofs.kernel.Kernel.with_images.Goals as goal

pub images_of-requires-clause-programs : goal.images_of-requires-clause-programs
images_of-requires-clause-programs c =
    ap length c.deref_mut.ensures.value ∙ ap (λ (l : Workload). length l.programs) c.loaded.view_is ∙ c.requires.loaded.programs
    ∙ sym (ap (λ (l : Workload). length l.config.processes) c.loaded.view_is)

pub images_of-requires-clause-sizes : goal.images_of-requires-clause-sizes
images_of-requires-clause-sizes c =
    subst (All (λ code. length code ≤ 65536)) (sym (c.deref_mut.ensures.value ∙ ap (λ (l : Workload). l.programs) c.loaded.view_is)) c.requires.loaded.sizes

pub invariant_of-result : goal.invariant_of-result
invariant_of-result c =
    let count : length c.deref_mut.result.now ≡ length c.loaded.inside.config.processes =
    ap length c.deref_mut.ensures.value ∙ ap (λ (l : Workload). length l.programs) c.loaded.view_is ∙ c.requires.loaded.programs
    ∙ sym (ap (λ (l : Workload). length l.config.processes) c.loaded.view_is) in
    let begun : c.args.tables.past ≡ start c.loaded.inside.config =
    subst (λ (l : Workload). c.args.tables.past ≡ start l.config) (sym c.loaded.view_is) c.requires.start in
    boot-running c.loaded.inside.config c.deref_mut.result.now c.in-Ok.images.items c.args.tables begun c.slots_fit.ensures count c.in-Ok.ensures.ok

pub returns-in-Ok-clause-ok : goal.returns-in-Ok-clause-ok
returns-in-Ok-clause-ok c =
    let codes =
    ap (λ z. map code_of z) c.in-Ok.ensures.ok ∙ codes-first_states c.loaded.inside.config 0 c.deref_mut.result.now ∙ c.deref_mut.ensures.value
    ∙ ap (λ (l : Workload). l.programs) c.loaded.view_is in
    ap (λ p. record { config = c.loaded.inside.config; programs = p; ticks = 0 }) codes
    ∙ ap (λ (l : Workload). record { config = l.config; programs = c.args.loaded.programs; ticks = 0 }) c.loaded.view_is
