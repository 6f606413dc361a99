-- The header of a run is one for the inspector, and the state of its kernel is that of the run.
use Rattle.dk_command.proofs.Names.{ℕ, ◌≡◌, ◌∙◌, ap, refl, sym, subst, Configuration, Heading, Running, Workload, view, IsHeaderOf, workload_of, state, Does, heading}
use Rattle.dk_command.specs.declared.work.Work.TheVariants as work
use Rattle.dk_command.proofs.RunLemmas.{length-rows_of}

pub is_header : (c : Configuration) (h : Heading) → h ≡ heading c → IsHeaderOf c h
is_header c h same = subst (IsHeaderOf c) (sym same) (record { levels = length-rows_of c; processes = refl })

pub shows : (w : Workload) (k : Running) (h : Heading) (ticks : ℕ) → workload_of k ≡ w → k.ticks ≡ ticks → Does (work.State k h) (state w ticks)
shows w k h ticks same now = (λ text is. is ∙ ap (λ n. view k.config k.programs n) now ∙ ap (λ (v : Workload). view v.config v.programs ticks) same, tt)
