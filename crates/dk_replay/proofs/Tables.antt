-- A job of a table takes in the program of the table the ticks of its cell.
use Rattle.std.proofs.Common.{◌≡◌, ◌∙◌, sym, subst, ap, append-nil, ◌≤◌, ◌+◌, ◌-◌, ℕ, Bool, true, false, List, [], ◌∷◌, ◌++◌, arith}
use Rattle.std.specs.Prelude.{nat_lt, if◌then◌else◌, flat_map, sum_by}
use Rattle.std.specs.List.{AllByRecursion}
use Rattle.std.proofs.lemmas.Grind.{flat_map-append}
use Rattle.dk_profile.specs.declared.TheConstants.{MAX_WORK}
use Rattle.dk_profile.specs.declared.steps.Step.{Step}
use Rattle.dk_profile.specs.Steps.{step_size}
use Rattle.dk_times.specs.Laws.{AreTimes, HasJobs, IsTime, TakesItsTicks}
use Rattle.dk_times.specs.Table.{job_of}
use Rattle.dk_replay.specs.Code.{program_of}
use Rattle.dk_replay.specs.Laws.{AreShort, GrantedFor, StandsAt, TableTakes}
use Rattle.dk_replay.proofs.Granted.{steps_take}

chosen : (cost ticks : ℕ) (more : Bool) → ticks ≤ MAX_WORK
    → AreShort (if more then Step.Work (ticks - cost) ∷ Step.Wait ∷ [] else Step.Wait ∷ [])
chosen cost ticks true l = (omega (arith, l), (tt, tt))
chosen cost ticks false l = (tt, tt)

is_time : (cost ticks : ℕ) (above below : List ℕ) → AllByRecursion (IsTime cost) (above ++ ticks ∷ below) → IsTime cost ticks
is_time cost ticks [] below h = h.0
is_time cost ticks (t ∷ above) below h = is_time cost ticks above below h.1

one_job : (cost ticks : ℕ) (above : List ℕ)
    → flat_map (job_of cost) (above ++ ticks ∷ []) ≡ flat_map (job_of cost) above ++ job_of cost ticks
one_job cost ticks above =
    flat_map-append (job_of cost) above (ticks ∷ []) ∙ ap (λ l. flat_map (job_of cost) above ++ l) (append-nil (job_of cost ticks))

pub table_takes : HasJobs → AreTimes → TakesItsTicks → TableTakes
table_takes has_jobs are_times takes cost ticks name table memory above below x some is stands =
    let time = is_time cost ticks above below (rw is at (are_times cost name table)) in
    let steps = has_jobs cost name table ∙ ap (flat_map (job_of cost)) is ∙ flat_map-append (job_of cost) above (ticks ∷ below) in
    let (y, granted, behind) =
    steps_take cost memory (flat_map (job_of cost) above) (job_of cost ticks) (flat_map (job_of cost) below) x some
    (chosen cost ticks (nat_lt cost ticks) time.1) stands in (
      y,
      subst (λ s. GrantedFor cost (program_of s) ticks x memory y memory) (sym steps)
          (subst (λ n. GrantedFor cost (program_of (flat_map (job_of cost) above ++ (job_of cost ticks ++ flat_map (job_of cost) below))) n x memory y memory)
          (takes cost ticks time.0) granted),
      subst (λ s. StandsAt (sum_by step_size s) y) (sym (one_job cost ticks above)) behind,
    )
