-- The steps of a table are those of its jobs, which take the ticks of its cells.
use Rattle.std.proofs.Common.{◌≡◌, ◌∙◌, refl, ap, ◌≤◌, ◌+◌, ◌-◌, ℕ, Bool, true, false, List, [], ◌∷◌, ◌++◌, arith}
use Rattle.std.specs.Prelude.{nat_lt, if◌then◌else◌, flat_map, map, sum_by, Result, Ok, Err}
use Rattle.std.specs.List.{cons_option, filter_map}
use Rattle.std.proofs.lemmas.Bool.Decides.{nat_tests}
use Rattle.std.proofs.lemmas.List.Elements.{filter_map-append}
use Rattle.dk_profile.specs.declared.steps.Why.{Why}
use Rattle.dk_profile.specs.declared.steps.Step.{Step}
use Rattle.dk_profile.specs.Steps.{step_in, step_ticks, steps_of}
use Rattle.dk_times.specs.declared.table.Cell.{Cell}
use Rattle.dk_times.specs.Laws.{HasJobs, TakesItsTicks}
use Rattle.dk_times.specs.Table.{cell_readings, cells_of, does_at, job_of, says_readings, told, told_ticks}

of_steps : (line : ℕ) (steps : List Step) → steps_of (map (does_at line) steps) ≡ steps
of_steps line [] = refl
of_steps line (step ∷ steps) = ap (λ l. step ∷ l) (of_steps line steps)

of_cell : (call line : ℕ) (says : Result ℕ Why) (times : List ℕ)
    → steps_of (says_readings call line says) ++ flat_map (job_of call) times
    ≡ flat_map (job_of call) (cons_option (told_ticks says) times)
of_cell call line (Ok ticks) times = ap (λ l. l ++ flat_map (job_of call) times) (of_steps line (job_of call ticks))
of_cell call line (Err why) times = refl

of_cells : (call : ℕ) (cells : List Cell) → steps_of (flat_map (cell_readings call) cells) ≡ flat_map (job_of call) (filter_map told cells)
of_cells call [] = refl
of_cells call (cell ∷ cells) =
    filter_map-append step_in (cell_readings call cell) (flat_map (cell_readings call) cells)
    ∙ ap (λ l. steps_of (cell_readings call cell) ++ l) (of_cells call cells)
    ∙ of_cell call cell.line cell.says (filter_map told cells)

pub has_jobs : HasJobs
has_jobs call name table = of_cells call (cells_of call name table)

work_and_wait : (call ticks : ℕ) (more : Bool) → nat_lt call ticks ≡ more → call ≤ ticks
    → sum_by (step_ticks call) (if more then Step.Work (ticks - call) ∷ Step.Wait ∷ [] else Step.Wait ∷ []) ≡ ticks
work_and_wait call ticks true is l = grind (arith, nat_tests)
work_and_wait call ticks false is l = grind (arith, nat_tests)

pub takes : TakesItsTicks
takes call ticks l = work_and_wait call ticks (nat_lt call ticks) refl l
