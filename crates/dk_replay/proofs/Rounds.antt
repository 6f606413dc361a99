-- A round takes the ticks of all its steps.
use Rattle.std.proofs.Common.{◌≡◌, ◌∙◌, ap, subst, ◌+◌, ℕ, zero, suc, List, [], ◌∷◌, ◌++◌, append_assoc, append-nil, arith}
use Rattle.std.specs.Prelude.{sum_by}
use Rattle.std.proofs.lemmas.List.Sums.{sum_by-append}
use Rattle.dk_cpu.specs.declared.Context.{Context}
use Rattle.dk_profile.specs.declared.steps.Step.{Step}
use Rattle.dk_profile.specs.declared.steps.Step.TheVariants as kind
use Rattle.dk_profile.specs.Steps.{step_size, step_ticks}
use Rattle.dk_replay.specs.Code.{program_of}
use Rattle.dk_replay.specs.Laws.{GrantedFor, RoundTakes, StandsAt}
use Rattle.dk_replay.proofs.Granted.{steps_take, up, up_is}
use Rattle.dk_replay.proofs.Laps.{lap_takes}

-- ticks behind ticks
joined : (cost : ℕ) (code : List ℕ) (b a : ℕ) (x y z : Context) (t u v : List ℕ) → GrantedFor cost code a x t y u → GrantedFor cost code b y u z v
    → GrantedFor cost code (up b a) x t z v
joined cost code zero a x y z t u v one two =
    subst (λ (c : Context). GrantedFor cost code a x t c v) two.0 (subst (λ (l : List ℕ). GrantedFor cost code a x t y l) two.1 one)
joined cost code (suc b) a x y z t u v one two = (two.0, two.1, joined cost code b a x y two.0 t u two.1 one two.2, two.3)

pub round_takes : RoundTakes
round_takes cost n memory front back x some work small idle short s =
    let head : List Step = front ++ kind.Work n ∷ [] in
    let steps : List Step = front ++ kind.Work n ∷ back in
    let same : head ++ back ≡ steps = append_assoc front (kind.Work n ∷ []) back in
    let all : head ++ (back ++ []) ≡ steps = ap (λ (l : List Step). head ++ l) (append-nil back) ∙ same in
    let job = steps_take cost memory head back [] x some short s in
    let code : List ℕ = program_of steps in
    let first : GrantedFor cost code (sum_by (step_ticks cost) back) x memory job.0 memory =
    subst (λ (l : List Step). GrantedFor cost (program_of l) (sum_by (step_ticks cost) back) x memory job.0 memory) all job.1 in
    let at_end : StandsAt (sum_by step_size steps) job.0 = subst (λ (l : List Step). StandsAt (sum_by step_size l) job.0) same job.2 in
    let lap = lap_takes cost n memory front back job.0 some work small idle at_end in
    let both = joined cost code (sum_by (step_ticks cost) head) (sum_by (step_ticks cost) back) x job.0 lap.0 memory memory memory first lap.1 in
    let split : sum_by (step_ticks cost) (head ++ back) ≡ sum_by (step_ticks cost) head + sum_by (step_ticks cost) back = sum_by-append (step_ticks cost) head back in
    let whole : sum_by (step_ticks cost) (head ++ back) ≡ sum_by (step_ticks cost) steps = ap (λ (l : List Step). sum_by (step_ticks cost) l) same in
    let much : up (sum_by (step_ticks cost) head) (sum_by (step_ticks cost) back) ≡ sum_by (step_ticks cost) steps =
    omega (arith, up_is (sum_by (step_ticks cost) head) (sum_by (step_ticks cost) back), split, whole) in
    (lap.0, subst (λ k. GrantedFor cost code k x memory lap.0 memory) much both, lap.2)
