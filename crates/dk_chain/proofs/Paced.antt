-- The pace of a chain up to a process of it, and the reaction time that comes of it.
use Rattle.dk_chain.proofs.Names.{ℕ, zero, suc, ◌≡◌, ◌+◌, ◌-◌, ◌*◌, ◌<◌, ◌≤◌, List, [], ◌∷◌, length, drop, refl, sym, ap, ◌∙◌, subst, arith, slice_index_or, MAX_PROCESSES, MAX_SPAN, Configuration, IsChecked, period, main_level, IsAge, last_of, AreDone, IsReaction, window_length, next_start, free_from, through, answered, Course, start_by, IsCourse, round_up, nat_tests}
use Rattle.dk_chain.specs.declared.reacting.Pace.{Pace}
use Rattle.dk_chain.proofs.Pace.{faster, slower, enough_of, met_of, met_at}
use Rattle.dk_chain.proofs.Chain.{window-positive}

-- the chain has come to its process `last`, and `rest` from `at` on is what follows it
pub record Paced (c : Configuration) (first : ℕ) (rest : List ℕ) (at last : ℕ) (pace : Pace) : Type 0 where
  pub there : last < length c.processes
  pub level : pace.level < length c.levels
  pub few : pace.before + pace.lag ≤ at * (2 * MAX_SPAN)
  pub within : main_level c last ≤ pace.level
  pub final : last_of last (drop at rest) ≡ last_of first rest
  pub answers : (done : ℕ → ℕ) → AreDone c done → (t : ℕ)
      → through c done last (start_by c pace t) (drop at rest) ≡ answered c done (first ∷ rest) t

pub drop-next : (rest : List ℕ) (i : ℕ) → i < length rest → drop i rest ≡ slice_index_or rest i 0 ∷ drop (i + 1) rest
drop-next [] i less = grind (arith, nat_tests)
drop-next (x ∷ rest) zero less = refl
drop-next (x ∷ rest) (suc i) less = grind (arith, nat_tests, drop-next rest i)

-- a process of a level that is not slower than the slowest so far
pub at-the-pace : (c : Configuration) (done : ℕ → ℕ) (p q t gap lag : ℕ) (pace : Pace) → IsChecked c → q < length c.processes → pace.level < length c.levels
    → main_level c q ≤ pace.level → free_from c done p q (start_by c pace t) ≡ start_by c pace t + gap → lag ≡ round_up (pace.lag + gap) (window_length c q)
    → next_start c q (free_from c done p q (start_by c pace t)) ≡ start_by c (record { level = pace.level; before = pace.before; lag = lag }) t
at-the-pace c done p q t gap lag pace checked there known within free is = grind (arith, nat_tests, faster, window-positive)

-- a process of a slower level
pub slower-pace : (c : Configuration) (done : ℕ → ℕ) (p q t gap more level : ℕ) (pace : Pace) → IsChecked c → q < length c.processes
    → pace.level < main_level c q → level ≡ main_level c q → free_from c done p q (start_by c pace t) ≡ start_by c pace t + gap → more ≡ round_up (pace.lag + gap) (period c pace.level)
    → next_start c q (free_from c done p q (start_by c pace t)) ≡ start_by c (record { level = level; before = pace.before + more; lag = 0 }) t
slower-pace c done p q t gap more level pace checked there above same free is = grind (arith, nat_tests, slower, window-positive)

-- one process more
pub goes-on : (c : Configuration) (first : ℕ) (rest : List ℕ) (at last next : ℕ) (pace pace' : Pace) → Paced c first rest at last pace
    → drop at rest ≡ next ∷ drop (at + 1) rest → next < length c.processes → pace'.level < length c.levels → main_level c next ≤ pace'.level → pace'.before + pace'.lag ≤ pace.before + pace.lag + 2 * MAX_SPAN
    → ((done : ℕ → ℕ) → AreDone c done → (t : ℕ) → next_start c next (free_from c done last next (start_by c pace t)) ≡ start_by c pace' t)
    → Paced c first rest (at + 1) next pace'
goes-on c first rest at last next pace pace' before more there level within few starts = grind (arith, nat_tests)

-- the whole chain
pub course-of : (c : Configuration) (first : ℕ) (rest : List ℕ) (at last : ℕ) (pace : Pace) → Paced c first rest at last pace → drop at rest ≡ []
    → at ≤ MAX_PROCESSES → IsCourse c first rest (record { pace = pace; last = last })
course-of c first rest at last pace paced end short = grind (arith, nat_tests)

pub shape : (c : Configuration) (first : ℕ) (rest : List ℕ) (course : Course) (done : ℕ → ℕ) → IsCourse c first rest course → AreDone c done → (t : ℕ)
    → answered c done (first ∷ rest) t ≡ round_up (t + course.pace.before) (period c course.pace.level) + (course.pace.lag + done course.last)
shape c first rest course done is are t = let w = is.answers done are t in omega (arith, w)

pub reaction-of : (c : Configuration) (first : ℕ) (rest : List ℕ) (course : Course) (done : ℕ → ℕ) (by reaction : ℕ) → IsCourse c first rest course
    → 0 < period c course.pace.level → AreDone c done → done course.last ≡ by → reaction ≡ course.pace.before + course.pace.lag + (period c course.pace.level - 1) + by
    → IsReaction c done (first ∷ rest) reaction
reaction-of c first rest course done by reaction course_is positive are is sum =
    let H = period c course.pace.level in
    let k = course.pace.lag + done course.last in
    let f : ℕ → ℕ = answered c done (first ∷ rest) in
    let total : course.pace.before + k + (H - 1) ≡ reaction = omega (arith, sum, is) in
    let met = met_of f H course.pace.before k positive (shape c first rest course done course_is are) in
    record {
      enough = λ t. subst (λ r. f t ≤ t + r) total (enough_of f H course.pace.before k positive (shape c first rest course done course_is are) t);
      met = (met.0, subst (λ r. f met.0 ≡ met.0 + r) total met.1);
    }

-- a chain has one reaction time
one-reaction : (c : Configuration) (done : ℕ → ℕ) (chain : List ℕ) (a b : ℕ) → IsReaction c done chain a → IsReaction c done chain b → a ≡ b
one-reaction c done chain a b is is' = grind (arith, nat_tests)

pub worst-of : (c : Configuration) (first : ℕ) (rest : List ℕ) (course : Course) (done : ℕ → ℕ) (reaction event : ℕ) → IsCourse c first rest course
    → 0 < period c course.pace.level → AreDone c done → IsReaction c done (first ∷ rest) reaction → event ≡ round_up course.pace.before (period c course.pace.level) + 1 - course.pace.before
    → answered c done (first ∷ rest) event ≡ event + reaction
worst-of c first rest course done reaction event course_is positive are is at =
    let H = period c course.pace.level in
    let k = course.pace.lag + done course.last in
    let f : ℕ → ℕ = answered c done (first ∷ rest) in
    let met = met_at f H course.pace.before k positive (shape c first rest course done course_is are) in
    let here : f event ≡ event + (course.pace.before + k + (H - 1)) = subst (λ t. f t ≡ t + (course.pace.before + k + (H - 1))) (sym at) met in
    let within = is.enough event in
    let most = enough_of f H course.pace.before k positive (shape c first rest course done course_is are) is.met.0 in
    let same = is.met.1 in
    omega (arith, here, within, most, same)

-- the same with a window of the last process in place of the tick before one of the slowest
pub age-of : (c : Configuration) (first : ℕ) (rest : List ℕ) (course : Course) (done : ℕ → ℕ) (by reaction age : ℕ) → IsChecked c → IsCourse c first rest course
    → AreDone c done → done course.last ≡ by → IsReaction c done (first ∷ rest) reaction → window_length c course.last ≤ period c course.pace.level
    → age + window_length c course.last ≡ course.pace.before + course.pace.lag + period c course.pace.level + by → IsAge c first rest reaction age
age-of c first rest course done by reaction age checked course_is are by_is is shorter sum =
    let positive = checked.positive course.pace.level course_is.level in
    let own = reaction-of c first rest course done by (course.pace.before + course.pace.lag + (period c course.pace.level - 1) + by) course_is positive are by_is refl in
    let same = one-reaction c done (first ∷ rest) reaction (course.pace.before + course.pace.lag + (period c course.pace.level - 1) + by) is own in
    ap (λ p. age + window_length c p) (sym course_is.last) ∙ omega (arith, sum, same, positive)
