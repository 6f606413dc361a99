-- What the steps of a profile are, as a text or a table says them: work of some ticks, and locks of mutexes that the process may use.
use Rattle.std.proofs.Common.{◌≡◌, refl, sym, subst, ◌<◌, ◌≤◌, ◌+◌, ◌-◌, ℕ, Bool, true, false, List, [], ◌∷◌, ◌++◌, length, arith, Option, Some, None}
use Rattle.std.specs.Prelude.{◌==◌, ◌&&◌, nat_le, nat_lt, if◌then◌else◌, codes, flat_map, Result, Ok, Err}
use Rattle.std.specs.List.{AllByRecursion}
use Rattle.std.specs.Str.{bytes_eq}
use Rattle.std.proofs.lemmas.Bool.Decides.{nat_tests}
use Rattle.dk_config.specs.Configuration.{Configuration}
use Rattle.dk_config.specs.Certification.{is_user}
use Rattle.dk_profile.specs.declared.TheConstants.{MAX_VALUE, MAX_WORK}
use Rattle.dk_profile.specs.declared.steps.Step.{Step}
use Rattle.dk_profile.specs.declared.steps.Why.{Why}
use Rattle.dk_profile.specs.declared.steps.Reading.{Reading}
use Rattle.dk_profile.specs.declared.steps.Reading.TheVariants as reading
use Rattle.dk_profile.specs.declared.steps.Placed.{Placed}
use Rattle.dk_profile.specs.declared.steps.ProfileFault.{ProfileFault}
use Rattle.dk_profile.specs.Reading.{amount, in_range, mutex_named, number_of, of_user, placed, read_line, reading_of, readings_of, said, step_on, used_mutex}
use Rattle.dk_profile.specs.Words.{LineWords, line_words}
use Rattle.dk_profile.specs.Steps.{steps_of}
use Rattle.dk_times.specs.declared.form.Form.{Form}
use Rattle.dk_times.specs.Laws.{IsTime}
use Rattle.dk_times.specs.Table.{job_of, times_of}
use Rattle.dk_times.specs.Whole.{readings_in}
use Rattle.dk_times.proofs.Jobs.{has_jobs}
use Rattle.dk_times.proofs.Within.{within}
use Rattle.dk_replay_run.proofs.Faultless.{AreSaid, IsSaid}

module _ (c : Configuration) (p : ℕ) where
  abbrev IsSaidBy : Reading → Type 0
  IsSaidBy (reading.Does step) = IsSaid c p step
  IsSaidBy _ = Unit {0}

  either : (b : Bool) (one other : Reading) → IsSaidBy one → IsSaidBy other → IsSaidBy (if b then one else other)
  either true one other a b = a
  either false one other a b = b

  work-in : (n : ℕ) (low most : Bool) → nat_le 1 n ≡ low → nat_le n MAX_WORK ≡ most
      → IsSaidBy (said Step.Work (if low && most then Ok n else Err (Why.Range 1 MAX_WORK)))
  work-in n true true low most =
      let some : 1 ≤ n = grind (arith, nat_tests) in
      let few : n ≤ 1000000 = grind (arith, nat_tests) in
      (some, omega (arith, few))
  work-in n true false low most = tt
  work-in n false most low is = tt

  work-said : (n : Option ℕ) → IsSaidBy (said Step.Work (in_range 1 MAX_WORK n))
  work-said None = tt
  work-said (Some n) = work-in n (nat_le 1 n) (nat_le n MAX_WORK) refl refl

  lock-of : (m : ℕ) (user : Bool) → is_user c m p ≡ user → IsSaidBy (said Step.Lock (if user then Ok m else Err Why.NoUser))
  lock-of m true is = is
  lock-of m false is = tt

  lock-said : (m : Option ℕ) → IsSaidBy (said Step.Lock (of_user c p m))
  lock-said None = tt
  lock-said (Some m) = lock-of m (is_user c m p) refl

  unlock-said : (r : Result ℕ Why) → IsSaidBy (said Step.Unlock r)
  unlock-said (Ok m) = tt
  unlock-said (Err why) = tt

  slack-said : (r : Result ℕ Why) → IsSaidBy (said Step.Slack r)
  slack-said (Ok n) = tt
  slack-said (Err why) = tt

  put-said : (r : Result ℕ Why) → IsSaidBy (said Step.Put r)
  put-said (Ok n) = tt
  put-said (Err why) = tt

  step-said : (first word : List ℕ) → IsSaidBy (step_on c p first word)
  step-said first word =
      either (bytes_eq first (codes "work")) _ _ (work-said (number_of word))
      (either (bytes_eq first (codes "lock")) _ _ (lock-said (mutex_named c word))
      (either (bytes_eq first (codes "unlock")) _ _ (unlock-said (used_mutex c p word))
      (either (bytes_eq first (codes "slack")) _ _ (slack-said (amount 1 MAX_VALUE word))
      (either (bytes_eq first (codes "put")) _ _ (put-said (amount 0 MAX_VALUE word))
      (either (bytes_eq first (codes "wait")) _ _ (either (length word == 0) (reading.Does Step.Wait) (reading.Wrong Why.More) tt tt)
      (either (bytes_eq first (codes "job")) _ _ (either (length word == 0) reading.Job (reading.Wrong Why.More) tt tt) tt))))))

  words-said : (w : LineWords) → IsSaidBy (reading_of c p w)
  words-said w =
      either (length w.first == 0) reading.Nothing _ tt
      (either (length w.more == 0) (step_on c p w.first w.second) (reading.Wrong Why.More) (step-said w.first w.second) tt)

  line-said : (line : ℕ) (g : Reading) (readings : List Placed) → IsSaidBy g → AreSaid c p (steps_of readings)
      → AreSaid c p (steps_of ((let r : Placed = record { line = line; reading = g } in r) ∷ readings))
  line-said line reading.Nothing readings one rest = rest
  line-said line reading.Job readings one rest = rest
  line-said line (reading.Does step) readings one rest = (one, rest)
  line-said line (reading.Wrong why) readings one rest = rest

  lines-said : (n : ℕ) (lines : List (List ℕ)) → AreSaid c p (steps_of (placed c p n lines))
  lines-said n [] = tt
  lines-said n (line ∷ lines) =
      line-said n (read_line c p line) (placed c p (n + 1) lines) (words-said (line_words line)) (lines-said (n + 1) lines)

  text-said : (lines : List (List ℕ)) (readings : List Placed) → placed c p 1 lines ≡ readings → AreSaid c p (steps_of readings)
  text-said lines readings is = subst (λ (l : List Placed). AreSaid c p (steps_of l)) is (lines-said 1 lines)

  -- a job of a table
  job-said : (call ticks : ℕ) (more : Bool) (rest : List Step) → nat_lt call ticks ≡ more → IsTime call ticks → AreSaid c p rest
      → AreSaid c p ((if more then Step.Work (ticks - call) ∷ Step.Wait ∷ [] else Step.Wait ∷ []) ++ rest)
  job-said call ticks true rest is time said =
      let less : call < ticks = grind (arith, nat_tests) in
      let most : ticks ≤ 1000000 = time.1 in
      ((omega (arith, less), omega (arith, most)), (tt, said))
  job-said call ticks false rest is time said = (tt, said)

  jobs-said : (call : ℕ) (times : List ℕ) → AllByRecursion (IsTime call) times → AreSaid c p (flat_map (job_of call) times)
  jobs-said call [] all = tt
  jobs-said call (ticks ∷ times) all = job-said call ticks (nat_lt call ticks) (flat_map (job_of call) times) refl all.0 (jobs-said call times all.1)

  pub steps-said : (form : Form) (name bytes : List ℕ) → AreSaid c p (steps_of (readings_in c form p name bytes))
  steps-said Form.Text name bytes = text-said _ (readings_of c p bytes) refl
  steps-said Form.Table name bytes =
      subst (λ (l : List Step). AreSaid c p l) (sym (has_jobs c.costs.call name bytes))
      (jobs-said c.costs.call (times_of c.costs.call name bytes) (within c.costs.call name bytes))

pub no-faults : (faults : List ProfileFault) → (length faults == 0) ≡ true → faults ≡ []
no-faults [] is = refl
no-faults (fault ∷ faults) is =
    let much : length (fault ∷ faults) ≡ 0 = grind (arith, nat_tests) in
    absurd (omega (arith, much))
