-- The windows of a run are those of the jobs, and their parts are the whole of each.
use Rattle.std.proofs.Common.{◌≡◌, ◌∙◌, refl, ap, sym, inl, inr, ◌<◌, ◌≤◌, ◌+◌, ◌-◌, ◌*◌, ◌/◌, ℕ, zero, suc, List, [], ◌∷◌, ◌++◌, length, length-append, append_assoc, take, arith, Some}
use Rattle.std.specs.Prelude.{flat_map, nat_le, replicate, slice_get, sum_by}
use Rattle.std.proofs.Math.Nat.{div-add-mod, mod-lt}
use Rattle.std.proofs.Math.Seq.{take-add}
use Rattle.std.proofs.lemmas.Bool.{cases_Bool}
use Rattle.std.proofs.lemmas.Bool.Decides.{nat_tests}
use Rattle.std.proofs.lemmas.Grind.{flat_map-append}
use Rattle.std.proofs.lemmas.List.{length-replicate, take_all}
use Rattle.std.proofs.lemmas.List.Sums.{sum_by_push}
use Rattle.dk_config.specs.Configuration.{Configuration}
use Rattle.dk_trace.specs.declared.Label.{Label}
use Rattle.dk_trace.specs.declared.Event.{Event}
use Rattle.dk_trace.specs.declared.Entry.{Entry}
use Rattle.dk_trace.specs.Entries.{quiet}
use Rattle.dk_trace.proofs.Mains.{main_id}
use Rattle.dk_profile.specs.Faults.{body}
use Rattle.dk_profile.specs.declared.steps.Step.{Step}
use Rattle.dk_profile.specs.declared.steps.Step.TheVariants as kind
use Rattle.dk_profile.specs.Steps.{step_ticks}
use Rattle.dk_replay_run.specs.Profiles.{IsGrantedIn, call_entries, job_entries, job_in_turn, job_ticks, part_of, parts_up_to, step_entries, whole_job, windows_of, work_entries}
use Rattle.dk_replay_run.specs.Laws.{LocksInTheirTicks, PartsAreWhole, WindowsAreParts}
use Rattle.dk_replay_run.proofs.InTurn.{steps-long}
use Rattle.dk_replay_run.proofs.Moves.{last_tick}

pub windows-are : WindowsAreParts
windows-are c p zero jobs = (0, 0, omega arith, refl)
windows-are c p (suc n) jobs =
    let before = windows-are c p n jobs in
    let k : ℕ = before.0 in
    let j : ℕ = before.1 in
    let few = before.2 in
    let is = before.3 in
    elim (cases_Bool (nat_le (suc (suc j)) (windows_of c p (job_in_turn jobs k)))) [
      | inl more ↦ (k, suc j, grind (arith, nat_tests), omega (arith, is))
      | inr not ↦
          let most : windows_of c p (job_in_turn jobs k) < suc (suc j) = grind (arith, nat_tests) in
          (suc k, 0, omega arith, omega (arith, most, few, is))
    ]

next-of : (j n : ℕ) → j * n + n ≡ suc j * n
next-of j n = grind arith

parts-taken : (c : Configuration) (p : ℕ) (job : List Step) (j : ℕ) → parts_up_to c p job j ≡ take (j * body c p) (job_entries c p job)
parts-taken c p job zero = let none : 0 * body c p ≡ 0 = omega arith in sym (ap (λ n. take n (job_entries c p job)) none)
parts-taken c p job (suc j) =
    ap (λ (es : List Entry). es ++ part_of c p job j) (parts-taken c p job j)
    ∙ sym (take-add (j * body c p) (body c p) (job_entries c p job))
    ∙ ap (λ n. take n (job_entries c p job)) (next-of j (body c p))

-- as many windows have room for all
room : (n C : ℕ) → 0 < C → n ≤ ((n - 1) / C + 1) * C
room n C some =
    let parts = div-add-mod (n - 1) C in
    let less = mod-lt (n - 1) some in
    let split : ((n - 1) / C + 1) * C ≡ C * ((n - 1) / C) + C = grind arith in
    omega (arith, parts, less, split)

pub parts-whole : PartsAreWhole
parts-whole c p job cost some =
    let long : length (job_entries c p job) ≡ job_ticks c job = steps-long c.costs.call p (whole_job job) cost in
    let much = room (job_ticks c job) (body c p) some in
    parts-taken c p job (windows_of c p job) ∙ take_all (windows_of c p job * body c p) (job_entries c p job) (omega (arith, long, much))

-- the element behind some
seam : (front back : List Entry) (e : Entry) (n : ℕ) → length front ≡ n → slice_get (front ++ e ∷ back) n ≡ Some e
seam [] back e zero is = refl
seam [] back e (suc n) is = absurd (omega (arith, is))
seam (f ∷ front) back e zero is = absurd (omega (arith, is))
seam (f ∷ front) back e (suc n) is = seam front back e n (omega (arith, is))

granted-there : (c : Configuration) (p : ℕ) (front back : List Step) (s : Step) (event : Event) → 0 < c.costs.call
    → step_entries c.costs.call p s ≡ work_entries p 1 ++ call_entries c.costs.call p event → step_ticks c.costs.call s ≡ 1 + c.costs.call
    → IsGrantedIn c p (front ++ s ∷ back) (sum_by (step_ticks c.costs.call) (front ++ s ∷ [])) event
granted-there c p front back s event cost is takes =
    let K : ℕ = c.costs.call in
    let F : List Entry = flat_map (step_entries K p) front in
    let rest : List Entry = flat_map (step_entries K p) (back ++ kind.Wait ∷ []) in
    let q : Entry = quiet (Label.Run (main_id p)) in
    let calls : List Entry = replicate (K - 1) (quiet (Label.Call (main_id p))) in
    let last : Entry = last_tick p event in
    let whole : job_entries c p (front ++ s ∷ back) ≡ (F ++ (q ∷ calls)) ++ last ∷ rest =
    ap (λ (l : List Step). flat_map (step_entries K p) l) (append_assoc front (s ∷ back) (kind.Wait ∷ []))
    ∙ flat_map-append (step_entries K p) front (s ∷ (back ++ kind.Wait ∷ []))
    ∙ ap (λ (t : List Entry). F ++ (t ++ rest)) is
    ∙ ap (λ (t : List Entry). F ++ (q ∷ t)) (append_assoc calls (last ∷ []) rest)
    ∙ sym (append_assoc F (q ∷ calls) (last ∷ rest)) in
    let n : ℕ = sum_by (step_ticks K) (front ++ s ∷ []) - 1 in
    let place : length (F ++ (q ∷ calls)) ≡ n =
    omega (arith, cost, takes, length-append F (q ∷ calls), length-replicate (K - 1) (quiet (Label.Call (main_id p))), steps-long K p front cost, sum_by_push (step_ticks K) front s) in
    ap (λ (t : List Entry). slice_get t n) whole ∙ seam (F ++ (q ∷ calls)) rest last n place

pub locks-there : LocksInTheirTicks
locks-there c p m front back cost =
    (granted-there c p front back (kind.Lock m) (Event.Lock m) cost refl refl, granted-there c p front back (kind.Unlock m) (Event.Unlock m) cost refl refl)
