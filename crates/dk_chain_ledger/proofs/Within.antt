-- Each reaction of a ledger that follows the rules is within the chain's reaction time: its windows are not later than those that
-- the reaction time is worked out from.
use Rattle.std.proofs.Common.{ℕ, suc, ◌≡◌, ◌+◌, ◌-◌, ◌*◌, ◌/◌, ◌<◌, ◌≤◌, inl, inr, true, false, ltb, List, [], ◌∷◌, length, drop, get_or, refl, sym, ap, ◌∙◌, subst, arith, Option, Some, None}
use Rattle.std.specs.Prelude.{option_map, reverse, position}
use Rattle.std.specs.Option.{option_and_then}
use Rattle.std.specs.Int.{◌∣◌}
use Rattle.std.proofs.lemmas.Bool.{cases_Bool, cases_lt}
use Rattle.std.proofs.lemmas.Bool.Decides.{nat_tests}
use Rattle.std.proofs.lemmas.List.{length-reverse, length-drop, length-take-le}
use Rattle.std.proofs.lemmas.List.Quantifiers.{position-Some}
use Rattle.std.proofs.lemmas.Nat.{div-add-mod'}
use Rattle.std.proofs.lemmas.Nat.Gcd.{le_of_dvd}
use Rattle.std.proofs.Math.Nat.{dvd-mul_left, mod-lt, mul-mod_left, suc-mul}
use Rattle.dk_config.specs.Configuration.{Configuration}
use Rattle.dk_config.specs.Ahead.{comes_before}
use Rattle.dk_config.specs.Windows.{main_level}
use Rattle.dk_trace.specs.declared.ThreadId.{ThreadId}
use Rattle.dk_trace.specs.declared.Label.{Label}
use Rattle.dk_trace.specs.declared.Entry.{Entry}
use Rattle.dk_trace.specs.Entries.{is_budget_of, is_of, quiet}
use Rattle.dk_trace.specs.Guarantees.{past_at}
use Rattle.dk_trace.proofs.Mains.{main_id}
use Rattle.dk_bound.specs.Laws.{Always}
use Rattle.dk_chain.specs.Chain.{AreThere, window_length, next_start, free_from}
use Rattle.dk_chain.specs.Chain.{through as promised}
use Rattle.dk_chain.specs.InOrder.{IsOver, IsBefore}
use Rattle.dk_chain.proofs.Rounding.{round-divides, round-above, apart}
use Rattle.dk_chain.proofs.InOrder.{comes-of, begins_in_order, over_in_time}
use Rattle.dk_chain.proofs.Chain.{Knows, comes-divides, first-there, rest-there, starts-later, window-positive}
use Rattle.dk_chain_ledger.specs.declared.jobs.Job.{Job}
use Rattle.dk_chain_ledger.specs.Jobs.{job_in, job_of, over_in, window_of}
use Rattle.dk_chain_ledger.specs.Tables.{has_begun_before, next_window, through}
use Rattle.dk_chain_ledger.specs.Laws.{ReactsWithin}
use Rattle.dk_chain_ledger.proofs.Told.{window_within}
use Rattle.dk_chain_ledger.proofs.Windows.{window-entry}
use Rattle.dk_chain_ledger.proofs.Over.{Ruled, Whole, budget-own, over-by, over-own, begun-by, window_in}

-- a job of the ledger
record IsJob (c : Configuration) (past : List Entry) (p k : ℕ) (j : Job) : Type 0 where
  whole : Whole c past p (k * window_length c p)
  place : ℕ
  first : position (is_budget_of (main_id p)) (window_in c past p (k * window_length c p)) ≡ Some place
  begun : j.begun ≡ k * window_length c p + place
  over : j.over ≡ k * window_length c p + over_in (main_id p) (window_in c past p (k * window_length c p))

some-job : (found : Option ℕ) (f : ℕ → Job) (j : Job) → option_map f found ≡ Some j → (k : ℕ) × (found ≡ Some k) × (f k ≡ j)
some-job None f j is = absurd (cc)
some-job (Some k) f j is = (k, refl, (let e : Some (f k) ≡ Some j = is in cc))

job-is : (c : Configuration) (past : List Entry) (p k : ℕ) (j : Job) → p < length c.processes → job_of c (reverse past) p k ≡ Some j → IsJob c past p k j
job-is c past p k j here is =
    let P = window_length c p in
    let size = length-reverse past in
    elim (cases_lt k (length (reverse past) / P)) [
      | inr beyond ↦
          let test : ltb k (length (reverse past) / P) ≡ false = grind (arith, nat_tests) in
          let none : job_of c (reverse past) p k ≡ None = rw test refl in
          absurd (cc)
      | inl less ↦
          let test : ltb k (length (reverse past) / P) ≡ true = grind (arith, nat_tests) in
          let now : job_of c (reverse past) p k ≡ job_in (main_id p) (window_of (reverse past) P k) (k * P) = rw test refl in
          let found = some-job (position (is_budget_of (main_id p)) (window_in c past p (k * P)))
          (λ (i : ℕ). record { begun = k * P + i; over = k * P + over_in (main_id p) (window_in c past p (k * P)) }) j (sym now ∙ is) in
          let within = window_within (length (reverse past)) P k less in
          record {
            whole = record { here = here; begins = mul-mod_left k P; ends = omega (arith, within, size) };
            place = found.0;
            first = found.1;
            begun = sym (ap (λ (j : Job). j.begun) found.2);
            over = sym (ap (λ (j : Job). j.over) found.2);
          }
    ]

ruled : (c : Configuration) (past : List Entry) (done : ℕ → ℕ) → Knows c past done → Ruled c past
ruled c past done know = record { checked = know.checked; accepted = know.accepted; audited = know.audited }

-- it is over in time
over-time : (c : Configuration) (past : List Entry) (done : ℕ → ℕ) (p k : ℕ) (j : Job) → Knows c past done → IsJob c past p k j
    → j.over ≤ k * window_length c p + done p
over-time c past done p k j know job =
    let s = k * window_length c p in
    let enough = (know.are_done p job.whole.here).0 in
    let within = enough.within in
    let ends = job.whole.ends in
    let over = over_in_time c past know.checked know.accepted know.audited p s (done p) (s + done p) job.whole.here job.whole.begins enough (omega arith) (omega (arith, within, ends)) in
    let by = over-by c past p s (s + done p) (ruled c past done know) job.whole (omega arith) (omega (arith, within)) over in
    let is = job.over in
    omega (arith, by, is)

no-entry : Entry
no-entry = quiet Label.Idle

-- a main whose tick it is is the payer
same-main : (p q : ℕ) (e : Entry) → is_of (main_id p) e ≡ true → is_budget_of (main_id q) e ≡ true → p ≡ q
same-main p q e mine paid = both (main_id p) (main_id q) e mine (budget-own (main_id q) e paid)
  where
    both : (x y : ThreadId) (e : Entry) → is_of x e ≡ true → is_of y e ≡ true → x.process ≡ y.process
    both x y e one other = grind (arith, nat_tests)

whole-size : (c : Configuration) (past : List Entry) (p s : ℕ) → Whole c past p s → length (window_in c past p s) ≡ window_length c p
whole-size c past p s whole =
    let ends = whole.ends in
    let size = length-drop s (reverse past) in
    let turned = length-reverse past in
    length-take-le (window_length c p) (drop s (reverse past)) (omega (arith, ends, size, turned))

free-start : (c : Configuration) (done : ℕ → ℕ) (p q s : ℕ) → s ≤ free_from c done p q s
free-start c done p q s =
    elim (cases_Bool (comes_before c p q)) [
      | inl before ↦ let free : free_from c done p q s ≡ s = rw before refl in omega (arith, free)
      | inr after ↦ let free : free_from c done p q s ≡ s + done p = rw after refl in omega (arith, free)
    ]

free-later : (c : Configuration) (done : ℕ → ℕ) (p q s s' : ℕ) → s ≤ s' → free_from c done p q s ≤ free_from c done p q s'
free-later c done p q s s' le =
    elim (cases_Bool (comes_before c p q)) [
      | inl before ↦
          let free : free_from c done p q s ≡ s = rw before refl in
          let free' : free_from c done p q s' ≡ s' = rw before refl in
          omega (arith, free, free', le)
      | inr after ↦
          let free : free_from c done p q s ≡ s + done p = rw after refl in
          let free' : free_from c done p q s' ≡ s' + done p = rw after refl in
          omega (arith, free, free', le)
    ]

-- no process comes before itself
own-free : (c : Configuration) (done : ℕ → ℕ) (p q s : ℕ) → p < length c.processes → q < length c.processes → p ≡ q
    → free_from c done p q s ≡ s + done p
own-free c done p q s here there same =
    elim (cases_Bool (comes_before c p q)) [
      | inr after ↦ rw after refl
      | inl before ↦
          let comes = comes-of c p q here there before in
          let level = ap (main_level c) same in
          absurd (elim comes.before [ inl faster ↦ omega (arith, level, faster) | inr equal ↦ (let less = equal.1 in omega (arith, same, less)) ])
    ]

-- what is known where a chain goes on from the job j of p in window k to q, and the reaction time counts with the window of p from s'
record IsLink (c : Configuration) (past : List Entry) (done : ℕ → ℕ) (p k q s' : ℕ) (j : Job) : Type 0 where
  know : Knows c past done
  there : q < length c.processes
  job : IsJob c past p k j
  from : k * window_length c p ≤ s'

-- In that window of q no job begins before the job of p is over.
not-begun : (c : Configuration) (past : List Entry) (done : ℕ → ℕ) (p k q s' k0 : ℕ) (j jq : Job) → IsLink c past done p k q s' j → IsJob c past q k0 jq
    → k0 * window_length c q ≡ next_start c q (free_from c done p q s') → jq.begun < j.over → ⊥
not-begun c past done p k q s' k0 j jq link next at early =
    let know = link.know in
    let job = link.job in
    let P = window_length c p in
    let Q = window_length c q in
    let s = k * P in
    let r = k0 * Q in
    let i = next.place in
    let v = r + i + 1 in
    let here = job.whole.here in
    let up : free_from c done p q s' ≤ next_start c q (free_from c done p q s') =
    round-above (free_from c done p q s') Q (window-positive c q know.checked link.there) in
    let start = free-start c done p q s' in
    let later = free-later c done p q s s' link.from in
    let from = link.from in
    let begun = next.begun in
    let over = job.over in
    let own = over-own p (window_in c past p s) job.place no-entry job.first in
    let own_some = own.0 in
    let own_most = own.1 in
    let size = whole-size c past p s job.whole in
    let ends = job.whole.ends in
    let found = position-Some (is_budget_of (main_id q)) (window_in c past q r) i no-entry next.first in
    let size_q = whole-size c past q r next.whole in
    let ends_q = next.whole.ends in
    let short : i < Q = (let less = found.0 in omega (arith, less, size_q)) in
    let paid : is_budget_of (main_id q) (get_or (reverse past) (r + i) no-entry) ≡ true =
    subst (λ e. is_budget_of (main_id q) e ≡ true) (window-entry (reverse past) r Q i no-entry short) found.1 in
    let has = begun-by c past q r i no-entry next.whole.begins short (omega (arith, short, ends_q)) paid in
    let before : IsBefore c past p s q r =
    begins_in_order c past know.checked know.accepted know.audited p s q r here link.there job.whole.begins next.whole.begins
    (starts-later c done p q s r know.checked know.are_done here link.there job.whole.begins next.whole.begins (omega (arith, later, up, at))) in
    let over_then : IsOver c (past_at past v) p s = before v (omega (arith, short, ends_q)) has in
    let by = over-by c past p s v (ruled c past done know) job.whole (omega (arith, from, start, up, at)) (omega (arith, begun, early, over, own_most, size)) over_then in
    let last : s + (over_in (main_id p) (window_in c past p s) - 1) ≡ r + i = omega (arith, by, begun, early, over, own_some) in
    let mine : is_of (main_id p) (get_or (reverse past) (r + i) no-entry) ≡ true =
    subst (λ n. is_of (main_id p) (get_or (reverse past) n no-entry) ≡ true) last
    (subst (λ e. is_of (main_id p) e ≡ true)
    (window-entry (reverse past) s P (over_in (main_id p) (window_in c past p s) - 1) no-entry (omega (arith, own_some, own_most, size))) own.2) in
    let same = same-main p q (get_or (reverse past) (r + i) no-entry) mine paid in
    let free = own-free c done p q s' here link.there same in
    let in_time = over-time c past done p k j know job in
    omega (arith, in_time, free, up, at, begun, early, from)

begun-job : (job : Option Job) (o : ℕ) → has_begun_before o job ≡ true → (j : Job) × (job ≡ Some j) × (j.begun < o)
begun-job None o h = absurd (cc)
begun-job (Some j) o h = (j, refl, (let t : ltb j.begun o ≡ true = h in grind (arith, nat_tests)))

-- how far the window goes in which the reaction time counts with the job of q
record IsReached (c : Configuration) (done : ℕ → ℕ) (p q s' o : ℕ) : Type 0 where
  late : s' ≤ next_start c q (free_from c done p q s')
  reach : o ≤ next_start c q (free_from c done p q s') + window_length c q

reached : (c : Configuration) (past : List Entry) (done : ℕ → ℕ) (p k q s' : ℕ) (j : Job) → IsLink c past done p k q s' j → j.over ≤ k * window_length c p + window_length c p
    → IsReached c done p q s' j.over
reached c past done p k q s' j link short =
    let know = link.know in
    let here = link.job.whole.here in
    let from = link.from in
    let positive = window-positive c q know.checked link.there in
    let up = round-above (free_from c done p q s') (window_length c q) positive in
    let start = free-start c done p q s' in
    let in_time = over-time c past done p k j know link.job in
    record {
      late = omega (arith, up, start);
      reach = elim (cases_Bool (comes_before c p q)) [
        | inl before ↦
            let longer = le_of_dvd positive (comes-divides c p q know.checked (comes-of c p q here link.there before)) in
            omega (arith, up, start, short, from, longer)
        | inr after ↦
            let free : free_from c done p q s' ≡ s' + done p = rw after refl in
            omega (arith, up, free, in_time, from)
      ];
    }

-- The window of the next job isn't later than the one that the reaction time counts with.
next-within : (c : Configuration) (past : List Entry) (done : ℕ → ℕ) (p k q s' : ℕ) (j : Job) → IsLink c past done p k q s' j
    → next_window (job_of c (reverse past) q) (window_length c q) j.over * window_length c q ≤ next_start c q (free_from c done p q s')
next-within c past done p k q s' j link =
    let know = link.know in
    let job = link.job in
    let P = window_length c p in
    let Q = window_length c q in
    let s = k * P in
    let o = j.over in
    let k0 = (o - 1) / Q in
    let r = next_start c q (free_from c done p q s') in
    let positive : 0 < Q = window-positive c q know.checked link.there in
    let own = over-own p (window_in c past p s) job.place no-entry job.first in
    let own_some = own.0 in
    let own_most = own.1 in
    let over = job.over in
    let size = whole-size c past p s job.whole in
    let some : 0 < o = omega (arith, over, own_some) in
    let far = reached c past done p k q s' j link (omega (arith, over, own_most, size)) in
    let reach = far.reach in
    let split = div-add-mod' (o - 1) Q in
    let rest = mod-lt (o - 1) positive in
    let whole_r : Q ∣ r = round-divides (free_from c done p q s') Q in
    let low : k0 * Q ≤ r = (elim (cases_lt r (k0 * Q)) [
      | inr fine ↦ fine
      | inl below ↦ (let off = apart Q r (k0 * Q) whole_r (dvd-mul_left Q k0) below in absurd (omega (arith, off, reach, split, some)))
    ]) in
    elim (cases_Bool (has_begun_before o (job_of c (reverse past) q k0))) [
      | inr free ↦ let at : next_window (job_of c (reverse past) q) Q o ≡ k0 = rw free refl in subst (λ (n : ℕ). n * Q ≤ r) (sym at) low
      | inl begun ↦
          let at : next_window (job_of c (reverse past) q) Q o ≡ k0 + 1 = rw begun refl in
          let plus : k0 + 1 ≡ suc k0 = omega arith in
          let step : (k0 + 1) * Q ≡ k0 * Q + Q = ap (λ (n : ℕ). n * Q) plus ∙ suc-mul k0 Q in
          elim (cases_lt (k0 * Q) r) [
            | inl above ↦
                let off = apart Q (k0 * Q) r (dvd-mul_left Q k0) whole_r above in
                subst (λ (n : ℕ). n * Q ≤ r) (sym at) (omega (arith, off, step))
            | inr same ↦
                let found = begun-job (job_of c (reverse past) q k0) o begun in
                absurd (not-begun c past done p k q s' k0 j found.0 link (job-is c past q k0 found.0 link.there found.1) (omega (arith, low, same)) found.2)
          ]
    ]

then-some : {X : Type 0} (x : Option X) (f : X → Option ℕ) (end : ℕ) → option_and_then f x ≡ Some end → (y : X) × (x ≡ Some y) × (f y ≡ Some end)
then-some None f end h = absurd (cc)
then-some (Some y) f end h = (y, refl, h)

over-end : (x : Option Job) (end : ℕ) → option_map (λ (j : Job). j.over) x ≡ Some end → (j : Job) × (x ≡ Some j) × (j.over ≡ end)
over-end None end h = absurd (cc)
over-end (Some j) end h = (j, refl, (let e : Some j.over ≡ Some end = h in cc))

-- the chain is through by the tick that it promises
chain-within : (c : Configuration) (past : List Entry) (done : ℕ → ℕ) (p k s' end : ℕ) (rest : List ℕ) → Knows c past done → p < length c.processes → AreThere c rest
    → k * window_length c p ≤ s' → through c (reverse past) p k rest ≡ Some end → end ≤ promised c done p s' rest
chain-within c past done p k s' end [] know here there from is =
    let found = over-end (job_of c (reverse past) p k) end is in
    let in_time = over-time c past done p k found.0 know (job-is c past p k found.0 here found.1) in
    let same = found.2 in
    omega (arith, in_time, same, from)
chain-within c past done p k s' end (q ∷ rest) know here there from is =
    let next = first-there c q rest there in
    let found = then-some (job_of c (reverse past) p k)
    (λ (j : Job). through c (reverse past) q (next_window (job_of c (reverse past) q) (window_length c q) j.over) rest) end is in
    let link : IsLink c past done p k q s' found.0 = record { know = know; there = next; job = job-is c past p k found.0 here found.1; from = from } in
    chain-within c past done q (next_window (job_of c (reverse past) q) (window_length c q) found.0.over) (next_start c q (free_from c done p q s')) end rest
    know next (rest-there c q rest there) (next-within c past done p k q s' found.0 link) found.2

some-after : (found : Option ℕ) (t d : ℕ) → option_map (λ end. end - t) found ≡ Some d → (end : ℕ) × (found ≡ Some end) × (end - t ≡ d)
some-after None t d h = absurd (cc)
some-after (Some end) t d h = (end, refl, (let e : Some (end - t) ≡ Some d = h in cc))

pub reacts_within : Always ReactsWithin
reacts_within c past checked accepted audited done p rest reaction t d are_done there is has =
    let know : Knows c past done = record { checked = checked; accepted = accepted; audited = audited; are_done = are_done } in
    let here = first-there c p rest there in
    let k = (t + (window_length c p - 1)) / window_length c p in
    let found = some-after (through c (reverse past) p k rest) t d has in
    let within = chain-within c past done p k (next_start c p t) found.0 rest know here (rest-there c p rest there) (omega arith) found.1 in
    let most = is.enough t in
    let same = found.2 in
    omega (arith, within, most, same)
