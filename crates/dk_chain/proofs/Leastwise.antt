-- A job that has not begun at a tick has had no more ticks by a later one than lie between them.
use Rattle.dk_chain.proofs.Names.{ℕ, suc, ◌≡◌, ◌+◌, ◌-◌, ◌%◌, ◌≤◌, inl, inr, List, [], ◌∷◌, length, drop, ap, ◌∙◌, arith, cases_lt, length-drop, Configuration, period, main_level, budget, Entry, is_budget_of, past_at, main_id, Always}
use Rattle.std.specs.Prelude.{sum_by}
use Rattle.std.proofs.lemmas.List.Sums.{sum_by-cons}
use Rattle.dk_trace.proofs.Starts.{one_or_none}
use Rattle.dk_bound.proofs.Bounded.{past_at-later}
use Rattle.dk_chain.specs.Chain.{window_length}
use Rattle.dk_chain.specs.Sooner.{IsUnbegun}
use Rattle.dk_chain.specs.Least.{HasWhole, GoesThrough, TakesAtLeast}
use Rattle.dk_chain.proofs.InOrder.{unbegun-start, used-from, past_at-twice}
use Rattle.dk_chain.proofs.Soonest.{had, not-mine}

-- one more tick, one more of the main's at most
had-next : (c : Configuration) (p s : ℕ) (e : Entry) (past : List Entry) → s % period c (main_level c p) ≡ 0 → had c p s (e ∷ past) ≤ suc (had c p s past)
had-next c p s e past begins =
    elim (cases_lt (length past) s) [
      | inl new ↦ let none = unbegun-start c p s (e ∷ past) begins (omega arith) in omega (arith, none)
      | inr old ↦
          elim (cases_lt (length past) (s + period c (main_level c p))) [
            | inl within ↦ let next = used-from c p s e past old (omega arith) in let one = one_or_none (is_budget_of (main_id p) e) in omega (arith, next, one)
            | inr late ↦ let same = not-mine c p s e past late in omega (arith, same)
          ]
    ]

-- from tick u to the end of the list
had-since : (c : Configuration) (p s u : ℕ) (past : List Entry) → s % period c (main_level c p) ≡ 0 → u ≤ length past
    → had c p s past ≤ had c p s (past_at past u) + (length past - u)
had-since c p s u [] begins le = let now = past_at-later [] u (omega arith) in let same : had c p s (past_at [] u) ≡ had c p s [] = ap (had c p s) now in omega (arith, same)
had-since c p s u (e ∷ past) begins le =
    elim (cases_lt (length past) u) [
      | inl new ↦ let now = past_at-later (e ∷ past) u (omega arith) in let same : had c p s (past_at (e ∷ past) u) ≡ had c p s (e ∷ past) = ap (had c p s) now in omega (arith, same)
      | inr old ↦
          let before = had-since c p s u past begins old in
          let one = had-next c p s e past begins in
          let gone : suc (length past) - u ≡ suc (length past - u) = omega arith in
          let same : had c p s (past_at (e ∷ past) u) ≡ had c p s (past_at past u) = ap (λ k. had c p s (drop k (e ∷ past))) gone in
          omega (arith, before, one, same)
    ]

-- one job
job-takes : (c : Configuration) (past : List Entry) (p s u v : ℕ) → s % period c (main_level c p) ≡ 0 → u ≤ v → v ≤ length past → IsUnbegun c past u p s → HasWhole c past v p s
    → u + budget c p ≤ v
job-takes c past p s u v begins le known unbegun whole =
    let early = past_at past v in
    let size : length early ≡ v = length-drop (length past - v) past ∙ omega arith in
    let sum = had-since c p s u early begins (omega (arith, size)) in
    let same : had c p s (past_at early u) ≡ had c p s (past_at past u) = ap (had c p s) (past_at-twice past u v le known) in
    elim (cases_lt 0 (had c p s (past_at past u))) [
      | inl some ↦ absurd (unbegun some)
      | inr none ↦ omega (arith, sum, size, same, none, whole)
    ]

takes : (c : Configuration) (past : List Entry) (rest : List ℕ) (end u p s : ℕ) → end ≤ length past → s % window_length c p ≡ 0 → GoesThrough c past end u p s rest
    → u + sum_by (budget c) (p ∷ rest) ≤ end
takes c past [] end u p s known begins through =
    let one = job-takes c past p s u end begins through.0 known through.1 through.2 in
    let sum = sum_by-cons (budget c) p [] in
    omega (arith, one, sum)
takes c past (q ∷ rest) end u p s known begins through =
    let v = through.0 in
    let later = takes c past rest end v q through.4 known through.5 through.6 in
    let more = sum_by-cons (budget c) q rest in
    let one = job-takes c past p s u v begins through.1 (omega (arith, later, known)) through.2 through.3 in
    let sum = sum_by-cons (budget c) p (q ∷ rest) in
    omega (arith, one, later, sum)

pub takes_at_least : Always TakesAtLeast
takes_at_least c past checked accepted audited end u p s rest known begins through = takes c past rest end u p s known begins through
