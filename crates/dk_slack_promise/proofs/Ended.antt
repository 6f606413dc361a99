-- A window that has ended: the entry of its last tick, over its past.
use Rattle.dk_slack_promise.proofs.Names.{ℕ, suc, ◌≡◌, ◌+◌, ◌-◌, ◌%◌, ◌<◌, ◌≤◌, Bool, List, [], ◌∷◌, length, refl, sym, ap, ◌∙◌, arith, inl, inr, cases_lt, count_by, Configuration, period, window_start, Entry, window, Audited, past_at}
use Rattle.std.specs.Prelude.{take}
use Rattle.std.proofs.lemmas.List.{length-drop}
use Rattle.dk_bound.proofs.ByWhen.{audited-drop}
use Rattle.dk_bound.proofs.Bounded.{past_at-later, window-start}
use Rattle.dk_bound.proofs.Received.{past_at-earlier}
use Rattle.dk_slack_promise.specs.Long.{counted_from}

pub record Ended (c : Configuration) (past : List Entry) (i s : ℕ) : Type 0 where
  pub last : Entry
  pub before : List Entry
  pub is : past_at past (s + period c i) ≡ last ∷ before
  pub size : suc (length before) ≡ s + period c i
  pub start : window_start c i (length before) ≡ s
  pub audited : Audited c (last ∷ before)

pub ended : (c : Configuration) (past : List Entry) (i s : ℕ) → 0 < period c i → Audited c past → s % period c i ≡ 0 → s + period c i ≤ length past → Ended c past i s
ended c past i s positive audited begins le =
    let k = length past - (s + period c i) in
    let audited' = audited-drop c k past audited in
    let size : length (past_at past (s + period c i)) ≡ s + period c i = length-drop k past ∙ omega arith in
    go (past_at past (s + period c i)) refl size audited'
  where
    go : (q : List Entry) → past_at past (s + period c i) ≡ q → length q ≡ s + period c i → Audited c q → Ended c past i s
    go [] is size fine = absurd (omega arith)
    go (e ∷ p) is size fine =
        let same = window-start c i s (length p) begins (omega arith) (omega arith) in
        let own : window_start c i s ≡ s = rw begins (omega arith) in
        record { last = e; before = p; is = is; size = size; start = same ∙ own; audited = fine }

-- what is counted of it is counted of its last tick's window
pub counted-ended : (test : Entry → Bool) (c : Configuration) (past : List Entry) (i s : ℕ) → s % period c i ≡ 0 → (w : Ended c past i s)
    → counted_from test c past i s ≡ count_by test (window c (length w.before) (w.last ∷ w.before) i)
counted-ended test c past i s begins w =
    let own : window_start c i s ≡ s = rw begins (omega arith) in
    let start : window_start c i s ≡ window_start c i (length w.before) = own ∙ sym w.start in
    ap (λ q. count_by test (window c s q i)) w.is ∙ ap (λ (a : ℕ). count_by test (take (suc (length w.before) - a) (w.last ∷ w.before))) start

-- an earlier past of an earlier past is one of the whole
pub past-twice : (past : List Entry) (v u : ℕ) → u ≤ v → past_at (past_at past v) u ≡ past_at past u
past-twice [] v u low = ap (λ q. past_at q u) (past_at-later [] v (omega arith))
past-twice (e ∷ past) v u low =
    elim (cases_lt (length past) v) [
      | inl late ↦ ap (λ q. past_at q u) (past_at-later (e ∷ past) v (omega arith))
      | inr early ↦
          ap (λ q. past_at q u) (past_at-earlier e past v (omega arith)) ∙ past-twice past v u low ∙ sym (past_at-earlier e past u (omega arith))
    ]
