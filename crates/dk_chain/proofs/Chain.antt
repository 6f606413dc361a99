-- Each event is answered in time: the windows that the reaction time is worked out from are such a chain.
use Rattle.dk_chain.proofs.Names.{ℕ, suc, ◌≡◌, ◌+◌, ◌%◌, ◌<◌, ◌≤◌, inl, inr, List, [], ◌∷◌, length, refl, arith, ◌∣◌, cases_Bool, cases_lt, dvd_of_mod-eq-zero, mod-eq-zero_of_dvd, dvd_trans, Configuration, IsChecked, IsAccepted, comes_before, IsEnough, main_level, budget, Entry, Audited, Always, StartsLater, AreDone, AreThere, window_length, next_start, free_from, through, GoesOn, ReactsInTime, nat_tests}
use Rattle.dk_chain.proofs.Rounding.{round-divides, round-above, apart}
use Rattle.dk_chain.proofs.InOrder.{Comes, comes-of, begins_in_order, over_in_time}

pub first-there : (c : Configuration) (p : ℕ) (rest : List ℕ) → AreThere c (p ∷ rest) → p < length c.processes
first-there c p rest there = there 0 p (omega arith)

pub rest-there : (c : Configuration) (p : ℕ) (rest : List ℕ) → AreThere c (p ∷ rest) → AreThere c rest
rest-there c p rest there = λ k d less. there (suc k) d (omega (arith, less))

pub record Knows (c : Configuration) (past : List Entry) (done : ℕ → ℕ) : Type 0 where
  pub checked : IsChecked c
  pub accepted : IsAccepted c
  pub audited : Audited c past
  pub are_done : AreDone c done

pub window-positive : (c : Configuration) (p : ℕ) → IsChecked c → p < length c.processes → 0 < window_length c p
window-positive c p checked here = checked.positive (main_level c p) (checked.levels p here)

-- the whole window is enough
whole-enough : (c : Configuration) (p : ℕ) → IsEnough c p (budget c p) (window_length c p)
whole-enough c p = record { within = omega arith; room = inl refl }

pub comes-divides : (c : Configuration) (p q : ℕ) → IsChecked c → Comes c p q → window_length c p ∣ window_length c q
comes-divides c p q checked comes =
    let order : main_level c p ≤ main_level c q = (elim comes.before [ inl faster ↦ omega arith | inr same ↦ (let equal = same.0 in omega arith) ]) in
    checked.divides (main_level c p) (main_level c q) order (checked.levels q comes.second)

pub starts-later : (c : Configuration) (done : ℕ → ℕ) (p q s r : ℕ) → IsChecked c → AreDone c done → p < length c.processes → q < length c.processes
    → s % window_length c p ≡ 0 → r % window_length c q ≡ 0 → free_from c done p q s ≤ r → StartsLater c p s q r
starts-later c done p q s r checked are_done here there begins starts above =
    elim (cases_Bool (comes_before c p q)) [
      | inr after ↦ grind (arith, nat_tests)
      | inl before ↦
          let from : free_from c done p q s ≡ s = rw before refl in
          let comes = comes-of c p q here there before in
          let whole : window_length c p ∣ r = dvd_trans (window_length c p) (comes-divides c p q checked comes) (dvd_of_mod-eq-zero (window_length c q) starts) in
          elim (cases_lt s r) [
            | inr same ↦ inl (before, omega (arith, same, above, from))
            | inl more ↦ inr (window_length c p, whole-enough c p, apart (window_length c p) s r (dvd_of_mod-eq-zero (window_length c p) begins) whole more)
          ]
    ]

goes-on : (c : Configuration) (past : List Entry) (done : ℕ → ℕ) (p s end : ℕ) (rest : List ℕ) → Knows c past done → p < length c.processes → AreThere c rest
    → s % window_length c p ≡ 0 → through c done p s rest ≤ end → end ≤ length past → GoesOn c past end p s rest
goes-on c past done p s end [] know here there begins by known =
    over_in_time c past know.checked know.accepted know.audited p s (done p) end here begins (know.are_done p here).0 by known
goes-on c past done p s end (q ∷ rest) know here there begins by known =
    let r = next_start c q (free_from c done p q s) in
    let next : q < length c.processes = first-there c q rest there in
    let starts : r % window_length c q ≡ 0 = mod-eq-zero_of_dvd (window_length c q) (round-divides (free_from c done p q s) (window_length c q)) in (
      r,
      starts,
      begins_in_order c past know.checked know.accepted know.audited p s q r here next begins starts
          (starts-later c done p q s r know.checked know.are_done here next begins starts (round-above (free_from c done p q s) (window_length c q) (window-positive c q know.checked next))),
      goes-on c past done q r end rest know next (rest-there c q rest there) starts by known,
    )

pub reacts_in_time : Always ReactsInTime
reacts_in_time c past checked accepted audited done [] reaction t are_done there is known = tt
reacts_in_time c past checked accepted audited done (p ∷ rest) reaction t are_done there is known =
    let here : p < length c.processes = first-there c p rest there in
    let s = next_start c p t in
    let starts : s % window_length c p ≡ 0 = mod-eq-zero_of_dvd (window_length c p) (round-divides t (window_length c p)) in (
      s,
      round-above t (window_length c p) (window-positive c p checked here),
      starts,
      goes-on c past done p s (t + reaction) rest (record { checked = checked; accepted = accepted; audited = audited; are_done = are_done }) here
          (rest-there c p rest there) starts (is.enough t) known,
    )
