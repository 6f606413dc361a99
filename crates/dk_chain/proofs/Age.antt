-- How old the data is that a job stands on: for each window of the last process there is a chain that comes to it.
use Rattle.dk_chain.proofs.Names.{ℕ, zero, suc, ◌≡◌, ◌+◌, ◌%◌, ◌<◌, ◌≤◌, List, [], ◌∷◌, length, refl, arith, dvd_of_mod-eq-zero, mod-eq-zero_of_dvd, dvd-zero, Configuration, IsChecked, Entry, Always, AreThere, window_length, next_start, free_from, through, last_of, ComesTo, AgesInTime, nat_tests}
use Rattle.dk_chain.proofs.Rounding.{round-divides, round-above, round-whole, apart}
use Rattle.dk_chain.proofs.InOrder.{begins_in_order}
use Rattle.dk_chain.proofs.Chain.{Knows, window-positive, first-there, rest-there, starts-later}

-- the window of the last process to which the windows of a chain lead
abbrev pub final : Configuration → (ℕ → ℕ) → ℕ → ℕ → List ℕ → ℕ
final c done p s [] = s
final c done p s (q ∷ rest) = final c done q (next_start c q (free_from c done p q s)) rest

pub through-final : (c : Configuration) (done : ℕ → ℕ) (p s : ℕ) (rest : List ℕ) → through c done p s rest ≡ final c done p s rest + done (last_of p rest)
through-final c done p s [] = refl
through-final c done p s (q ∷ rest) = through-final c done q (next_start c q (free_from c done p q s)) rest

free-above : (c : Configuration) (done : ℕ → ℕ) (p q s : ℕ) → s ≤ free_from c done p q s
free-above c done p q s = grind (arith, nat_tests)

final-above : (c : Configuration) (done : ℕ → ℕ) (p s : ℕ) (rest : List ℕ) → IsChecked c → AreThere c rest → s ≤ final c done p s rest
final-above c done p s [] checked there = omega arith
final-above c done p s (q ∷ rest) checked there =
    let here = first-there c q rest there in
    let free = free-above c done p q s in
    let up = round-above (free_from c done p q s) (window_length c q) (window-positive c q checked here) in
    let more = final-above c done q (next_start c q (free_from c done p q s)) rest checked (rest-there c q rest there) in
    omega (arith, free, up, more)

pub final-starts : (c : Configuration) (done : ℕ → ℕ) (p s : ℕ) (rest : List ℕ) → s % window_length c p ≡ 0 → final c done p s rest % window_length c (last_of p rest) ≡ 0
final-starts c done p s [] begins = begins
final-starts c done p s (q ∷ rest) begins = grind (arith, nat_tests, mod-eq-zero_of_dvd, round-divides, final-starts c done q (next_start c q (free_from c done p q s)) rest)

-- the last place at which a count is not yet above u
largest : (g : ℕ → ℕ) (u n : ℕ) → g 0 ≤ u → u < g n → (t : ℕ) × (g t ≤ u) × (u < g (suc t))
largest g u zero low high = absurd (omega (arith, low, high))
largest g u (suc n) low high = grind (arith, nat_tests, largest g u n low)

-- a chain that leads to a window not after u comes to u too
comes-on : (c : Configuration) (past : List Entry) (done : ℕ → ℕ) (p s q u : ℕ) (rest : List ℕ) → Knows c past done → p < length c.processes → AreThere c (q ∷ rest)
    → s % window_length c p ≡ 0 → u % window_length c (last_of q rest) ≡ 0 → final c done p s (q ∷ rest) ≤ u → ComesTo c past p s (q ∷ rest) u
comes-on c past done p s q u [] know here there begins starts low =
    let next = first-there c q [] there in
    let from : free_from c done p q s ≤ u = (let up = round-above (free_from c done p q s) (window_length c q) (window-positive c q know.checked next) in omega (arith, up, low)) in (
      u,
      starts,
      begins_in_order c past know.checked know.accepted know.audited p s q u here next begins starts (starts-later c done p q s u know.checked know.are_done here next begins starts from),
      refl,
    )
comes-on c past done p s q u (q' ∷ rest) know here there begins starts low =
    let next = first-there c q (q' ∷ rest) there in
    let r = next_start c q (free_from c done p q s) in
    let begins' : r % window_length c q ≡ 0 = mod-eq-zero_of_dvd (window_length c q) (round-divides (free_from c done p q s) (window_length c q)) in
    let from = round-above (free_from c done p q s) (window_length c q) (window-positive c q know.checked next) in (
      r,
      begins',
      begins_in_order c past know.checked know.accepted know.audited p s q r here next begins begins' (starts-later c done p q s r know.checked know.are_done here next begins begins' from),
      comes-on c past done q r q' u rest know next (rest-there c q (q' ∷ rest) there) begins' starts low,
    )

abbrev led : Configuration → (ℕ → ℕ) → ℕ → List ℕ → ℕ → ℕ
led c done p rest t = final c done p (next_start c p t) rest

pub ages_in_time : Always AgesInTime
ages_in_time c past checked accepted audited done p [] reaction age u are_done there is old starts early =
    let here = first-there c p [] there in
    let positive = window-positive c p checked here in
    let up = round-above (suc u) (window_length c p) positive in
    let far = apart (window_length c p) u (next_start c p (suc u)) (dvd_of_mod-eq-zero (window_length c p) starts) (round-divides (suc u) (window_length c p)) (omega (arith, up)) in
    let most = is.enough (suc u) in
    (u, starts, refl, omega (arith, far, most, old))
ages_in_time c past checked accepted audited done p (q ∷ rest) reaction age u are_done there is old starts early =
    let here = first-there c p (q ∷ rest) there in
    let tail = rest-there c p (q ∷ rest) there in
    let l = last_of q rest in
    let know : Knows c past done = record { checked = checked; accepted = accepted; audited = audited; are_done = are_done } in
    let positive = window-positive c p checked here in
    let zero_start : next_start c p 0 ≡ 0 = round-whole 0 (window_length c p) positive (dvd-zero (window_length c p)) in
    let first : led c done p (q ∷ rest) 0 ≤ u = grind (arith, nat_tests, through-final) in
    let over : u < led c done p (q ∷ rest) (suc u) =
    (let up = round-above (suc u) (window_length c p) positive in let more = final-above c done p (next_start c p (suc u)) (q ∷ rest) checked tail in omega (arith, up, more)) in
    let found = largest (led c done p (q ∷ rest)) u (suc u) first over in
    let t = found.0 in
    let s = next_start c p t in
    let begins : s % window_length c p ≡ 0 = mod-eq-zero_of_dvd (window_length c p) (round-divides t (window_length c p)) in
    let begins' : next_start c p (suc t) % window_length c p ≡ 0 = mod-eq-zero_of_dvd (window_length c p) (round-divides (suc t) (window_length c p)) in
    let above : t ≤ s = round-above t (window_length c p) positive in
    let whole = final-starts c done p (next_start c p (suc t)) (q ∷ rest) begins' in
    let far : u + window_length c l ≤ led c done p (q ∷ rest) (suc t) =
    apart (window_length c l) u (led c done p (q ∷ rest) (suc t)) (dvd_of_mod-eq-zero (window_length c l) starts) (dvd_of_mod-eq-zero (window_length c l) whole) found.2 in
    let most = is.enough (suc t) in
    let split = through-final c done p (next_start c p (suc t)) (q ∷ rest) in
    (s, begins, comes-on c past done p s q u rest know here tail begins starts found.1, omega (arith, far, most, split, above, old))
