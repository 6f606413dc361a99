-- No smaller age is enough: the data is as old as is told at the window before the one that answers the worst event.
use Rattle.dk_chain.proofs.Names.{ℕ, ◌≡◌, ◌+◌, ◌-◌, ◌%◌, ◌<◌, ◌≤◌, inl, inr, List, ◌∷◌, ap, arith, cases_lt, dvd_of_mod-eq-zero, mod-eq-zero_of_dvd, dvd_refl, dvd-zero, dvd-sub, Configuration, IsChecked, period, main_level, Course, IsAge, IsMet, last_of, AreDone, AreThere, IsReaction, window_length, next_start, through, answered, IsCourse, round_up, nat_tests}
use Rattle.dk_chain.proofs.Age.{final, through-final, final-starts}
use Rattle.dk_chain.proofs.Chain.{first-there, window-positive}
use Rattle.dk_chain.proofs.Paced.{shape}
use Rattle.dk_chain.proofs.Rounding.{round-above, round-divides, round-least, round-shift, round-whole}

-- what starts no earlier is rounded to no earlier start
rising : (n m P : ℕ) → 0 < P → n ≤ m → round_up n P ≤ round_up m P
rising n m P positive le = grind (arith, nat_tests, round-above, round-least, round-divides)

-- an event a window of the slowest level later is answered a window later
later : (f : ℕ → ℕ) (H before k w : ℕ) → 0 < H → ((t : ℕ) → f t ≡ round_up (t + before) H + k) → f (H + w) ≡ H + f w
later f H before k w positive is = grind (arith, nat_tests, round-shift, dvd_refl)

-- an earlier event is answered no later
earlier : (f : ℕ → ℕ) (H before k s t : ℕ) → 0 < H → ((t : ℕ) → f t ≡ round_up (t + before) H + k) → s ≤ t → f s ≤ f t
earlier f H before k s t positive is le = grind (arith, nat_tests, rising)

-- a chain from a window of its first process is through when it has answered the event at its start
through-start : (c : Configuration) (done : ℕ → ℕ) (p s : ℕ) (rest : List ℕ) → 0 < window_length c p → s % window_length c p ≡ 0
    → through c done p s rest ≡ answered c done (p ∷ rest) s
through-start c done p s rest positive begins = grind (arith, nat_tests, round-whole, dvd_of_mod-eq-zero)

pub met-age : (c : Configuration) (first : ℕ) (rest : List ℕ) (course : Course) (done : ℕ → ℕ) (reaction age : ℕ) → IsChecked c → AreThere c (first ∷ rest)
    → IsCourse c first rest course → AreDone c done → IsReaction c done (first ∷ rest) reaction
    → window_length c course.last ≤ period c course.pace.level → IsAge c first rest reaction age → IsMet c done first rest age
met-age c first rest course done reaction age checked there course_is are is shorter old =
    let l = last_of first rest in
    let P = window_length c l in
    let H = period c course.pace.level in
    let before = course.pace.before in
    let k = course.pace.lag + done course.last in
    let f : ℕ → ℕ = answered c done (first ∷ rest) in
    let form = shape c first rest course done course_is are in
    let level = course_is.level in
    let within = course_is.within in
    let positive : 0 < H = checked.positive course.pace.level level in
    let same : window_length c course.last ≡ P = ap (window_length c) course_is.last in
    let some : 0 < window_length c course.last = checked.positive (main_level c course.last) (omega (arith, level, within)) in
    let own : 0 < window_length c first = window-positive c first checked (first-there c first rest there) in
    let w = is.met.0 in
    let worst : f w ≡ w + reaction = is.met.1 in
    let t = H + w in
    let moved : f t ≡ H + f w = later f H before k w positive form in
    let start = final c done first (next_start c first t) rest in
    let split : f t ≡ start + done l = through-final c done first (next_start c first t) rest in
    let split' : f w ≡ final c done first (next_start c first w) rest + done l = through-final c done first (next_start c first w) rest in
    let begins : start % P ≡ 0 =
    final-starts c done first (next_start c first t) rest (mod-eq-zero_of_dvd (window_length c first) (round-divides t (window_length c first))) in
    let far : P ≤ start = omega (arith, moved, split, split', same, shorter) in
    let from_zero : through c done first 0 rest ≡ f 0 =
    through-start c done first 0 rest own (mod-eq-zero_of_dvd (window_length c first) (dvd-zero (window_length c first))) in
    let least : f 0 ≤ f w = earlier f H before k 0 w positive form (omega arith) in
    record {
      u = start - P;
      starts = mod-eq-zero_of_dvd P (dvd-sub P (dvd_of_mod-eq-zero P begins) (dvd_refl P));
      come = omega (arith, from_zero, least, moved, split, far, same, shorter);
      met = λ s starts comes.
          let from : through c done first s rest ≡ f s = through-start c done first s rest own starts in
          elim (cases_lt s t) [
            | inl less ↦ omega (arith, less, moved, worst, split, far, old)
            | inr more ↦ (let late = earlier f H before k t s positive form more in absurd (omega (arith, late, comes, from, split, far, same, some)))
          ];
    }
