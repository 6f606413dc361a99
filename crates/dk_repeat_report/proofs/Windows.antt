-- A cycle is windows, one after another.
use Rattle.std.proofs.Common.{ℕ, zero, suc, ◌≡◌, ◌+◌, ◌-◌, ◌*◌, ◌/◌, ◌<◌, ◌∙◌, List, ◌∷◌, length, map, take, drop, refl, ap, arith}
use Rattle.std.proofs.Math.Nat.{div-mul-le_self, mul-le-mul_right}
use Rattle.std.proofs.lemmas.List.{drop-take, length-take-le, take-take}
use Rattle.dk_config.specs.Configuration.{Configuration}
use Rattle.dk_config.specs.Sums.{below, numbers}
use Rattle.dk_trace.specs.Choices.{chosen}
use Rattle.dk_world.specs.Run.{trace, world}
use Rattle.dk_world.specs.Laws.{TicksAreCounted}
use Rattle.dk_alone.proofs.Again.{entry-by}
use Rattle.dk_window_report.specs.Windows.{ended_windows, window_at}
use Rattle.dk_repeat_report.specs.Cycles.{CyclesAreWindows}

map-within : {A : Type 0} (f g : ℕ → A) (low n : ℕ) → ((i : ℕ) → i < low + n → f i ≡ g i) → map f (numbers low n) ≡ map g (numbers low n)
map-within f g low zero same = refl
map-within f g low (suc n) same =
    ap (λ x. x ∷ map f (numbers (suc low) n)) (same low (omega arith))
    ∙ ap (λ xs. g low ∷ xs) (map-within f g (suc low) n (λ i less. same i (omega (arith, less))))

-- the entries up to an earlier tick
drop-trace : (c : Configuration) (programs : List (List ℕ)) (n j : ℕ) → drop j (trace c programs (n + j)) ≡ trace c programs n
drop-trace c programs n zero = ap (trace c programs) (omega arith)
drop-trace c programs n (suc j) =
    let grown = entry-by c (world c programs (n + j)) (chosen c (trace c programs (n + j))) in
    let more : n + suc j ≡ suc (n + j) = omega arith in
    ap (λ i. drop (suc j) (trace c programs i)) more ∙ ap (drop (suc j)) grown.1 ∙ drop-trace c programs n j

module _ (c : Configuration) (programs : List (List ℕ)) (s k period : ℕ) (counted : TicksAreCounted) where
  long : length (take k (trace c programs (s + k))) ≡ k
  long = let all = counted c programs (s + k) in length-take-le k (trace c programs (s + k)) (omega (arith, all))

  one-window : (w : ℕ) → w < k / period → window_at period (take k (trace c programs (s + k))) w ≡ take period (trace c programs (s + w * period + period))
  one-window w less =
      let m = (w + 1) * period in
      let all = trace c programs (s + k) in
      let most = mul-le-mul_right {m = w + 1} {n = k / period} period (omega (arith, less)) in
      let whole = div-mul-le_self k period in
      let times : m ≡ w * period + period = omega arith in
      let parts : k ≡ (k - m) + m = omega (arith, most, whole) in
      let far : s + k ≡ (s + m) + (k - m) = omega (arith, most, whole) in
      ap (λ n. take period (drop (n - m) (take k all))) long
      ∙ ap (λ n. take period (drop (k - m) (take n all))) parts
      ∙ ap (take period) (drop-take (k - m) m all)
      ∙ take-take period m (drop (k - m) all) (omega (arith, times))
      ∙ ap (λ n. take period (drop (k - m) (trace c programs n))) far
      ∙ ap (take period) (drop-trace c programs (s + m) (k - m))
      ∙ ap (λ n. take period (trace c programs n)) (omega (arith, times))

  pub windows : ended_windows period (take k (trace c programs (s + k))) ≡ map (λ w. take period (trace c programs (s + w * period + period))) (below (k / period))
  windows =
      ap (λ n. map (window_at period (take k (trace c programs (s + k)))) (below (n / period))) long
      ∙ map-within (window_at period (take k (trace c programs (s + k)))) (λ w. take period (trace c programs (s + w * period + period))) 0 (k / period)
      (λ i less. one-window i (omega (arith, less)))

pub cycles-are-windows : TicksAreCounted → CyclesAreWindows
cycles-are-windows counted c programs s k period = windows c programs s k period counted
