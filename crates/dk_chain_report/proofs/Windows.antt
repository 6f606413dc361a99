-- The windows of a chain, one after another.
use Rattle.std.proofs.Common.{ℕ, zero, suc, ◌≡◌, ◌+◌, ◌-◌, ◌*◌, ◌<◌, ◌≤◌, ◌==◌, inl, inr, true, eqb, List, ◌∙◌, refl, ap, sym, subst, arith}
use Rattle.std.specs.Prelude.{if◌then◌else◌}
use Rattle.std.proofs.lemmas.Bool.{cases_Bool}
use Rattle.std.proofs.lemmas.Bool.Decides.{nat_tests}
use Rattle.dk_config.specs.declared.TheConstants.{MAX_SPAN}
use Rattle.dk_config.specs.Configuration.{Configuration}
use Rattle.dk_chain.specs.Chain.{AreDone, free_from, next_start}
use Rattle.dk_chain_report.specs.declared.steps.Turn.TheVariants as turn
use Rattle.dk_config.specs.Ahead.{IsEnough}
use Rattle.dk_config.specs.Windows.{budget}
use Rattle.dk_config_report.specs.Pages.{IsLeast}
use Rattle.dk_chain_report.specs.Steps.{IsOverBy, process_at, turn_at, window_at}

-- the process at this place answers in the window from this start
pub record IsWindow (c : Configuration) (first : ℕ) (rest : List ℕ) (event place start : ℕ) : Type 0 where
  pub at : (done : ℕ → ℕ) → AreDone c done → window_at c done first rest event place ≡ start
  pub after : event ≤ start
  pub few : start ≤ event + (1 + 2 * place) * MAX_SPAN

-- and the next process in this one
pub next-window : (c : Configuration) (first : ℕ) (rest : List ℕ) (event place start p q free next : ℕ) → IsWindow c first rest event place start
    → p ≡ process_at first rest place → q ≡ process_at first rest (place + 1)
    → ((done : ℕ → ℕ) → AreDone c done → free ≡ free_from c done p q start) → start ≤ free → free ≤ start + MAX_SPAN
    → next ≡ next_start c q free → free ≤ next → next ≤ free + MAX_SPAN → IsWindow c first rest event (place + 1) next
next-window c first rest event place start p q free next is one other from later near starts up close =
    let step : suc place ≡ place + 1 = omega arith in
    let other' : q ≡ process_at first rest (suc place) = other ∙ ap (process_at first rest) (sym step) in
    let after = is.after in
    let few = is.few in
    subst (λ k. IsWindow c first rest event k next) step
    (record {
      at = λ done are.
          ap (λ q'. next_start c q' (free_from c done (process_at first rest place) q' (window_at c done first rest event place))) (sym other')
          ∙ ap (λ p'. next_start c q (free_from c done p' q (window_at c done first rest event place))) (sym one)
          ∙ ap (λ s. next_start c q (free_from c done p q s)) (is.at done are)
          ∙ ap (next_start c q) (sym (from done are))
          ∙ sym starts;
      after = omega (arith, after, later, up);
      few = omega (arith, few, near, close);
    })

turn-of : (c : Configuration) (done : ℕ → ℕ) (first : ℕ) (rest : List ℕ) (event place before here : ℕ) → 0 < place
    → window_at c done first rest event (place - 1) ≡ before → window_at c done first rest event place ≡ here
    → turn_at c done first rest event place ≡ (if before == here then turn.Same else turn.Later)
turn-of c done first rest event zero before here some was is = absurd (omega (arith, some))
turn-of c done first rest event (suc place) before here some was is =
    let step : place ≡ suc place - 1 = omega arith in
    ap (λ w. if w == window_at c done first rest event (suc place) then turn.Same else turn.Later) (ap (window_at c done first rest event) step ∙ was)
    ∙ ap (λ w. if before == w then turn.Same else turn.Later) is

pub turn-same : (c : Configuration) (done : ℕ → ℕ) (first : ℕ) (rest : List ℕ) (event place before here : ℕ) → 0 < place
    → window_at c done first rest event (place - 1) ≡ before → window_at c done first rest event place ≡ here → before ≡ here
    → turn_at c done first rest event place ≡ turn.Same
turn-same c done first rest event place before here some was is same =
    let at : eqb before here ≡ true = grind (arith, nat_tests) in
    turn-of c done first rest event place before here some was is ∙ rw at refl

pub turn-later : (c : Configuration) (done : ℕ → ℕ) (first : ℕ) (rest : List ℕ) (event place before here : ℕ) → 0 < place
    → window_at c done first rest event (place - 1) ≡ before → window_at c done first rest event place ≡ here → (before ≡ here → ⊥)
    → turn_at c done first rest event place ≡ turn.Later
turn-later c done first rest event place before here some was is other =
    elim (cases_Bool (eqb before here)) [
      | inl same ↦ absurd (other (grind (arith, nat_tests)))
      | inr apart ↦ turn-of c done first rest event place before here some was is ∙ rw apart refl
    ]

-- by when the process before this place is done
pub over-by : (c : Configuration) (first : ℕ) (rest : List ℕ) (event place p ticks start : ℕ) → 0 < place → p ≡ process_at first rest (place - 1)
    → IsLeast (IsEnough c p (budget c p)) ticks → ((done : ℕ → ℕ) → AreDone c done → window_at c done first rest event (place - 1) ≡ start) → event ≤ start
    → IsOverBy c first rest event place (start - event + ticks)
over-by c first rest event zero p ticks start some one least at after = absurd (omega (arith, some))
over-by c first rest event (suc place) p ticks start some one least at after =
    let step : suc place - 1 ≡ place = omega arith in
    let same : p ≡ process_at first rest place = one ∙ ap (process_at first rest) step in (
      ticks,
      subst (λ q. IsLeast (IsEnough c q (budget c q)) ticks) same least,
      λ done are. (
          let is : window_at c done first rest event place ≡ start = ap (window_at c done first rest event) (sym step) ∙ at done are in
          omega (arith, is, after)),
    )
