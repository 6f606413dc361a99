-- What one process alone can be allotted: so much as the spare of each level from its own on holds.
use Rattle.std.proofs.Common.{ℕ, zero, suc, ◌≡◌, ◌+◌, ◌*◌, ◌/◌, ◌<◌, ◌≤◌, inl, inr, true, false, cond, eqb, leb, length, refl, sym, ap, ◌∙◌, subst, arith}
use Rattle.std.specs.Prelude.{min}
use Rattle.std.proofs.lemmas.Bool.{cases_Bool, cases_eq, cases_lt}
use Rattle.std.proofs.lemmas.Bool.Decides.{nat_tests}
use Rattle.std.proofs.Math.Nat.{div_self, le-div_iff_mul-le}
use Rattle.dk_config.specs.Configuration.{Configuration}
use Rattle.dk_config.specs.Sums.{sum_from}
use Rattle.dk_config.specs.Windows.{period, main_level}
use Rattle.dk_config.specs.Certification.{spare}
use Rattle.dk_config.proofs.Sums.{sum_from-same, sum_from-zero}
use Rattle.dk_slack_promise.specs.Allotted.{allotted, IsAllotted}
use Rattle.dk_allotment.specs.Alone.{alone, IsFirstPassed, IsOwnSlack, FitsSoFar}

-- a sum of one term
pub sum-alone : (low n p : ℕ) (f : ℕ → ℕ) → low ≤ p → p < low + n → ((k : ℕ) → (k ≡ p → ⊥) → f k ≡ 0) → sum_from low n f ≡ f p
sum-alone low zero p f a b others = absurd (omega (arith, a, b))
sum-alone low (suc n) p f a b others =
    elim (cases_eq low p) [
      | inl same ↦
          let rest : sum_from (suc low) n f ≡ 0 =
          sum_from-same (suc low) n f (λ k. 0) (λ k x y. others k (λ is. absurd (omega (arith, x, same, is)))) ∙ sum_from-zero (suc low) n in
          let here : f low ≡ f p = ap f same in
          omega (arith, rest, here)
      | inr other ↦
          let here = others low other in
          let rest = sum-alone (suc low) n p f (omega (arith, a, other)) (omega (arith, b)) others in
          omega (arith, here, rest)
    ]

-- what one process alone is allotted in a window of level j
pub allotted-alone : (c : Configuration) (p s j : ℕ) → p < length c.processes
    → allotted c (alone p s) j ≡ cond (leb (main_level c p) j) (s * (period c j / period c (main_level c p))) 0
allotted-alone c p s j here =
    let f : ℕ → ℕ = λ q. cond (leb (main_level c q) j) (alone p s q * (period c j / period c (main_level c q))) 0 in
    let self : eqb p p ≡ true = grind (arith, nat_tests) in
    sum-alone 0 (length c.processes) p f (omega arith) (omega (arith, here)) (λ k other. none k other)
    ∙ ap (λ b. cond (leb (main_level c p) j) (cond b s 0 * (period c j / period c (main_level c p))) 0) self
  where
    none : (k : ℕ) → (k ≡ p → ⊥) → cond (leb (main_level c k) j) (alone p s k * (period c j / period c (main_level c k))) 0 ≡ 0
    none k other =
        let off : eqb k p ≡ false = grind (arith, nat_tests) in
        let K : ℕ = period c j / period c (main_level c k) in
        let nothing : alone p s k ≡ 0 = rw off refl in
        let product : alone p s k * K ≡ 0 * K = ap (λ (d : ℕ). d * K) nothing in
        let empty : alone p s k * K ≡ 0 = omega (arith, product) in
        elim (cases_Bool (leb (main_level c k) j)) [ inl t ↦ rw t empty | inr f ↦ rw f refl ]

-- the first level is its own
pub fits-first : (c : Configuration) (p most : ℕ) → 0 < period c (main_level c p) → most ≡ spare c (main_level c p) → FitsSoFar c p (main_level c p + 1) most
fits-first c p most positive is s = (
  λ le j from under.
      let same : j ≡ main_level c p = omega (arith, from, under) in
      let one : period c (main_level c p) / period c (main_level c p) ≡ 1 = div_self positive in
      let product : s * (period c (main_level c p) / period c (main_level c p)) ≡ s * 1 = ap (λ (d : ℕ). s * d) one in
      subst (λ i. s * (period c i / period c (main_level c p)) ≤ spare c i) (sym same) (omega (arith, product, le, is)),
  λ each.
      let own = each (main_level c p) (omega arith) (omega arith) in
      let one : period c (main_level c p) / period c (main_level c p) ≡ 1 = div_self positive in
      let product : s * (period c (main_level c p) / period c (main_level c p)) ≡ s * 1 = ap (λ (d : ℕ). s * d) one in
      omega (arith, own, product, is),
)

-- the search begins behind it
pub fits-start : (c : Configuration) (p own most : ℕ) → own ≡ main_level c p → 0 < period c (main_level c p) → most ≡ spare c own → FitsSoFar c p (own + 1) most
fits-start c p own most is positive same =
    subst (λ i. FitsSoFar c p (i + 1) most) (sym is) (fits-first c p most positive (same ∙ ap (spare c) is))

-- a further level
pub fits-next : (c : Configuration) (p level most now spare_there windows : ℕ) → main_level c p ≤ level → FitsSoFar c p level most → 0 < windows → spare_there ≡ spare c level
    → windows ≡ period c level / period c (main_level c p) → now ≡ min most (spare_there / windows) → FitsSoFar c p (level + 1) now
fits-next c p level most now spare_there windows reaches so_far some spared is least s = (
  λ le j from under.
      elim (cases_lt j level) [
        | inl before ↦ (so_far s).0 (omega (arith, le, least)) j from before
        | inr after ↦
            let same : j ≡ level = omega (arith, under, after) in
            let fit : s * windows ≤ spare_there = (le-div_iff_mul-le some).0 (omega (arith, le, least)) in
            let there : s * (period c level / period c (main_level c p)) ≡ s * windows = ap (λ (d : ℕ). s * d) (sym is) in
            subst (λ i. s * (period c i / period c (main_level c p)) ≤ spare c i) (sym same) (omega (arith, fit, there, spared))
      ],
  λ each.
      let earlier = (so_far s).1 (λ j from before. each j from (omega (arith, before))) in
      let here = each level reaches (omega arith) in
      let there : s * (period c level / period c (main_level c p)) ≡ s * windows = ap (λ (d : ℕ). s * d) (sym is) in
      let quotient : s ≤ spare_there / windows = (le-div_iff_mul-le some).1 (omega (arith, here, there, spared)) in
      omega (arith, earlier, quotient, least),
)

module _ (c : Configuration) (p s : ℕ) (here : p < length c.processes) where
  -- a faster level has none of it
  alone-before : (j : ℕ) → j < main_level c p → allotted c (alone p s) j ≡ 0
  alone-before j faster =
      let is = allotted-alone c p s j here in
      let off : leb (main_level c p) j ≡ false = grind (arith, nat_tests) in
      let none : cond (leb (main_level c p) j) (s * (period c j / period c (main_level c p))) 0 ≡ 0 = rw off refl in
      omega (arith, is, none)

  -- and each from its own on has it in each window
  alone-from : (j : ℕ) → main_level c p ≤ j → allotted c (alone p s) j ≡ s * (period c j / period c (main_level c p))
  alone-from j from =
      let is = allotted-alone c p s j here in
      let on : leb (main_level c p) j ≡ true = grind (arith, nat_tests) in
      let same : cond (leb (main_level c p) j) (s * (period c j / period c (main_level c p))) 0 ≡ s * (period c j / period c (main_level c p)) = rw on refl in
      omega (arith, is, same)

  -- so it is within the spare of each level before one where it is from its own on
  alone-within : (level : ℕ) → ((j : ℕ) → main_level c p ≤ j → j < level → s * (period c j / period c (main_level c p)) ≤ spare c j)
      → (j : ℕ) → j < level → allotted c (alone p s) j ≤ spare c j
  alone-within level each j under =
      elim (cases_lt j (main_level c p)) [
        | inl faster ↦ let none = alone-before j faster in omega (arith, none)
        | inr reaches ↦
            let from : main_level c p ≤ j = omega (arith, reaches) in
            let is = alone-from j from in
            let fit = each j from under in
            omega (arith, is, fit)
      ]

  -- the first level whose spare it passes
  pub first-passed : (level : ℕ) → level < length c.levels → main_level c p ≤ level
      → ((j : ℕ) → main_level c p ≤ j → j < level → s * (period c j / period c (main_level c p)) ≤ spare c j)
      → spare c level < s * (period c level / period c (main_level c p)) → IsFirstPassed c (alone p s) level
  first-passed level known reaches each passes =
      let is = alone-from level reaches in
      record { known = known; passed = omega (arith, is, passes); before = alone-within level each }

-- all levels
pub fits-all : (c : Configuration) (p most : ℕ) → p < length c.processes → FitsSoFar c p (length c.levels) most → IsOwnSlack c p most
fits-all c p most here all = record {
  reached = alone-within c p most here (length c.levels) ((all most).0 (omega arith));
  greatest =
      λ s fit. (all s).1 (λ j from known.
      let is = alone-from c p s here j from in
      let le = fit j known in
      omega (arith, is, le));
}

-- where all levels before the last hold one tick more than the greatest number, the last doesn't
pub last-passed : (c : Configuration) (p most last : ℕ) → p < length c.processes → length c.levels ≡ last + 1 → main_level c p ≤ last → IsOwnSlack c p most
    → ((j : ℕ) → main_level c p ≤ j → j < last → (most + 1) * (period c j / period c (main_level c p)) ≤ spare c j)
    → IsFirstPassed c (alone p (most + 1)) last
last-passed c p most last here is reaches own each =
    let K : ℕ = period c last / period c (main_level c p) in
    elim (cases_lt (spare c last) ((most + 1) * K)) [
      | inl passes ↦ first-passed c p (most + 1) here last (omega (arith, is)) reaches each passes
      | inr holds ↦
          let whole = own.greatest (most + 1) (λ j known. alone-within c p (most + 1) here (last + 1) (all holds) j (omega (arith, is, known))) in
          absurd (omega (arith, whole))
    ]
  where
    all : (most + 1) * (period c last / period c (main_level c p)) ≤ spare c last
        → (j : ℕ) → main_level c p ≤ j → j < last + 1 → (most + 1) * (period c j / period c (main_level c p)) ≤ spare c j
    all holds j from under =
        elim (cases_lt j last) [
          | inl before ↦ each j from before
          | inr after ↦
              let same : j ≡ last = omega (arith, under, after) in
              subst (λ i. (most + 1) * (period c i / period c (main_level c p)) ≤ spare c i) (sym same) holds
        ]
