-- What one process is allotted beside the others, and a search from below for the ticks that are enough for all of it.
use Rattle.std.proofs.Common.{ℕ, zero, suc, ◌≡◌, ◌+◌, ◌-◌, ◌*◌, ◌/◌, ◌<◌, ◌≤◌, inl, inr, true, false, cond, eqb, leb, List, length, Some, None, refl, sym, ap, ◌∙◌, subst, arith}
use Rattle.std.specs.Prelude.{min, ◌↔◌}
use Rattle.std.proofs.lemmas.Bool.{cases_Bool, cases_eq, cases_lt}
use Rattle.std.proofs.lemmas.Bool.Decides.{nat_tests}
use Rattle.std.proofs.Math.Nat.{div_self}
use Rattle.dk_config.specs.Configuration.{Configuration}
use Rattle.dk_config.specs.Checked.{IsChecked}
use Rattle.dk_config.specs.Sums.{sum_from}
use Rattle.dk_config.specs.Windows.{period, main_level}
use Rattle.dk_config.specs.Certification.{spare}
use Rattle.dk_config.specs.Ahead.{windows_begun, level_ahead}
use Rattle.dk_config.proofs.Sums.{sum_from-add, sum_from-eq, sum_from-le}
use Rattle.dk_when.proofs.Rising.{begun-rises, level-rises, times-rises}
use Rattle.dk_slack_promise.specs.Allotted.{allotted, IsAllotted}
use Rattle.dk_slack_promise.specs.Soon.{allotted_begun}
use Rattle.dk_allotment.specs.Alone.{alone}
use Rattle.dk_allotment.specs.Beside.{FitsBeside, IsMostBeside, IsRoomBeside, with_own}
use Rattle.dk_allotment.specs.Soon.{IsEnoughSlack}
use Rattle.dk_allotment.proofs.Alone.{allotted-alone}

-- with so many ticks for p it is what the others have, and these
own-added : (s : ℕ → ℕ) (p n q : ℕ) → with_own s p n q ≡ with_own s p 0 q + alone p n q
own-added s p n q =
    elim (cases_Bool (eqb q p)) [
      | inl t ↦ rw t (omega arith)
      | inr f ↦ rw f (omega arith)
    ]

-- what p has itself is no change
own-same : (s : ℕ → ℕ) (p q : ℕ) → with_own s p (s p) q ≡ s q
own-same s p q =
    elim (cases_eq q p) [
      | inl same ↦ let on : eqb q p ≡ true = grind (arith, nat_tests) in (let is : with_own s p (s p) q ≡ s p = rw on refl in is ∙ ap s (sym same))
      | inr other ↦ let off : eqb q p ≡ false = grind (arith, nat_tests) in rw off refl
    ]

pub beside : (c : Configuration) (s : ℕ → ℕ) (p n j : ℕ) → p < length c.processes
    → allotted c (with_own s p n) j ≡ allotted c (with_own s p 0) j + cond (leb (main_level c p) j) (n * (period c j / period c (main_level c p))) 0
beside c s p n j here =
    let f : ℕ → ℕ = λ q. cond (leb (main_level c q) j) (with_own s p n q * (period c j / period c (main_level c q))) 0 in
    let g : ℕ → ℕ = λ q. cond (leb (main_level c q) j) (with_own s p 0 q * (period c j / period c (main_level c q))) 0 in
    let h : ℕ → ℕ = λ q. cond (leb (main_level c q) j) (alone p n q * (period c j / period c (main_level c q))) 0 in
    let parts = sum_from-eq 0 (length c.processes) f (λ k. g k + h k) (λ k. each k) in
    let added = sum_from-add 0 (length c.processes) g h in
    let own = allotted-alone c p n j here in
    omega (arith, parts, added, own)
  where
    each : (q : ℕ) → cond (leb (main_level c q) j) (with_own s p n q * (period c j / period c (main_level c q))) 0
        ≡ cond (leb (main_level c q) j) (with_own s p 0 q * (period c j / period c (main_level c q))) 0
        + cond (leb (main_level c q) j) (alone p n q * (period c j / period c (main_level c q))) 0
    each q =
        let K : ℕ = period c j / period c (main_level c q) in
        let a : ℕ = with_own s p 0 q in
        let b : ℕ = alone p n q in
        let product : with_own s p n q * K ≡ (a + b) * K = ap (λ (d : ℕ). d * K) (own-added s p n q) in
        let parted : (a + b) * K ≡ a * K + b * K = omega arith in
        elim (cases_Bool (leb (main_level c q) j)) [ inl t ↦ rw t (product ∙ parted) | inr off ↦ rw off refl ]

-- what is left of the whole without p's own part
pub without : (c : Configuration) (s : ℕ → ℕ) (p j : ℕ) → p < length c.processes
    → allotted c s j ≡ allotted c (with_own s p 0) j + cond (leb (main_level c p) j) (s p * (period c j / period c (main_level c p))) 0
without c s p j here =
    let same : allotted c (with_own s p (s p)) j ≡ allotted c s j =
    sum_from-eq 0 (length c.processes) (λ q. cond (leb (main_level c q) j) (with_own s p (s p) q * (period c j / period c (main_level c q))) 0)
    (λ q. cond (leb (main_level c q) j) (s q * (period c j / period c (main_level c q))) 0)
    (λ k. ap (λ (d : ℕ). cond (leb (main_level c k) j) (d * (period c j / period c (main_level c k))) 0) (own-same s p k)) in
    sym same ∙ beside c s p (s p) j here

-- the spare of a level holds so many ticks for p exactly where the room that the others leave does
fits-here : (c : Configuration) (s : ℕ → ℕ) (p n j room : ℕ) → p < length c.processes → room + allotted c (with_own s p 0) j ≡ spare c j
    → (allotted c (with_own s p n) j ≤ spare c j) ↔ (main_level c p ≤ j → n * (period c j / period c (main_level c p)) ≤ room)
fits-here c s p n j room here is =
    let split = beside c s p n j here in
    let K : ℕ = n * (period c j / period c (main_level c p)) in
    elim (cases_lt j (main_level c p)) [
      | inl faster ↦
          let off : leb (main_level c p) j ≡ false = grind (arith, nat_tests) in
          let none : cond (leb (main_level c p) j) K 0 ≡ 0 = rw off refl in
          (λ fit from. absurd (omega (arith, faster, from)), λ each. omega (arith, split, none, is))
      | inr from ↦
          let on : leb (main_level c p) j ≡ true = grind (arith, nat_tests) in
          let all : cond (leb (main_level c p) j) K 0 ≡ K = rw on refl in
          (λ fit reaches. omega (arith, split, all, is, fit), λ each. let le = each (omega (arith, from)) in omega (arith, split, all, is, le))
    ]

-- no level was looked at
pub beside-start : (c : Configuration) (s : ℕ → ℕ) (p own most : ℕ) → own ≡ main_level c p → most ≡ spare c own → FitsBeside c s p 0 most
beside-start c s p own most is whole n =
    let same : most ≡ spare c (main_level c p) = whole ∙ ap (spare c) is in
    (λ le. (omega (arith, le, same), λ j none. absurd (omega (arith, none))), λ (le, each). omega (arith, le, same))

-- a further level
pub beside-next : (c : Configuration) (s : ℕ → ℕ) (p level own room most now : ℕ) → p < length c.processes → own ≡ main_level c p → FitsBeside c s p level most
    → room + allotted c (with_own s p 0) level ≡ spare c level
    → ((n : ℕ) → (n ≤ now) ↔ ((n ≤ most) × (own ≤ level → n * (period c level / period c own) ≤ room))) → FitsBeside c s p (level + 1) now
beside-next c s p level own room most now here is so_far left within n =
    let one = subst (λ i. (n ≤ now) ↔ ((n ≤ most) × (i ≤ level → n * (period c level / period c i) ≤ room))) is (within n) in
    let fit = fits-here c s p n level room here left in (
      λ le.
          let both = one.0 le in
          let before = (so_far n).0 both.0 in (
            before.0,
            λ j under. elim (cases_lt j level) [
              | inl low ↦ before.1 j low
              | inr high ↦
                  let same : j ≡ level = omega (arith, under, high) in
                  subst (λ i. allotted c (with_own s p n) i ≤ spare c i) (sym same) (fit.1 both.1)
            ],
          ),
      λ (le, each).
          let before = (so_far n).1 (le, λ j low. each j (omega (arith, low))) in
          one.1 (before, fit.0 (each level (omega arith))),
    )

-- where the others pass a spare no number holds
pub none-beside : (c : Configuration) (s : ℕ → ℕ) (p level : ℕ) → p < length c.processes → level < length c.levels → spare c level < allotted c (with_own s p 0) level
    → IsMostBeside c s p None
none-beside c s p level here known over n fit =
    let split = beside c s p n level here in
    let le = fit level known in
    omega (arith, split, le, over)

-- all levels
pub beside-all : (c : Configuration) (s : ℕ → ℕ) (p most level : ℕ) → IsChecked c → p < length c.processes → level ≡ length c.levels → FitsBeside c s p level most
    → IsMostBeside c s p (Some most)
beside-all c s p most level checked here all fits =
    let whole = subst (λ i. FitsBeside c s p i most) all fits in (
      λ j known. ((whole most).0 (omega arith)).1 j known,
      λ n fit. (whole n).1 (own n fit, fit),
    )
  where
    own : (n : ℕ) → IsAllotted c (with_own s p n) → n ≤ spare c (main_level c p)
    own n fit =
        let m : ℕ = main_level c p in
        let known = checked.levels p here in
        let split = beside c s p n m here in
        let one : period c m / period c m ≡ 1 = div_self (checked.positive m known) in
        let on : leb m m ≡ true = grind (arith, nat_tests) in
        let whole : cond (leb m m) (n * (period c m / period c m)) 0 ≡ n * 1 = rw on (ap (λ (d : ℕ). n * d) one) in
        let le = fit m known in
        omega (arith, split, whole, le)

-- what is allotted in windows that have begun only rises with the ticks
begun-given-rises : (c : Configuration) (s : ℕ → ℕ) (m f g : ℕ) → IsChecked c → f ≤ g → allotted_begun c s m f ≤ allotted_begun c s m g
begun-given-rises c s m f g checked le =
    sum_from-le 0 (length c.processes) (λ q. cond (leb (main_level c q) m) (s q * windows_begun c (main_level c q) f) 0)
    (λ q. cond (leb (main_level c q) m) (s q * windows_begun c (main_level c q) g) 0)
    (λ q a b. each q (omega (arith, b)))
  where
    each : (q : ℕ) → q < length c.processes
        → cond (leb (main_level c q) m) (s q * windows_begun c (main_level c q) f) 0 ≤ cond (leb (main_level c q) m) (s q * windows_begun c (main_level c q) g) 0
    each q there =
        let i : ℕ = main_level c q in
        let more = times-rises (s q) (windows_begun c i f) (windows_begun c i g) (begun-rises c i f g (checked.positive i (checked.levels q there)) le) in
        elim (cases_Bool (leb (main_level c q) m)) [ inl t ↦ rw t more | inr off ↦ rw off (omega arith) ]

-- no number of ticks below this one has room, and it is no 0
pub record SearchingGiven (c : Configuration) (s : ℕ → ℕ) (m window least : ℕ) : Type 0 where
  pub some : 0 < least
  pub within : least ≤ window
  pub short : (f : ℕ) → 0 < f → f < least → f < level_ahead c m f + allotted_begun c s m f

pub search-given-step : (c : Configuration) (s : ℕ → ℕ) (m window least needs next : ℕ) → IsChecked c → m < length c.levels → SearchingGiven c s m window least
    → needs ≡ level_ahead c m least + allotted_begun c s m least → least < needs → next ≡ min needs window → SearchingGiven c s m window next
search-given-step c s m window least needs next checked here before is more smaller =
    let some = before.some in
    let within = before.within in
    record {
      some = omega arith;
      within = omega arith;
      short =
          λ f positive low. elim (cases_lt f least) [
            | inl old ↦ before.short f positive old
            | inr new ↦
                let rises = level-rises c m least f checked here (omega arith) in
                let begun = begun-given-rises c s m least f checked (omega arith) in
                omega (arith, rises, begun, is, smaller, low)
          ];
    }

-- where there is room it is enough
pub given-enough : (c : Configuration) (s : ℕ → ℕ) (m window least : ℕ) → SearchingGiven c s m window least → window ≡ period c m
    → level_ahead c m least + allotted_begun c s m least ≤ least → IsEnoughSlack c s m least
given-enough c s m window least before is room =
    let below = before.within in
    record { some = before.some; within = omega (arith, below, is); room = inr room }

-- all of them are
pub given-window : (c : Configuration) (s : ℕ → ℕ) (m window : ℕ) → 0 < window → window ≡ period c m → IsEnoughSlack c s m window
given-window c s m window some is = record { some = some; within = omega (arith, is); room = inl is }

-- and fewer aren't
pub given-fewer : (c : Configuration) (s : ℕ → ℕ) (m window least f : ℕ) → SearchingGiven c s m window least → window ≡ period c m → IsEnoughSlack c s m f → least ≤ f
given-fewer c s m window least f before is enough =
    elim enough.room [
      | inl whole ↦ let below = before.within in omega (arith, below, is, whole)
      | inr room ↦
          elim (cases_lt f least) [
            | inl low ↦ let short = before.short f enough.some low in absurd (omega (arith, short, room))
            | inr high ↦ high
          ]
    ]
