-- A search from below for the ticks of a window that are enough for an allotment of one process.
use Rattle.std.proofs.Common.{ℕ, ◌≡◌, ◌+◌, ◌-◌, ◌*◌, ◌/◌, ◌<◌, ◌≤◌, ◌⊎◌, inl, inr, true, false, cond, eqb, leb, length, refl, ap, ◌∙◌, subst, sym, arith}
use Rattle.std.specs.Prelude.{min, count_by}
use Rattle.std.proofs.lemmas.Bool.{cases_Bool, cases_lt}
use Rattle.std.proofs.lemmas.Bool.Decides.{nat_tests}
use Rattle.std.proofs.Math.Nat.{le-div_iff_mul-le}
use Rattle.dk_config.specs.Configuration.{Configuration}
use Rattle.dk_config.specs.Checked.{IsChecked}
use Rattle.dk_config.specs.Windows.{period, main_level}
use Rattle.dk_config.specs.Ahead.{windows_begun, level_ahead}
use Rattle.dk_bound.specs.Laws.{Always}
use Rattle.dk_trace.specs.Entries.{window}
use Rattle.dk_trace.specs.Guarantees.{past_at}
use Rattle.dk_slack_promise.specs.Long.{IsOpen, is_lent_to}
use Rattle.dk_slack_promise.specs.Allotted.{own_lent}
use Rattle.dk_slack_promise.specs.Soon.{allotted_begun, IsSoon}
use Rattle.dk_slack_promise.proofs.Allotted.{allotted_lends}
use Rattle.dk_slack_promise.proofs.Soon.{allotted_by_when}
use Rattle.dk_when.proofs.Rising.{level-rises}
use Rattle.dk_allotment.specs.Alone.{alone}
use Rattle.dk_allotment.specs.Soon.{IsEnoughSlack, AllottedIn}
use Rattle.dk_allotment.proofs.Alone.{sum-alone}

-- in a window of the level itself one window of it has begun
one-begun : (P f : ℕ) → 0 < f → f ≤ P → (f + (P - 1)) / P ≡ 1
one-begun P f some within =
    let positive : 0 < P = omega (arith, some, within) in
    let one : 1 ≤ (f + (P - 1)) / P = (le-div_iff_mul-le positive).1 (omega (arith, some, within)) in
    elim (cases_lt ((f + (P - 1)) / P) 2) [
      | inl few ↦ omega (arith, one, few)
      | inr more ↦
          let two : 2 * P ≤ f + (P - 1) = (le-div_iff_mul-le positive).0 more in
          absurd (omega (arith, two, some, within))
    ]

-- what one process alone is allotted in the first ticks of a window of its level
pub begun-alone : (c : Configuration) (p s f : ℕ) → p < length c.processes → 0 < f → f ≤ period c (main_level c p)
    → allotted_begun c (alone p s) (main_level c p) f ≡ s
begun-alone c p s f here some within =
    let m : ℕ = main_level c p in
    let g : ℕ → ℕ = λ q. cond (leb (main_level c q) m) (alone p s q * windows_begun c (main_level c q) f) 0 in
    let self : eqb p p ≡ true = grind (arith, nat_tests) in
    let on : leb m m ≡ true = grind (arith, nat_tests) in
    let begun : windows_begun c m f ≡ 1 = one-begun (period c m) f some within in
    let whole : cond (leb m m) (alone p s p * windows_begun c m f) 0 ≡ s * 1 = rw (on, self) (ap (λ (d : ℕ). s * d) begun) in
    sum-alone 0 (length c.processes) p g (omega arith) (omega (arith, here)) (λ k other. none k other)
    ∙ whole ∙ omega arith
  where
    none : (k : ℕ) → (k ≡ p → ⊥) → cond (leb (main_level c k) (main_level c p)) (alone p s k * windows_begun c (main_level c k) f) 0 ≡ 0
    none k other =
        let off : eqb k p ≡ false = grind (arith, nat_tests) in
        let W : ℕ = windows_begun c (main_level c k) f in
        let nothing : alone p s k ≡ 0 = rw off refl in
        let product : alone p s k * W ≡ 0 * W = ap (λ (d : ℕ). d * W) nothing in
        let empty : alone p s k * W ≡ 0 = omega (arith, product) in
        elim (cases_Bool (leb (main_level c k) (main_level c p))) [ inl t ↦ rw t empty | inr f ↦ rw f refl ]

-- no number of ticks below this one has room, and it is no 0
pub record SearchingSlack (c : Configuration) (m s window least : ℕ) : Type 0 where
  pub some : 0 < least
  pub within : least ≤ window
  pub short : (f : ℕ) → 0 < f → f < least → f < level_ahead c m f + s

pub search-slack-step : (c : Configuration) (m s window least needs next : ℕ) → IsChecked c → m < length c.levels → SearchingSlack c m s window least
    → needs ≡ level_ahead c m least + s → least < needs → next ≡ min needs window → SearchingSlack c m s window next
search-slack-step c m s window least needs next checked here before is more smaller =
    let some = before.some in
    let within = before.within in
    record {
      some = omega arith;
      within = omega arith;
      short =
          λ f positive low. elim (cases_lt f least) [
            | inl old ↦ before.short f positive old
            | inr new ↦ let rises = level-rises c m least f checked here (omega arith) in omega (arith, rises, is, smaller, low)
          ];
    }

-- where there is room it is enough
pub room-enough : (c : Configuration) (p s window least : ℕ) → p < length c.processes → SearchingSlack c (main_level c p) s window least
    → window ≡ period c (main_level c p) → level_ahead c (main_level c p) least + s ≤ least → IsEnoughSlack c (alone p s) (main_level c p) least
room-enough c p s window least here before is room =
    let some = before.some in
    let within : least ≤ period c (main_level c p) = let below = before.within in omega (arith, below, is) in
    let begun = begun-alone c p s least here some within in
    record { some = some; within = within; room = inr (omega (arith, room, begun)) }

-- all of them are
pub window-enough : (c : Configuration) (p s window : ℕ) → 0 < window → window ≡ period c (main_level c p) → IsEnoughSlack c (alone p s) (main_level c p) window
window-enough c p s window some is = record { some = some; within = omega (arith, is); room = inl is }

-- and fewer aren't
pub none-fewer : (c : Configuration) (p s window least f : ℕ) → p < length c.processes → SearchingSlack c (main_level c p) s window least
    → window ≡ period c (main_level c p) → IsEnoughSlack c (alone p s) (main_level c p) f → least ≤ f
none-fewer c p s window least f here before is enough =
    elim enough.room [
      | inl whole ↦ let below = before.within in omega (arith, below, is, whole)
      | inr room ↦
          elim (cases_lt f least) [
            | inl low ↦
                let short = before.short f enough.some low in
                let begun = begun-alone c p s f here enough.some enough.within in
                absurd (omega (arith, short, room, begun))
            | inr high ↦ high
          ]
    ]

pub allotted_in : Always AllottedIn
allotted_in c past checked accepted audited s p r f here fit keeps starts enough le opens =
    elim enough.room [
      | inl whole ↦
          subst (λ w. ((u : ℕ) → r ≤ u → u < r + w → IsOpen c (past_at past u) p ⊎ (s p ≤ own_lent c u (past_at past u) p)) → r + w ≤ length past
          → s p ≤ count_by (is_lent_to p) (window c r (past_at past (r + w)) (main_level c p))) (sym whole)
          (λ opened within. allotted_lends c past checked accepted audited s p r here fit keeps starts within opened) opens le
      | inr room ↦
          allotted_by_when c past checked accepted audited s p r f here fit keeps starts
          (record { some = enough.some; within = enough.within; room = room }) le opens
    ]
