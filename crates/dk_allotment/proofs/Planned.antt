-- A budget that is greater by an allotment needs so much more of each window from the level of the process on.
use Rattle.std.proofs.Common.{ℕ, zero, suc, ◌≡◌, ◌+◌, ◌*◌, ◌/◌, ◌<◌, inl, inr, true, false, cond, leb, List, [], ◌∷◌, length, refl, ap, arith}
use Rattle.std.specs.Prelude.{slice_get}
use Rattle.std.specs.Option.{option_map_or}
use Rattle.std.proofs.lemmas.Bool.{cases_lt}
use Rattle.std.proofs.lemmas.Bool.Decides.{nat_tests}
use Rattle.dk_config.specs.Configuration.{Configuration}
use Rattle.dk_config.specs.declared.rows.ProcessRow.{ProcessRow}
use Rattle.dk_config.specs.Checked.{IsAccepted, IsChecked}
use Rattle.dk_config.specs.Windows.{period, main_level, budget}
use Rattle.dk_config.specs.Certification.{level_demand}
use Rattle.dk_plan.specs.Budget.{rows_with_budget, with_budget}
use Rattle.dk_plan.proofs.Demands.{demand-before, demand-from, blocking-same}
use Rattle.dk_slack_promise.specs.Allotted.{allotted}
use Rattle.dk_allotment.specs.Alone.{alone}
use Rattle.dk_allotment.specs.Planned.{AloneIsPlanned}
use Rattle.dk_allotment.proofs.Alone.{allotted-alone}

same-rows : (rows : List ProcessRow) (p : ℕ) → p < length rows → rows_with_budget rows p (option_map_or (λ row. row.budget) (slice_get rows p) 0) ≡ rows
same-rows [] p here = absurd (omega (arith, here))
same-rows (row ∷ rows) zero here = refl
same-rows (row ∷ rows) (suc p) here = ap (λ rest. row ∷ rest) (same-rows rows p (omega (arith, here)))

-- with the budget that it has a configuration is as it is
same-budget : (c : Configuration) (p : ℕ) → p < length c.processes → with_budget c p (budget c p) ≡ c
same-budget c p here = ap (λ rows. record c { processes = rows }) (same-rows c.processes p here)

-- with a greater budget it needs more from its level on
needs-more : (c : Configuration) (p s j : ℕ) → p < length c.processes
    → level_demand (with_budget c p (budget c p + s)) j ≡ level_demand c j + allotted c (alone p s) j
needs-more c p s j here =
    let is = allotted-alone c p s j here in
    let now : level_demand (with_budget c p (budget c p)) j ≡ level_demand c j = ap (λ d. level_demand d j) (same-budget c p here) in
    let K = period c j / period c (main_level c p) in
    elim (cases_lt j (main_level c p)) [
      | inl faster ↦
          let off : leb (main_level c p) j ≡ false = grind (arith, nat_tests) in
          let none : cond (leb (main_level c p) j) (s * K) 0 ≡ 0 = rw off refl in
          let before = demand-before c p here (budget c p + s) j faster in
          let own = demand-before c p here (budget c p) j faster in
          omega (arith, is, none, before, own, now)
      | inr from ↦
          let on : leb (main_level c p) j ≡ true = grind (arith, nat_tests) in
          let more : cond (leb (main_level c p) j) (s * K) 0 ≡ s * K = rw on refl in
          let after = demand-from c p here (budget c p + s) j (omega (arith, from)) in
          let own = demand-from c p here (budget c p) j (omega (arith, from)) in
          let product : (budget c p + s) * K ≡ budget c p * K + s * K = omega arith in
          omega (arith, is, more, after, own, now, product)
    ]

pub alone_is_planned : (c : Configuration) → IsChecked c → IsAccepted c → AloneIsPlanned c
alone_is_planned c checked accepted p s here = (
  λ fit j known.
      let more = needs-more c p s j here in
      let same = blocking-same c p here (budget c p + s) j in
      let le = fit j known in
      let now = accepted j known in
      omega (arith, more, same, le, now),
  λ planned j known.
      let more = needs-more c p s j here in
      let same = blocking-same c p here (budget c p + s) j in
      let le = planned j known in
      omega (arith, more, same, le),
)
