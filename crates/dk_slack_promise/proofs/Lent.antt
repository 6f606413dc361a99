-- The spare of a level is still free, less what was lent in its window: along each window of the level.
use Rattle.dk_slack_promise.proofs.Names.{ℕ, suc, ◌≡◌, ◌+◌, ◌-◌, ◌%◌, ◌<◌, ◌≤◌, inl, inr, true, eqb, leb, List, [], ◌∷◌, length, refl, sym, ap, ◌∙◌, arith, cases_Bool, nat_tests, le-leb, zero-mod, mod-lt, Configuration, IsChecked, IsAccepted, period, window_end, spare, Entry, blocking, own_demand, remaining_demand, fits_at, Audited, Always, holders-fit, steady, steady-fair, ready-of, blocks_at_most, remaining-begins, remaining-entry, remaining-moves, own-entry, own-moves, Kind, kind, count-charged, count_by, mod-next, window-goes-on, window_start-within, window_start-le, window-charged}
use Rattle.dk_slack_promise.specs.Lent.{is_lent, ticks_lent, SpareStays, LentFits}
use Rattle.dk_slack_promise.proofs.Pressed.{IsPressed, lent_one, works-press, presses}
use Rattle.dk_slack_promise.proofs.Rest.{all-true}

-- what level j needs, waits for and may lend still fits
abbrev pub HasRoom : Configuration → ℕ → List Entry → Type 0
HasRoom c j past =
    remaining_demand c (length past) past j + blocking c past j + spare c j
    ≤ (window_end c j (length past) - length past) + ticks_lent c (length past) past j

pub room-begins : (c : Configuration) (j : ℕ) (past : List Entry) → IsChecked c → IsAccepted c → Audited c past → j < length c.levels
    → length past % period c j ≡ 0 → HasRoom c j past
room-begins c j past checked accepted audited known begins =
    let all = remaining-begins c j past checked known (steady-fair c past (steady c past checked accepted audited)) audited begins in
    let most = blocks_at_most c past checked accepted audited j known in
    let fit = accepted j known in
    omega (arith, all, most, fit, begins)

-- within a window a pressed tick leaves room
pub room-charged : (c : Configuration) (j : ℕ) (e : Entry) (past : List Entry) → IsChecked c → IsAccepted c → Audited c (e ∷ past) → j < length c.levels
    → (w : Kind c past e.label) → IsPressed c past e.label j w → HasRoom c j past
    → remaining_demand c (length past) (e ∷ past) j + blocking c (e ∷ past) j + spare c j + 1
    ≤ (window_end c j (length past) - length past) + ticks_lent c (length past) (e ∷ past) j
room-charged c j e past checked accepted audited known w pressed room =
    let n = length past in
    let fair = steady-fair c (e ∷ past) (steady c (e ∷ past) checked accepted audited) in
    let inv = holders-fit c past checked accepted audited.0 in
    let less = presses c j e past checked audited inv w pressed in
    let step = remaining-entry c j e past checked known fair audited (ready-of c e past fair audited) in
    let more : ticks_lent c n (e ∷ past) j ≡ lent_one e + ticks_lent c n past j = count-charged is_lent c e past j in
    omega (arith, less, step, more, room)

-- and so it does at the next tick of the window
pub room-step : (c : Configuration) (j : ℕ) (e : Entry) (past : List Entry) → IsChecked c → IsAccepted c → Audited c (e ∷ past) → j < length c.levels
    → suc (length past) % period c j ≡ suc (length past % period c j) → (w : Kind c past e.label) → IsPressed c past e.label j w
    → HasRoom c j past → HasRoom c j (e ∷ past)
room-step c j e past checked accepted audited known long w pressed room =
    let n = length past in
    let charged = room-charged c j e past checked accepted audited known w pressed room in
    let moves = remaining-moves c j e past checked known audited long in
    let same : window_end c j (suc n) ≡ window_end c j n = ap (λ w. w + period c j) (window_start-within c j n long) in
    let more : ticks_lent c (suc n) (e ∷ past) j ≡ ticks_lent c n (e ∷ past) j =
    ap (count_by is_lent) (window-goes-on c e past j long ∙ sym (window-charged c e past j)) in
    let place : n % period c j < period c j = mod-lt n (checked.positive j known) in
    let begun = window_start-le c j n in
    omega (arith, charged, moves, same, more, place)

pub spare_stays : Always SpareStays
spare_stays c [] checked accepted audited j known some = room-begins c j [] checked accepted audited known (zero-mod (period c j))
spare_stays c (e ∷ past) checked accepted audited j known some =
    elim (mod-next (length past) (period c j) (checked.positive j known)) [
      | inl begins ↦ room-begins c j (e ∷ past) checked accepted audited known begins.0
      | inr long ↦
          let fair = steady-fair c (e ∷ past) (steady c (e ∷ past) checked accepted audited) in
          let own = own-moves c j (length past) (e ∷ past) long in
          let before = own-entry c j e past checked fair audited in
          let works : 0 < own_demand c (length past) past j = omega (arith, own, before, some) in
          let w = kind c past e audited.1 in
          room-step c j e past checked accepted audited known long w (works-press c past e.label j known works w)
          (spare_stays c past checked accepted audited.0 j known works)
    ]

-- a level that has lent less than its spare has a tick to give
pub room-fits : (c : Configuration) (j : ℕ) (past : List Entry) → HasRoom c j past → ticks_lent c (length past) past j < spare c j
    → fits_at c (length past) past j ≡ true
room-fits c j past room less =
    let n = length past in
    let one : remaining_demand c n past j + blocking c past j + 1 ≤ window_end c j n - n = omega (arith, room, less) in
    let test : leb (remaining_demand c n past j + blocking c past j + 1) (window_end c j n - n) ≡ true = le-leb _ _ one in
    elim (cases_Bool (eqb (own_demand c n past j) 0)) [ inl none ↦ rw none refl | inr some ↦ rw some test ]

pub lent_fits : Always LentFits
lent_fits c past checked accepted audited left =
    all-true (fits_at c (length past) past) 0 (length c.levels) (λ j a b. at j (omega arith))
  where
    at : (j : ℕ) → j < length c.levels → fits_at c (length past) past j ≡ true
    at j known =
        elim (cases_Bool (eqb (own_demand c (length past) past j) 0)) [
          | inl none ↦ rw none refl
          | inr some ↦
              let works : 0 < own_demand c (length past) past j = grind (arith, nat_tests) in
              room-fits c j past (spare_stays c past checked accepted audited j known works) (left j known works)
        ]
