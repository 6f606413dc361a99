-- Ticks one after the other that all go to one choice.
use Rattle.dk_recount.proofs.Names.{◌≡◌, ◌<◌, ◌≤◌, ◌+◌, ◌-◌, ◌%◌, ◌^◌, ◌∙◌, ◌∷◌, ℕ, zero, suc, true, false, List, [], length, map, Option, None, inl, ap, sym, subst, arith, if◌then◌else◌, ◌==◌, nat_tests, mod-add-mod, mod-eq_of_lt, mod-le, mod-lt, MAX_TICKS, Configuration, first-none, Choice, Work, Label, Event, Entry, quiet, chosen, Audited, HasChosenLabel, label_of, Clock, begins_at, end_at, passed, period_at, first_node, HasFamilies, IsSound, Tables, IsBooked, IsCharged, IsClosed, IsReady, MayCharge, charged, HasNoWish, HasNoWork, choice_in, choice_of, fits_in, work_in, moved_on, IsUntold, entry_of, begun, due, opened, WhereClosed, WhereReady}
use Rattle.std.proofs.Common.{All}
use Rattle.dk_recount.proofs.Closing.{booked-closed}

-- the laws of one tick
pub record StretchLaws : Type 0 where
  pub choice : (c : Configuration) (past : List Entry) (d : Tables) → IsReady c past d → HasFamilies d → choice_of d ≡ chosen c past
  pub may : WhereReady (λ c label past d. MayCharge (chosen c past) d)
  pub charged : WhereReady (λ c label past d. length past < MAX_TICKS → IsCharged c label past (charged (chosen c past) d))
  pub untold : (c : Configuration) (label : Label) (past : List Entry) (event : Option Event) (d : Tables) → IsUntold event → IsCharged c label past d
      → IsBooked c (entry_of label event) past d
  pub opens : WhereClosed (λ c e past d. IsReady c (e ∷ past) (opened d))
  pub rests : (c : Configuration) (e : Entry) (past : List Entry) (d : Tables) → IsClosed c e past d → Audited c (e ∷ past)
      → begins_at d.demand.windows 0 ≡ false → due d ≡ d

-- a level without work and, where slack fits, without a wish asks for nothing
pub asks-nothing : (d : Tables) (k : ℕ) → work_in d k ≡ None → (fits_in d ≡ true → first_node k d.slack.wishes ≡ None) → choice_in d (fits_in d) k ≡ None
asks-nothing d k work wish = grind (arith, nat_tests)

pub nobody-chosen : (d : Tables) → HasNoWork d (length d.kernel) → (fits_in d ≡ true → HasNoWish d (length d.kernel)) → choice_of d ≡ Choice.Idle
nobody-chosen d work wish = grind (arith, nat_tests, first-none, asks-nothing)

-- no window begins before the present one ends
not-begun : (t n p : ℕ) → 0 < n → t + n < (t - t % p) + p → ((t + n) - (t + n) % p == t + n) ≡ false
not-begun t n zero some within = absurd (never t n (t % 0) within)
  where
    never : (t n r : ℕ) → t + n < (t - r) + 0 → ⊥
    never t n r within = omega (arith, within)
not-begun t n (suc q) some within =
    let p = suc q in
    let low : t % p < p = mod-lt t (omega arith) in
    let less : t % p + n < p = below-end t (t % p) n p (mod-le t p) within low in
    let rest : (t + n) % p ≡ t % p + n = sym (mod-add-mod t p n) ∙ mod-eq_of_lt less in
    apart (t + n) ((t + n) % p) (omega (arith, rest, some)) (omega (arith, some))
  where
    below-end : (t r n p : ℕ) → r ≤ t → t + n < (t - r) + p → r < p → r + n < p
    below-end t r n p whole within low = omega (arith, whole, within, low)

    apart : (a r : ℕ) → 0 < r → 0 < a → (a - r == a) ≡ false
    apart a r more some = grind (arith, nat_tests)

pub begins-not : (w : Clock) (n : ℕ) → 0 < n → w.tick + n < end_at w 0 → begins_at (passed n w) 0 ≡ false
begins-not w n some within = not-begun w.tick n (period_at w 0) some within

-- where no window begins, the opening of a closed tick changes nothing
opened-still : (d : Tables) → due d ≡ d → begins_at d.demand.windows 0 ≡ false → opened d ≡ d
opened-still d still off = ap (λ b. if b then begun (due d) else due d) off ∙ still

-- one tick more may be counted where it may after so many
pub all-more : (m : ℕ) (us : List ℕ) → All (λ u. u + 1 < 2 ^ 32) (map (λ u. u + m) us) → All (λ u. u + suc m < 2 ^ 32) us
all-more m [] h k x inside = absurd (omega (arith, inside))
all-more m (u ∷ us) h zero x inside = (let one = h 0 x (omega arith) in omega (arith, one))
all-more m (u ∷ us) h (suc k) x inside = all-more m us (λ i y below. h (suc i) y (omega (arith, below))) k x (omega (arith, inside))

module _ (laws : StretchLaws) where
  -- a tick whose entry has no event, from its charge to the next tick, where no window begins there
  pub passed-tick : (choice : Choice) (d : Tables) → HasFamilies d → IsSound d → HasFamilies (moved_on (charged choice d)) → IsSound (moved_on (charged choice d))
      → begins_at (moved_on (charged choice d)).demand.windows 0 ≡ false
      → (c : Configuration) (past : List Entry) → IsReady c past d → choice ≡ chosen c past → length past < MAX_TICKS
      → Audited c (quiet (label_of choice Work.Run) ∷ past)
      → IsReady c (quiet (label_of choice Work.Run) ∷ past) (moved_on (charged choice d))
  passed-tick choice d families sound families' sound' off c past ready is room audited =
      let label = label_of choice Work.Run in
      let e = quiet label in
      let D = moved_on (charged choice d) in
      let chose : HasChosenLabel (chosen c past) label = inl (ap (λ z. label_of z Work.Run) is) in
      let booked : IsCharged c label past (charged choice d) = subst (λ z. IsCharged c label past (charged z d)) (sym is) (laws.charged c label past d ready families sound chose room) in
      let closed : IsClosed c e past D = booked-closed c e past (charged choice d) (laws.untold c label past None (charged choice d) tt booked) in
      let still : due D ≡ D = laws.rests c e past D closed audited off in
      subst (IsReady c (e ∷ past)) (opened-still D still off)
      (laws.opens c e past D closed audited sound' families' (subst HasFamilies (sym still) families'))
