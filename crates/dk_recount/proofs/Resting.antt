-- Ticks one after the other of nobody.
use Rattle.dk_recount.proofs.Names.{◌≡◌, ◌<◌, ◌≤◌, ◌+◌, ◌∙◌, ◌∷◌, ℕ, zero, suc, List, [], length, map, Some, None, inl, refl, ap, sym, subst, arith, length-map, MAX_TICKS, Configuration, ThreadId, Choice, Work, Label, Entry, chosen, label_of, end_at, HasFamilies, IsSound, Tables, IsReady, MayCharge, MayCount, EndsAfter, MayCountFor, Passes, Rests, rested, nat_tests}
use Rattle.dk_recount.proofs.Stretching.{StretchLaws, all-more, begins-not, nobody-chosen}
use Rattle.dk_recount.proofs.Chains.{Chain, HoldsAreThePasts, chain-may, chain-passes}

sound-rested : (n : ℕ) (d : Tables) → IsSound d → IsSound (rested n d)
sound-rested n d s = grind (arith, nat_tests, length-map)

-- so many ticks and one more are one more of them
rested-more : (n : ℕ) (d : Tables) → rested 1 (rested n d) ≡ rested (suc n) d
rested-more n d =
    let clock : d.demand.windows.tick + n + 1 ≡ d.demand.windows.tick + suc n = omega arith in
    rw (clock, more n d.slack.unclaimed) refl
  where
    more : (n : ℕ) (us : List ℕ) → map (λ u. u + 1) (map (λ u. u + n) us) ≡ map (λ u. u + suc n) us
    more n [] = refl
    more n (u ∷ us) = (let one : u + n + 1 ≡ u + suc n = omega arith in rw (one, more n us) refl)

rested-none : (d : Tables) → d ≡ rested 0 d
rested-none d =
    let clock : d.demand.windows.tick + 0 ≡ d.demand.windows.tick = omega arith in
    rw (clock, none d.slack.unclaimed) refl
  where
    none : (us : List ℕ) → map (λ u. u + 0) us ≡ us
    none [] = refl
    none (u ∷ us) = (let one : u + 0 ≡ u = omega arith in rw (one, none us) refl)

module _ (n : ℕ) (d : Tables) (sound : IsSound d) (families : HasFamilies d) (rests : Rests d) (within : EndsAfter n d) where
  rest-chain : Chain Choice.Idle n (λ m. rested m d)
  rest-chain = record {
    more = λ m less. rested-more m d;
    rows = λ m. refl;
    families = λ m. families;
    sound = λ m. sound-rested m d sound;
    chosen = λ m less. nobody-chosen (rested m d) rests.work (λ on. rests.wish);
    free = λ m y names. absurd (nobody y names);
    still = λ m less. begins-not d.demand.windows (suc m) (omega arith) (sooner (suc m) d.demand.windows.tick (end_at d.demand.windows 0) less within);
  }
    where
      nobody : (y : ThreadId) → None ≡ Some y → ⊥
      nobody y names = cc

      sooner : (m t e : ℕ) → m ≤ n → t + n < e → t + m < e
      sooner m t e less within = omega (arith, less, within)

  module _ (laws : StretchLaws) (left : HoldsAreThePasts) where
    pub rest-passes : Passes Choice.Idle n d (rested n d)
    rest-passes = subst (λ t. Passes Choice.Idle n t (rested n d)) (sym (rested-none d)) (chain-passes laws left Choice.Idle n (λ m. rested m d) rest-chain n (omega arith))

-- what so many ticks of nobody owe
pub rest-counts : (laws : StretchLaws) → HoldsAreThePasts → (n : ℕ) (c : Configuration) (past : List Entry) (d : Tables) → IsReady c past d → IsSound d → HasFamilies d → Rests d
    → EndsAfter n d → length past + n ≤ MAX_TICKS → MayCountFor n None d.slack
rest-counts laws left zero c past d ready sound families rests within room =
    let is : Choice.Idle ≡ chosen c past = sym (nobody-chosen d rests.work (λ on. rests.wish)) ∙ laws.choice c past d ready families in
    let may : MayCharge Choice.Idle d = subst (λ z. MayCharge z d) (sym is) (laws.may c Label.Idle past d ready families sound (inl (ap (λ z. label_of z Work.Run) is))) in
    λ k x inside. (let one = may k x inside in omega (arith, one))
rest-counts laws left (suc n) c past d ready sound families rests within room =
    let may : MayCount None (rested n d).slack =
    chain-may laws left Choice.Idle (suc n) (λ m. rested m d) (rest-chain (suc n) d sound families rests within) c past (subst (IsReady c past) (rested-none d) ready) room n (omega arith) in
    all-more n d.slack.unclaimed may
