-- Ticks one after the other of a thread that has slack and holds nothing.
use Rattle.dk_recount.proofs.Names.{◌≡◌, ◌<◌, ◌≤◌, ◌+◌, ◌-◌, ◌∙◌, ℕ, suc, List, length, map, Some, None, refl, ap, sym, subst, arith, length-map, MAX_TICKS, Configuration, ThreadId, Phase, Source, Choice, Entry, end_at, Lockable, spent_row, hold_left, Wish, spent_wish, spent_for, counted, counted_for, counted-more, counted-none, spent-more, spent-none, HasFamilies, IsSound, Tables, node_in, IsReady, MaySlack, charged, moved_on, EndsAfter, Lends, MayCountFor, Passes, lent, nat_tests}
use Rattle.dk_recount.proofs.Stretching.{StretchLaws, all-more, begins-not}
use Rattle.dk_recount.proofs.Chains.{Chain, HoldsAreThePasts, chain-may, chain-passes}

fields : (d : Tables) (m m' : List Lockable) (t t' : ℕ) (w w' : List (List Wish)) (u u' : List ℕ) → m ≡ m' → t ≡ t' → w ≡ w' → u ≡ u'
    → record d { mutexes = m; demand = record d.demand { windows = record d.demand.windows { tick = t } }; slack = record d.slack { wishes = w; unclaimed = u } }
    ≡ record d { mutexes = m'; demand = record d.demand { windows = record d.demand.windows { tick = t' } }; slack = record d.slack { wishes = w'; unclaimed = u' } }
fields d m m' t t' w w' u u' one two three four = rw (one, two, three, four) refl

module _ (x : ThreadId) (d : Tables) where
  abbrev node : ℕ
  node = node_in d.threads x

  pub lent-none : lent x 0 d ≡ d
  lent-none =
      let clock : d.demand.windows.tick + 0 ≡ d.demand.windows.tick = omega arith in
      fields d d.mutexes d.mutexes (d.demand.windows.tick + 0) d.demand.windows.tick (spent_for node 0 d.slack.wishes) d.slack.wishes (counted_for 0 None d.slack.unclaimed) d.slack.unclaimed
      refl clock (spent-none node d.slack.wishes) (counted-none d.slack.unclaimed)

  pub sound-lent : IsSound d → (m : ℕ) → IsSound (lent x m d)
  sound-lent s m = grind (arith, nat_tests, length-map)

  module _ (source : Source) (sound : IsSound d) (n : ℕ) (lends : Lends x source n d) (within : EndsAfter n d) (families : HasFamilies d) where
    abbrev choice : Choice
    choice = Choice.Slack x source Phase.Body

    -- one more tick
    lent-more : (m : ℕ) → suc m ≤ n → moved_on (charged choice (lent x m d)) ≡ lent x (suc m) d
    lent-more m less =
        let wish = lends.wish in
        let one : m + 1 ≡ suc m = omega arith in
        let clock : d.demand.windows.tick + m + 1 ≡ d.demand.windows.tick + suc m = omega arith in
        fields d (map (spent_row x) d.mutexes) d.mutexes (d.demand.windows.tick + m + 1) (d.demand.windows.tick + suc m)
        (spent_wish node (spent_for node m d.slack.wishes)) (spent_for node (suc m) d.slack.wishes)
        (counted None (counted_for m None d.slack.unclaimed)) (counted_for (suc m) None d.slack.unclaimed) lends.holds clock
        (spent-more node m d.slack.wishes (omega (arith, less, wish)))
        (counted-more 1 m d.slack.unclaimed ∙ ap (λ k. counted_for k None d.slack.unclaimed) one)

    same-name : (y : ThreadId) → Some x ≡ Some y → x ≡ y
    same-name y names = cc

    sooner : (m t e : ℕ) → m ≤ n → t + n < e → t + m < e
    sooner m t e less within = omega (arith, less, within)

    lend-chain : Chain choice n (λ m. lent x m d)
    lend-chain = record {
      more = lent-more;
      rows = λ m. refl;
      families = λ m. families;
      sound = sound-lent sound;
      chosen = lends.chosen;
      free = λ m y names. subst (λ z. hold_left z d.mutexes ≡ 0) (same-name y names) lends.free;
      still = λ m less. begins-not d.demand.windows (suc m) (omega arith) (sooner (suc m) d.demand.windows.tick (end_at d.demand.windows 0) less within);
    }

    module _ (laws : StretchLaws) (left : HoldsAreThePasts) where
      pub lend-passes : Passes choice n d (lent x n d)
      lend-passes = subst (λ t. Passes choice n t (lent x n d)) lent-none (chain-passes laws left choice n (λ m. lent x m d) lend-chain n (omega arith))

      pub lend-counts : (c : Configuration) (past : List Entry) → IsReady c past d → length past + n ≤ MAX_TICKS → 0 < n → MayCountFor n None d.slack
      lend-counts c past ready room some =
          let last : suc (n - 1) ≡ n = omega (arith, some) in
          let may : MaySlack x (lent x (n - 1) d) =
          chain-may laws left choice n (λ m. lent x m d) lend-chain c past (subst (IsReady c past) (sym lent-none) ready) room (n - 1) (omega (arith, some)) in
          subst (λ k. MayCountFor k None d.slack) last (all-more (n - 1) d.slack.unclaimed may.count)
