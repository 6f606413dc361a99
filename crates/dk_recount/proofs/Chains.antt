-- Ticks that all go to one choice, through tables that are each those of one tick more.
use Rattle.dk_recount.proofs.Names.{◌≡◌, ◌<◌, ◌≤◌, ◌+◌, ◌∙◌, ◌∷◌, ◌++◌, ℕ, zero, suc, false, List, length, Some, inl, refl, ap, sym, subst, arith, replicate, MAX_TICKS, Configuration, ThreadId, Choice, Work, Entry, quiet, thread_of, chosen, held_by, innermost_left, label_of, quiet-follows, begins_at, hold_left, HasFamilies, IsSound, Tables, IsReady, MayCharge, charged, choice_of, moved_on, TellsOf, tells-ready, IsPassed, Passes, nat_tests}
use Rattle.dk_recount.proofs.Stretching.{StretchLaws, passed-tick}

abbrev pub HoldsAreThePasts : Type 0
HoldsAreThePasts = (c : Configuration) (past : List Entry) (d : Tables) (x : ThreadId) → TellsOf d c past → hold_left x d.mutexes ≡ innermost_left c (held_by x past)

-- Each tick goes to the choice, whose thread holds nothing, and no window begins after it.
pub record Chain (choice : Choice) (n : ℕ) (after : ℕ → Tables) : Type 0 where
  pub more : (m : ℕ) → suc m ≤ n → moved_on (charged choice (after m)) ≡ after (suc m)
  pub rows : (m : ℕ) → (after (suc m)).threads ≡ (after m).threads
  pub families : (m : ℕ) → HasFamilies (after m)
  pub sound : (m : ℕ) → IsSound (after m)
  pub chosen : (m : ℕ) → m < n → choice_of (after m) ≡ choice
  pub free : (m : ℕ) (y : ThreadId) → thread_of (label_of choice Work.Run) ≡ Some y → hold_left y (after m).mutexes ≡ 0
  pub still : (m : ℕ) → suc m ≤ n → begins_at (after (suc m)).demand.windows 0 ≡ false

module _ (laws : StretchLaws) (left : HoldsAreThePasts) (choice : Choice) (n : ℕ) (after : ℕ → Tables) (chain : Chain choice n after) where
  abbrev e : Entry
  e = quiet (label_of choice Work.Run)

  chosen-at : (m : ℕ) → m < n → (c : Configuration) (past : List Entry) → IsReady c past (after m) → choice ≡ chosen c past
  chosen-at m less c past ready = sym (chain.chosen m less) ∙ laws.choice c past (after m) ready (chain.families m)

  free-at : (m : ℕ) (c : Configuration) (past : List Entry) (y : ThreadId) → IsReady c past (after m) → thread_of (label_of choice Work.Run) ≡ Some y
      → innermost_left c (held_by y past) ≡ 0
  free-at m c past y ready names = sym (left c past (after m) y (tells-ready ready)) ∙ chain.free m y names

  -- one tick more
  one-passed : (m : ℕ) → suc m ≤ n → IsPassed choice (after m) (after (suc m))
  one-passed m less =
      let D = after m in
      let E = moved_on (charged choice D) in
      let is : E ≡ after (suc m) = chain.more m less in
      record {
        rows = chain.rows m;
        chosen = chosen-at m (omega (arith, less));
        free = free-at m;
        ready = λ c past ready room audited.
            subst (IsReady c (e ∷ past)) is
            (passed-tick laws choice D (chain.families m) (chain.sound m) (subst HasFamilies (sym is) (chain.families (suc m))) (subst IsSound (sym is) (chain.sound (suc m)))
            (ap (λ (t : Tables). begins_at t.demand.windows 0) is ∙ chain.still m less) c past ready (chosen-at m (omega (arith, less)) c past ready) room audited);
      }

  pub chain-passes : (m : ℕ) → m ≤ n → Passes choice m (after 0) (after m)
  chain-passes zero less = refl
  chain-passes (suc m) less = (after m, chain-passes m (omega (arith, less)), one-passed m less)

  module _ (c : Configuration) (past : List Entry) (stands : IsReady c past (after 0)) (room : length past + n ≤ MAX_TICKS) where
    abbrev all : ℕ → List Entry
    all m = replicate m e ++ past

    length-all : (m : ℕ) → length (all m) ≡ length past + m
    length-all zero = omega arith
    length-all (suc m) = (let rest = length-all m in omega (arith, rest))

    -- the tables after so many of them are the recount of the past with their entries
    pub chain-ready : (m : ℕ) → m ≤ n → IsReady c (all m) (after m)
    chain-ready zero less = stands
    chain-ready (suc m) less = grind (arith, nat_tests, one-passed, length-all, quiet-follows, chain-ready m)

    pub chain-may : (m : ℕ) → m < n → MayCharge choice (after m)
    chain-may m less =
        let before = chain-ready m (omega (arith, less)) in
        let is = chosen-at m less c (all m) before in
        subst (λ z. MayCharge z (after m)) (sym is)
        (laws.may c (label_of choice Work.Run) (all m) (after m) before (chain.families m) (chain.sound m) (inl (ap (λ z. label_of z Work.Run) is)))
