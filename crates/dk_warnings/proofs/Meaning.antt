-- Each warning that is told holds.
use Rattle.dk_warnings.proofs.Names.{ℕ, ◌≡◌, ◌+◌, ◌<◌, inl, inr, Bool, true, false, eqb, ltb, ◌∷◌, ◌++◌, length, refl, sym, subst, arith, Option, Some, None, option_map, option_to_list, if◌then◌else◌, and_parts, nat_tests, Configuration, below, IsAccepted, IsChecked, IsWithinLimits, is_user, spare, longest_hold, may_ask, least_share, Has, find-has, has-append, has-flat, has-numbers, Always, ChoosesWithCause, ChosenHolds, ThreadsPlaced, NeverFits, NeverLocked, greatest_share, body, full_level, has_no_child, is_long_hold, is_own_mutex, long_hold, no_child, no_spare, of_mutex, of_process, of_user, own_mutex, room, short_body, warnings, IsFirstFull, IsRoom, LocksNever, OfEachEntry, Says}
use Rattle.dk_warnings.specs.declared.warning.Warning.{Warning}
use Rattle.dk_warnings.specs.declared.warning.Warning.TheVariants as warning
use Rattle.dk_warnings.proofs.Ceilings.{certifies-too}
use Rattle.dk_warnings.proofs.Creates.{creates-refused, makes-none}
use Rattle.dk_warnings.proofs.NoSpare.{takes-no-spare}
use Rattle.dk_warnings.proofs.OwnMutexes.{locks-as-main}
use Rattle.dk_warnings.proofs.Searching.{none-before}
use Rattle.dk_warnings.proofs.ShortBodies.{short-body}

-- what is told where a test passes
when-told : (b : Bool) (w x : Warning) → Has (option_to_list (if b then Some w else None)) x → (b ≡ true) × (w ≡ x)
when-told b w x none = grind (arith, nat_tests)

spare-told : (b : Bool) (o : Option ℕ) (p : ℕ) (x : Warning) → Has (option_to_list (if b then option_map (warning.NoSpare p) o else None)) x
    → (level : ℕ) × (o ≡ Some level) × (warning.NoSpare p level ≡ x)
spare-told true (Some level) p x (inl is) = (level, refl, is)
spare-told true (Some level) p x (inr none) = absurd none
spare-told true None p x none = absurd none
spare-told false o p x none = absurd none

module _ (causes : Always ChoosesWithCause) (holds : Always ChosenHolds) (placed : Always ThreadsPlaced) (never : Always NeverLocked)
    (c : Configuration) (checked : IsChecked c) (limits : IsWithinLimits c) (accepted : IsAccepted c) where
  child-says : (p : ℕ) → p < length c.processes → has_no_child c p ≡ true → Says c (warning.NoChild p)
  child-says p known none = let refused = creates-refused c p checked known none in (refused, makes-none c p refused)

  body-says : (p : ℕ) → p < length c.processes → ltb (body c p) c.costs.call ≡ true → Says c (warning.ShortBody p (body c p))
  body-says p known test =
      record {
        leaves = let least = checked.budgets p known in omega (arith, least);
        short = grind (arith, nat_tests);
        left = λ past row audited choice found. short-body c p past row (causes c past checked accepted audited) choice found;
      }

  spare-says : (p level : ℕ) → full_level c ≡ Some level → Says c (warning.NoSpare p level)
  spare-says p level found =
      let f = find-has (λ j. eqb (spare c j) 0) (below (length c.levels)) level found in
      let none : eqb (spare c level) 0 ≡ true = f.1 in
      let inside = (has-numbers 0 (length c.levels) level f.0).1 in
      let before = none-before (λ j. eqb (spare c j) 0) 0 (length c.levels) level found in
      let is : IsFirstFull c level = record { known = omega arith; full = grind (arith, nat_tests); first = λ j below. grind (arith, nat_tests, before j) } in
      (λ past e audited. takes-no-spare c past e level is.known is.full audited.1, is)

  mutex-says : (m p : ℕ) → p < length c.processes → is_own_mutex c m p ≡ true → Says c (warning.OwnMutex m p)
  mutex-says m p known own past e (older, follows) =
      locks-as-main c m p limits known own past e older follows (placed c past checked accepted older) (holds c past checked accepted older)

  room-says : (p : ℕ) → p < length c.processes → IsRoom c p (room c p)
  room-says p known =
      let least = checked.budgets p known in
      record { fits = λ long. omega (arith, least, long); no_more = omega (arith, least) }

  locks-never : (m p : ℕ) → is_long_hold c m p ≡ true → OfEachEntry c (LocksNever m p)
  locks-never m p long past e audited x thread same is =
      let parts = and_parts (is_user c m p) (ltb (greatest_share c p) (longest_hold c m + least_share c)) long in
      let test : ltb (greatest_share c p) (longest_hold c m + least_share c) ≡ true = parts.1 in
      let fits : NeverFits c p m = grind (arith, nat_tests) in
      (never c (e ∷ past) checked accepted audited).1 x m thread is (subst (λ q. NeverFits c q m) (sym same) fits)

  hold-says : (m p : ℕ) → p < length c.processes → is_long_hold c m p ≡ true → Says c (warning.LongHold m p (room c p))
  hold-says m p known long = (locks-never m p long, room-says p known)

  of-process : (p : ℕ) → p < length c.processes → (w : Warning) → Has (of_process c p) w → Says c w
  of-process p known w has =
      elim (has-append (option_to_list (no_child c p)) (option_to_list (short_body c p) ++ option_to_list (no_spare c p)) w has) [
        | inl child ↦ grind (arith, nat_tests, when-told, child-says)
        | inr rest ↦
            elim (has-append (option_to_list (short_body c p)) (option_to_list (no_spare c p)) w rest) [
              | inl short ↦ grind (arith, nat_tests, when-told, body-says)
              | inr slack ↦
                  let r = spare-told (may_ask c p) (full_level c) p w slack in
                  subst (Says c) r.2 (spare-says p r.0 r.1)
            ]
      ]

  of-user : (m p : ℕ) → p < length c.processes → (w : Warning) → Has (of_user c m p) w → Says c w
  of-user m p known w has =
      elim (has-append (option_to_list (own_mutex c m p)) (option_to_list (long_hold c m p)) w has) [
        | inl own ↦
            let r = when-told (is_own_mutex c m p) (warning.OwnMutex m p) w own in
            subst (Says c) r.1 (mutex-says m p known r.0)
        | inr long ↦
            let r = when-told (is_long_hold c m p) (warning.LongHold m p (room c p)) w long in
            subst (Says c) r.1 (hold-says m p known r.0)
      ]

  of-mutex : (m : ℕ) (w : Warning) → Has (of_mutex c m) w → Says c w
  of-mutex m w has = grind (arith, nat_tests, has-append, when-told, certifies-too, has-flat, of-user)

  pub of-all : (w : Warning) → Has (warnings c) w → Says c w
  of-all w has = grind (arith, nat_tests, has-append, has-flat, of-process, of-mutex)
