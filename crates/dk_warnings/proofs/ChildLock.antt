-- A process whose greatest share has room for a hold can lock it, by its main or by a child that has that share.
use Rattle.dk_warnings.proofs.Names.{ℕ, suc, ◌≡◌, ◌+◌, ◌-◌, ◌*◌, ◌/◌, ◌%◌, ◌<◌, ◌≤◌, inl, inr, Bool, true, false, cond, eqb, leb, List, [], ◌∷◌, length, refl, sym, ap, ◌∙◌, subst, arith, Some, None, not, find, filter, cases_Bool, cases_lt, or_from, eq-eqb, le-ltb, lt-leb, nat_tests, zero-mod, Configuration, IsChecked, IsAccepted, period, budget, longest_hold, main_level, max_level, slots, window_end, is_user, Work, Label, Choice, Refusal, Event, Entry, Has, is_same, quiet, Thread, main_thread, family, share, is_main, is_void, is_ended_by, Received, least_share, first_refusal, create_refusal, standing_children, Audited, label_of, family-charged, same-self, Always, ChoosesWithCause, IsLocked, NeverFits, greatest_child_share}
use Rattle.std.proofs.Common.{◌&&◌}
use Rattle.std.proofs.lemmas.Nat.Gcd.{mod-eq-zero_of_dvd}
use Rattle.dk_trace.proofs.Rows.{window_end-above, dvd-end}
use Rattle.dk_warnings.proofs.QuietRuns.{IsFree, quiet_run, length-quiet, held-none, family-quiet, quiet-audited}
use Rattle.dk_warnings.proofs.FirstLock.{Begins, FirstBody, first-body, locked}

-- none of the six reasons holds
unrefused : (a b d e f g : Bool) → a ≡ false → b ≡ false → d ≡ false → e ≡ false → f ≡ false → g ≡ false
    → first_refusal ((a, Refusal.NotMain) ∷ (b, Refusal.Level) ∷ (d, Refusal.Entry) ∷ (e, Refusal.Slots) ∷ (f, Refusal.TooSmall) ∷ (g, Refusal.Budget) ∷ []) ≡ None
unrefused a b d e f g p q r s t u = rw (p, q, r, s, t, u) refl

up-to-itself : (a : ℕ) → leb a a ≡ true
up-to-itself a = grind (arith, nat_tests)

module _ (c : Configuration) (p : ℕ) (checked : IsChecked c) (accepted : IsAccepted c) (known : p < length c.processes)
    (causes : Always ChoosesWithCause) (received : Always Received) where
  abbrev main : Thread
  main = main_thread c p

  -- the main begins with the run
  main-begins : Begins c [] main
  main-begins =
      record {
        audited = tt;
        free = λ x. refl;
        known = known;
        has = inl refl;
        found = ap (λ b. cond b (Some main) None) (same-self main.id);
        running = refl;
        aligned = zero-mod (period c (main_level c p));
        positive = checked.positive (main_level c p) (checked.levels p known);
        causes = λ t. causes c (quiet_run c [] t) checked accepted (quiet-audited c [] t tt (λ x. refl));
        received = λ t. (received c (quiet_run c [] t) checked accepted (quiet-audited c [] t tt (λ x. refl))).0;
      }

  main-share : share c [] main 0 ≡ budget c p
  main-share = omega arith

  module _ (some : 0 < slots c p) (enough : least_share c ≤ greatest_child_share c p) where
    abbrev L : ℕ
    L = max_level c p

    abbrev quota : ℕ
    quota = budget c p - least_share c

    abbrev P : ℕ
    P = period c L

    child_share_is : greatest_child_share c p ≡ (quota * P) / period c (main_level c p)
    child_share_is = let any : eqb (slots c p) 0 ≡ false = grind (arith, nat_tests) in rw any refl

    room : least_share c ≤ share c [] main 0
    room = let least = checked.budgets p known in let is = main-share in omega (arith, least, is)

    -- the main's first tick of body makes the child
    abbrev first : (t : ℕ) × FirstBody c [] main t
    first = first-body c [] main main-begins room

    abbrev past : List Entry
    past = quiet_run c [] first.0

    abbrev n : ℕ
    n = length past

    abbrev made : Entry
    made = record { label = Label.Call main.id; event = Some (Event.Create 1 L quota) }

    abbrev child : Thread
    child = record { id = record { process = p; serial = 1 }; level = L; quota = quota; start = window_end c L n; stop = None }

    family-past : family c p past ≡ main ∷ []
    family-past = family-quiet c [] p first.0

    family-charged-past : family c p (quiet (Label.Call main.id) ∷ past) ≡ main ∷ []
    family-charged-past = family-charged c p (Label.Call main.id) past ∙ family-past

    free-past : IsFree past
    free-past = held-none c [] first.0 (λ x. refl)

    no-children : standing_children c n (quiet (Label.Call main.id) ∷ past) p ≡ []
    no-children = ap (filter (λ y. not (is_main y) && not (is_void y) && not (is_ended_by c n y))) family-charged-past

    create-free : create_refusal c n (quiet (Label.Call main.id) ∷ past) main L quota 0 1 ≡ None
    create-free = grind (arith, nat_tests, child_share_is, unrefused, or_from, le-ltb, no-children, lt-leb)

    made-audited : Audited c (made ∷ past)
    made-audited = (
      quiet-audited c [] first.0 tt (λ x. refl),
      record {
        choice = inr (sym (ap (λ (ch : Choice). label_of ch Work.Call) first.1.choice));
        work = tt;
        thread = grind (arith, nat_tests, free-past, family-past, create-free);
      },
    )

    made-free : IsFree (made ∷ past)
    made-free x = grind (arith, nat_tests, free-past)

    family-made : family c p (made ∷ past) ≡ main ∷ child ∷ []
    family-made = grind (arith, nat_tests, same-self, family-past)

    -- the child's first window
    abbrev base : List Entry
    base = quiet_run c (made ∷ past) (window_end c L n - suc n)

    base-length : length base ≡ window_end c L n
    base-length = grind (arith, nat_tests, length-quiet, window_end-above)

    base-audited : Audited c base
    base-audited = quiet-audited c (made ∷ past) (window_end c L n - suc n) made-audited made-free

    base-free : IsFree base
    base-free = held-none c (made ∷ past) (window_end c L n - suc n) made-free

    base-family : family c p base ≡ main ∷ child ∷ []
    base-family = family-quiet c (made ∷ past) p (window_end c L n - suc n) ∙ family-made

    child-found : find (λ y. is_same child.id y.id) (main ∷ child ∷ []) ≡ Some child
    child-found = rw (eq-eqb p p refl) refl

    child-begins : Begins c base child
    child-begins =
        record {
          audited = base-audited;
          free = base-free;
          known = known;
          has = subst (λ ys. Has ys child) (sym base-family) (inr (inl refl));
          found = ap (λ ys. find (λ y. is_same child.id y.id) ys) base-family ∙ child-found;
          running = refl;
          aligned = ap (λ k. k % P) base-length ∙ mod-eq-zero_of_dvd P (dvd-end c L n);
          positive = checked.positive L (checked.reaches p known);
          causes = λ t. causes c (quiet_run c base t) checked accepted (quiet-audited c base t base-audited base-free);
          received = λ t. (received c (quiet_run c base t) checked accepted (quiet-audited c base t base-audited base-free)).0;
        }

    child-share : share c base child (length base) ≡ greatest_child_share c p
    child-share = grind (arith, nat_tests, up-to-itself, base-length, child_share_is)

    by-child : (m : ℕ) → is_user c m p ≡ true → longest_hold c m + least_share c ≤ greatest_child_share c p → IsLocked c p m
    by-child m user fits = locked c base child child-begins m p refl user (let is = child-share in omega (arith, is, fits))

  by-main : (m : ℕ) → is_user c m p ≡ true → longest_hold c m + least_share c ≤ budget c p → IsLocked c p m
  by-main m user fits = locked c [] main main-begins m p refl user (let is = main-share in omega (arith, is, fits))

  -- by one of the two
  pub fitting : (m : ℕ) → is_user c m p ≡ true → ¬ NeverFits c p m → IsLocked c p m
  fitting m user fits =
      elim (cases_lt (budget c p) (longest_hold c m + least_share c)) [
        | inr own ↦ by-main m user own
        | inl short ↦
            elim (cases_lt (greatest_child_share c p) (longest_hold c m + least_share c)) [
              | inr lent ↦
                  elim (cases_Bool (eqb (slots c p) 0)) [
                    | inl none ↦ (let nothing : greatest_child_share c p ≡ 0 = rw none refl in absurd (omega (arith, nothing, lent)))
                    | inr some ↦ (let any : 0 < slots c p = grind (arith, nat_tests) in by-child any (omega (arith, lent)) m user lent)
                  ]
              | inl never ↦ absurd (fits (omega (arith, short, never)))
            ]
      ]
