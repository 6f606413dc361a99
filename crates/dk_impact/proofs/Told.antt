-- What the first change tells of what a process sees.
use Rattle.dk_impact.proofs.Names.{ℕ, zero, suc, ◌≡◌, ◌+◌, ◌<◌, ◌≤◌, ◌⊎◌, inl, inr, Bool, true, false, List, length, Option, Some, None, refl, sym, ap, subst, arith, slice_get, option_map_or, option_or, cases_lt, eqb_tells, slice_get_past, MAX_MUTEXES, Configuration, IsWithinLimits, numbers, first_of, Mutex, period, main_level, max_level, budget, memory, longest_hold, is_user, uses, Change, Sight, LocksNothing, MakesNoThread, SeesTheSame, SeesTheSameButTime, SeesTheSameMutexes, IsSight, TellsCall, TellsOf, but_time_change, cost_change, differs, use_of, mutex_change, mutexes_change, level_change, seen, use_change, first_change, Tells, nat_tests}
use Rattle.std.specs.Prelude.{IsTrue, is_none, ◌↔◌}

-- the numbers differ, or the search goes on
step : (P : Option Change → Type 0) (change : Change) (a b : ℕ) (rest : Option Change) → ((a ≡ b → ⊥) → P (Some change)) → (a ≡ b → P rest)
    → P (option_or (differs change a b) rest)
step P change a b rest other same = grind (arith, nat_tests, eqb_tells)

last-step : (P : Option Change → Type 0) (change : Change) (a b : ℕ) → ((a ≡ b → ⊥) → P (Some change)) → (a ≡ b → P None) → P (differs change a b)
last-step P change a b other same = grind (arith, nat_tests, eqb_tells)

or-or : (a b d : Option Change) → option_or (option_or a b) d ≡ option_or a (option_or b d)
or-or a b d = grind (arith, nat_tests)

-- what a mutex tells
data Use (m old new : ℕ) (u u' : Bool) : Option Change → Type 0 where
  same : u ≡ u' → (u ≡ true → old ≡ new) → Use m old new u u' None
  hold : u ≡ true → (old ≡ new → ⊥) → Use m old new u u' (Some (Change.Hold m))
  user : (u ≡ u' → ⊥) → Use m old new u u' (Some (Change.User m))

use-told : (m old new : ℕ) (u u' : Bool) → Use m old new u u' (use_of u u' m old new)
use-told m old new true true =
    last-step (λ o. Use m old new true true o) (Change.Hold m) old new (λ differ. hold refl differ) (λ equal. same refl (λ is. equal))
use-told m old new false false = same refl (λ is. cc)
use-told m old new true false = user (λ e. cc)
use-told m old new false true = user (λ e. cc)

-- Same says more than that the process sees the same but its time
module _ (c : Configuration) (p : ℕ) (c' : Configuration) (p' : ℕ) (program : List ℕ) (limits : IsWithinLimits c) (limits' : IsWithinLimits c')
    (Same : Type 0) (sees-of : Same → SeesTheSameButTime c p c' p' program) where
  abbrev T : Option Change → Type 0
  T o = TellsOf Same o

  abbrev f : ℕ → Option Change
  f m = mutex_change c p c' p' m

  seen-of : (some : ¬ LocksNothing program) (P : Type 0) → (SeesTheSameMutexes c p c' p' → P) → Same → P
  seen-of some P by sees = elim (sees-of sees).mutexes [ inl alike ↦ by alike | inr none ↦ absurd (some none) ]

  use-at : (some : ¬ LocksNothing program) (m : ℕ) (o : Option Change) → Use m (longest_hold c m) (longest_hold c' m) (is_user c m p) (is_user c' m p') o
      → (rest : Option Change) → (o ≡ None → T rest) → T (option_or o rest)
  use-at some m None told rest on = on refl
  use-at some m (Some x) (hold is differ) rest on = seen-of some ⊥ (λ same. differ (same.holds m is))
  use-at some m (Some x) (user differ) rest on = seen-of some ⊥ (λ same. differ (same.users m))

  -- the mutexes from a number on
  search-from : (some : ¬ LocksNothing program) (low n : ℕ) (rest : Option Change) → (((j : ℕ) → low ≤ j → j < low + n → f j ≡ None) → T rest)
      → T (option_or (first_of f (numbers low n)) rest)
  search-from some low zero rest on = on (λ j above under. absurd (omega arith))
  search-from some low (suc n) rest on =
      subst T (sym (or-or (f low) (first_of f (numbers (suc low) n)) rest))
      (use-at some low (f low) (use-told low (longest_hold c low) (longest_hold c' low) (is_user c low p) (is_user c' low p')) (option_or (first_of f (numbers (suc low) n)) rest)
      (λ here. search-from some (suc low) n rest (λ later. on (λ j above under. at j above under here later))))
    where
      at : (j : ℕ) → low ≤ j → j < low + suc n → f low ≡ None → ((i : ℕ) → suc low ≤ i → i < suc low + n → f i ≡ None) → f j ≡ None
      at j above under here later =
          elim (cases_lt low j) [
            | inl more ↦ later j (omega arith) (omega arith)
            | inr low_is ↦ let is : low ≡ j = omega arith in subst (λ k. f k ≡ None) is here
          ]

  -- a mutex that is seen unchanged
  unchanged : (m : ℕ) (u u' : Bool) (old new : ℕ) → Use m old new u u' (use_of u u' m old new) → use_of u u' m old new ≡ None → (u ≡ u') × (u ≡ true → old ≡ new)
  unchanged m u u' old new told none = by (use_of u u' m old new) told none
    where
      by : (o : Option Change) → Use m old new u u' o → o ≡ None → (u ≡ u') × (u ≡ true → old ≡ new)
      by None (same users holds) is = (users, holds)
      by (Some x) told is = cc

  nobody : (d : Configuration) (m q : ℕ) → length d.mutexes ≤ m → is_user d m q ≡ false
  nobody d m q past = ap (λ (o : Option Mutex). option_map_or (λ mutex. option_map_or (uses mutex) (slice_get d.processes q) false) o false) (slice_get_past d.mutexes m past)

  all-unchanged : ((j : ℕ) → j < MAX_MUTEXES → f j ≡ None) → (m : ℕ) → (is_user c m p ≡ is_user c' m p') × (is_user c m p ≡ true → longest_hold c m ≡ longest_hold c' m)
  all-unchanged none m = grind (arith, nat_tests, unchanged, use-told, nobody)

  -- the mutexes, where the program locks any
  mutexes-from : (b : Bool) → TellsCall b 5 program → (rest : Option Change) → (SeesTheSameMutexes c p c' p' ⊎ LocksNothing program → T rest)
      → T (option_or (seen b (mutexes_change c p c' p')) rest)
  mutexes-from false none rest on = on (inr none)
  mutexes-from true some rest on =
      search-from some 0 MAX_MUTEXES rest (λ none. on (inl (record {
        users = λ m. (all-unchanged (λ j within. none j (omega arith) (omega (arith, within))) m).0;
        holds = λ m. (all-unchanged (λ j within. none j (omega arith) (omega (arith, within))) m).1;
      })))

  abbrev Levels : Type 0
  Levels = ((main_level c p ≡ main_level c' p') × (max_level c p ≡ max_level c' p')) ⊎ MakesNoThread program

  -- and the numbers of its levels, where it makes a thread
  levels-from : (b : Bool) → TellsCall b 3 program → (Levels → T None) → T (seen b (level_change c p c' p'))
  levels-from false none on = on (inr none)
  levels-from true some on =
      step T Change.Levels (main_level c p) (main_level c' p') _ (λ differ sees. elim (sees-of sees).levels [ inl alike ↦ differ alike.0 | inr none ↦ some none ]) (λ own.
      last-step T Change.Levels (max_level c p) (max_level c' p') (λ differ sees. elim (sees-of sees).levels [ inl alike ↦ differ alike.1 | inr none ↦ some none ])
      (λ slowest. on (inl (own, slowest))))

  -- the costs
  costs-from : (rest : Option Change) → (c.costs.switch ≡ c'.costs.switch → c.costs.call ≡ c'.costs.call → T rest)
      → T (option_or (cost_change c c') rest)
  costs-from rest on =
      subst T (sym (or-or (differs Change.Switch c.costs.switch c'.costs.switch) (differs Change.Call c.costs.call c'.costs.call) rest))
      (step T Change.Switch c.costs.switch c'.costs.switch _ (λ differ sees. differ (sees-of sees).switch) (λ switch.
      step T Change.Call c.costs.call c'.costs.call _ (λ differ sees. differ (sees-of sees).call) (λ call. on switch call)))

  -- the memory, and what the program uses
  uses-from : (s : Sight) → IsSight s program → (c.costs.switch ≡ c'.costs.switch) → (c.costs.call ≡ c'.costs.call)
      → (SeesTheSameButTime c p c' p' program → Same)
      → T (option_or (differs Change.Memory (memory c p) (memory c' p')) (use_change s c p c' p'))
  uses-from s sight switch call all =
      step T Change.Memory (memory c p) (memory c' p') _ (λ differ sees. differ (sees-of sees).memory) (λ words.
      mutexes-from s.locks sight.locks _ (λ mutexes.
      levels-from s.creates sight.creates (λ levels.
      all (record { switch = switch; call = call; memory = words; mutexes = mutexes; levels = levels }))))

-- of all that it sees
pub told : (c : Configuration) (p : ℕ) (c' : Configuration) (p' : ℕ) (program : List ℕ) → IsWithinLimits c → IsWithinLimits c' → (s : Sight) → IsSight s program
    → Tells c p c' p' program (first_change s c p c' p')
told c p c' p' program limits limits' s sight =
    let Same = SeesTheSame c p c' p' program in
    let sees-of : Same → SeesTheSameButTime c p c' p' program = λ sees. sees.but_period.but_time in
    costs-from c p c' p' program limits limits' Same sees-of _ (λ switch call.
    subst (TellsOf Same) (sym (or-or (differs Change.Period (period c (main_level c p)) (period c' (main_level c' p'))) _ _))
    (step (TellsOf Same) Change.Period (period c (main_level c p)) (period c' (main_level c' p')) _ (λ differ sees. differ sees.period) (λ window.
    subst (TellsOf Same) (sym (or-or (differs Change.Budget (budget c p) (budget c' p')) (differs Change.Memory (memory c p) (memory c' p')) _))
    (step (TellsOf Same) Change.Budget (budget c p) (budget c' p') _ (λ differ sees. differ sees.but_period.budget) (λ part.
    uses-from c p c' p' program limits limits' Same sees-of s sight switch call (λ sees. record { but_period = record { but_time = sees; budget = part }; period = window }))))))

-- of all but its budget and the length of its windows
pub told-but-time : (c : Configuration) (p : ℕ) (c' : Configuration) (p' : ℕ) (program : List ℕ) → IsWithinLimits c → IsWithinLimits c' → (s : Sight) → IsSight s program
    → TellsOf (SeesTheSameButTime c p c' p' program) (but_time_change s c p c' p')
told-but-time c p c' p' program limits limits' s sight =
    let Same = SeesTheSameButTime c p c' p' program in
    costs-from c p c' p' program limits limits' Same (λ sees. sees) _ (λ switch call. uses-from c p c' p' program limits limits' Same (λ sees. sees) s sight switch call (λ sees. sees))

-- whether there is none
pub none-tells : (Same : Type 0) (change : Option Change) → TellsOf Same change → IsTrue (is_none change) ↔ Same
none-tells Same None so = (λ is. so, λ is. refl)
none-tells Same (Some change) differ = (λ is. absurd (let never : false ≡ true = is in cc), λ so. absurd (differ so))
