-- Each hold has the row of its mutex.
use Rattle.dk_picture.proofs.Names.{ℕ, zero, suc, ◌≡◌, ◌∙◌, ◌+◌, ◌<◌, ◌≤◌, [], ◌∷◌, List, length, take, sym, ap, refl, arith, eq-eqb, Bool, true, false, not, ◌||◌, ◌==◌, Option, Some, None, cond, if◌then◌else◌, max, nat_lt, reverse, slice_get, unwrap_or, AllByRecursion, list_any, position_or_len, eqb-true, slice_get_within, below, numbers, Entry, all_both, Holding, ended, holding, Hold, ended_hold, ended_holds, holds_behind, holds_in, open_hold, part_from, is_of_mutex, mutex_row, mutex_rows, row_of_mutex, HasMutexRow}
use Rattle.std.specs.Prelude.{flat_map}
use Rattle.dk_picture.proofs.Covered.{any_first, any_later, any_numbered}

module _ (m : ℕ) where
  abbrev is : ℕ → Bool
  is k = k == m

  found_at : (ms : List ℕ) → list_any is ms ≡ true → slice_get ms (position_or_len is ms) ≡ Some m
  found_at [] e = absurd (cc)
  found_at (k ∷ ks) e = go (is k) refl (λ more. found_at ks more)
    where
      go : (b : Bool) → is k ≡ b → (list_any is ks ≡ true → slice_get ks (position_or_len is ks) ≡ Some m) → slice_get (k ∷ ks) (cond (not b) (1 + position_or_len is ks) 0) ≡ Some m
      go true same rest = ap (λ n. Some n) (eqb-true k m same)
      go false other rest = let next : 1 + position_or_len is ks ≡ suc (position_or_len is ks) = omega arith in ap (slice_get (k ∷ ks)) next ∙ rest (sym (ap (λ b. b || list_any is ks) other) ∙ e)

  in_place : (ms : List ℕ) → list_any is ms ≡ true → slice_get ms (mutex_row ms m) ≡ Some m
  in_place ms e =
      let at = found_at ms e in
      let inside = slice_get_within ms (position_or_len is ms) m at in
      let yes : nat_lt (position_or_len is ms) (length ms) ≡ true = grind (arith, inside) in
      ap (λ b. slice_get ms (unwrap_or (cond b (Some (position_or_len is ms)) None) 0)) yes ∙ at

  row_there : (ds : List Hold) → m < 16 → list_any (is_of_mutex m) ds ≡ true → list_any is (mutex_rows ds) ≡ true
  row_there ds few has =
      any_numbered is (row_of_mutex ds) 0 16 m (omega arith) (omega (arith, few))
      (ap (λ b. list_any is (if b then m ∷ [] else [])) has ∙ any_first is m [] (eq-eqb m m refl))

abbrev HasFew : Hold → Type 0
HasFew d = d.mutex < 16

few_part : (from m end : ℕ) (o : Option Holding) → m < 16 → AllByRecursion HasFew (part_from from m end o)
few_part from m end None few = tt
few_part from m end (Some h) few = go (nat_lt (max h.since from) end)
  where
    go : (b : Bool) → AllByRecursion HasFew (if b then record { mutex = m; thread = h.thread; start = max h.since from; end = end } ∷ [] else [])
    go true = (few, tt)
    go false = tt

few_each : (f : ℕ → List Hold) → ((m : ℕ) → m < 16 → AllByRecursion HasFew (f m)) → (low n : ℕ) → low + n ≤ 16 → AllByRecursion HasFew (flat_map f (numbers low n))
few_each f each low zero within = tt
few_each f each low (suc n) within =
    all_both HasFew (f low) (flat_map f (numbers (suc low) n)) (each low (omega (arith, within))) (few_each f each (suc low) n (omega (arith, within)))

few_ended : (from : ℕ) (past : List Entry) → AllByRecursion HasFew (ended_holds from past)
few_ended from [] = tt
few_ended from (e ∷ past) =
    all_both HasFew (ended_holds from past) (flat_map (ended_hold from past e) (below 16)) (few_ended from past)
    (few_each (ended_hold from past e) (λ m few. few_part from m (length past + 1) (ended m e (holding m past)) few) 0 16 (omega arith))

few_behind : (from : ℕ) (past : List Entry) → AllByRecursion HasFew (holds_behind from past)
few_behind from past =
    all_both HasFew (ended_holds from past) (flat_map (open_hold from past) (below 16)) (few_ended from past)
    (few_each (open_hold from past) (λ m few. few_part from m (length past) (holding m past) few) 0 16 (omega arith))

wider : (P Q : Hold → Type 0) → ((d : Hold) → P d → Q d) → (ds : List Hold) → AllByRecursion P ds → AllByRecursion Q ds
wider P Q more [] all = tt
wider P Q more (d ∷ ds) all = (more d all.0, wider P Q more ds all.1)

abbrev IsAmong : List Hold → Hold → Type 0
IsAmong ds d = list_any (is_of_mutex d.mutex) ds ≡ true

all_among : (ds : List Hold) → AllByRecursion (IsAmong ds) ds
all_among [] = tt
all_among (d ∷ ds) = (
  any_first (is_of_mutex d.mutex) d ds (eq-eqb d.mutex d.mutex refl),
  wider (IsAmong ds) (IsAmong (d ∷ ds)) (λ x among. any_later (is_of_mutex x.mutex) d ds (is_of_mutex x.mutex d) refl among) ds (all_among ds),
)

all_in_rows : (whole ds : List Hold) → AllByRecursion HasFew ds → AllByRecursion (IsAmong whole) ds → AllByRecursion (HasMutexRow (mutex_rows whole)) ds
all_in_rows whole [] few among = tt
all_in_rows whole (d ∷ ds) few among = (
  in_place d.mutex (mutex_rows whole) (row_there d.mutex whole few.0 among.0),
  all_in_rows whole ds few.1 among.1,
)

pub holds_in_rows : (from to : ℕ) (es : List Entry) → AllByRecursion (HasMutexRow (mutex_rows (holds_in from to es))) (holds_in from to es)
holds_in_rows from to es =
    let ds = holds_in from to es in
    all_in_rows ds ds (few_behind from (reverse (take to es))) (all_among ds)
