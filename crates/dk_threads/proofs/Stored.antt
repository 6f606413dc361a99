-- What an insert into the slab and a removal leave of the rows.
use Rattle.dk_threads.proofs.Names.{◌≡◌, ◌==◌, ◌<◌, ◌≤◌, ◌||◌, ◌∙◌, ℕ, zero, suc, drop, get_or, sym, ◌+◌, Bool, true, false, List, [], ◌∷◌, ◌++◌, length, refl, ap, arith, Some, None, slice_get, remove, IsSome, list_any, cons_option, option_map_or, at_drop_more, filter_map-append, list_any-append, nat_tests, slice_get_past, Slab, get, slab_len, Updates, MAX_CHILDREN, ThreadRow, rows_at, AreKeys, IsStored}
use Rattle.std.specs.Prelude.{Option}

-- a key that had nothing is none of those that have a row
pub not_among : (slab : Slab ThreadRow) (keys : List ℕ) (key : ℕ) → AreKeys slab keys → get slab key ≡ None → list_any (λ q. q == key) keys ≡ false
not_among slab [] key held none = refl
not_among slab (k ∷ ks) key held none = grind (arith, nat_tests, not_among slab ks)

-- where another key changes, the rows stay
pub rows_stay : (old new : Slab ThreadRow) (keys : List ℕ) (key : ℕ) (slot : Option ThreadRow) → Updates old new key slot
    → list_any (λ q. q == key) keys ≡ false → rows_at new keys ≡ rows_at old keys
rows_stay old new [] key slot change apart = refl
rows_stay old new (k ∷ ks) key slot change apart = grind (arith, nat_tests, rows_stay old new ks key slot change)

AreKeys-stay : (old new : Slab ThreadRow) (keys : List ℕ) (key : ℕ) (slot : Option ThreadRow) → Updates old new key slot
    → list_any (λ q. q == key) keys ≡ false → AreKeys old keys → AreKeys new keys
AreKeys-stay old new [] key slot change apart held = tt
AreKeys-stay old new (k ∷ ks) key slot change apart held = grind (arith, nat_tests, AreKeys-stay old new ks key slot change)

length-cons_option : (o : Option ThreadRow) (rows : List ThreadRow) → IsSome o → length (cons_option o rows) ≡ suc (length rows)
length-cons_option o rows some = grind (arith, nat_tests)

-- there are as many rows as keys
pub length-rows_at : (slab : Slab ThreadRow) (keys : List ℕ) → AreKeys slab keys → length (rows_at slab keys) ≡ length keys
length-rows_at slab [] held = refl
length-rows_at slab (k ∷ ks) held = length-cons_option (get slab k) (rows_at slab ks) held.0 ∙ ap suc (length-rows_at slab ks held.2)

pub rows_at-push : (slab : Slab ThreadRow) (keys : List ℕ) (k : ℕ) (row : ThreadRow) → get slab k ≡ Some row
    → rows_at slab (keys ++ k ∷ []) ≡ rows_at slab keys ++ row ∷ []
rows_at-push slab keys k row here = rw (filter_map-append, here) refl

AreKeys-push : (slab : Slab ThreadRow) (keys : List ℕ) (key : ℕ) → AreKeys slab keys → IsSome (get slab key)
    → list_any (λ q. q == key) keys ≡ false → AreKeys slab (keys ++ key ∷ [])
AreKeys-push slab [] key held here apart = (here, refl, tt)
AreKeys-push slab (k ∷ ks) key held here apart = grind (arith, nat_tests, list_any-append, AreKeys-push slab ks)

-- a key that had nothing and has a row now comes last
pub AreKeys-more : (old new : Slab ThreadRow) (keys : List ℕ) (key : ℕ) (row : ThreadRow) → AreKeys old keys → get old key ≡ None
    → Updates old new key (Some row) → AreKeys new (keys ++ key ∷ [])
AreKeys-more old new keys key row held vacant change = grind (arith, nat_tests, not_among, AreKeys-push, AreKeys-stay)

-- the rows once the first is taken out
pub AreKeys-fewer : (old new : Slab ThreadRow) (key : ℕ) (keys : List ℕ) → AreKeys old (key ∷ keys) → Updates old new key None → AreKeys new keys
AreKeys-fewer old new key keys held change = AreKeys-stay old new keys key None change held.1 held.2

pub rows_at-first : (old new : Slab ThreadRow) (key : ℕ) (keys : List ℕ) (row : ThreadRow) → AreKeys old (key ∷ keys) → get old key ≡ Some row
    → Updates old new key None → rows_at old (key ∷ keys) ≡ row ∷ rows_at new keys
rows_at-first old new key keys row held here change = grind (arith, nat_tests, rows_stay)

slice_get-cons_option : (o : Option ThreadRow) (rows : List ThreadRow) → IsSome o → slice_get (cons_option o rows) 0 ≡ o
slice_get-cons_option o rows some = grind (arith, nat_tests)

slice_get-suc : (o : Option ThreadRow) (rows : List ThreadRow) (i : ℕ) → IsSome o → slice_get (cons_option o rows) (suc i) ≡ slice_get rows i
slice_get-suc o rows i some = grind (arith, nat_tests)

-- the row of a place is that of its key
pub row_at : (slab : Slab ThreadRow) (keys : List ℕ) (i d : ℕ) → AreKeys slab keys → i < length keys
    → slice_get (rows_at slab keys) i ≡ get slab (get_or keys i d)
row_at slab [] i d held h = absurd (omega arith)
row_at slab (k ∷ ks) zero d held h = slice_get-cons_option (get slab k) (rows_at slab ks) held.0
row_at slab (k ∷ ks) (suc i) d held h = slice_get-suc (get slab k) (rows_at slab ks) i held.0 ∙ row_at slab ks i d held.2 (omega arith)

pub no_row_at : (slab : Slab ThreadRow) (keys : List ℕ) (i : ℕ) → AreKeys slab keys → length keys ≤ i → slice_get (rows_at slab keys) i ≡ None
no_row_at slab keys i held past = grind (arith, nat_tests, length-rows_at, slice_get_past)

-- what is left once the first row is taken out
pub first_out : (old new : Slab ThreadRow) (keys rest : List ℕ) (key : ℕ) (row : ThreadRow) → IsStored old keys → 0 < length keys
    → key ≡ get_or keys 0 key → rest ≡ remove keys 0 → get old key ≡ Some row → Updates old new key None
    → slab_len new + 1 ≡ slab_len old → new.capacity ≡ old.capacity
    → IsStored new rest × (rows_at old keys ≡ row ∷ rows_at new rest) × (length rest < MAX_CHILDREN)
first_out old new keys rest key row stored some is left here change fewer same = grind (arith, nat_tests, AreKeys-fewer, rows_at-first)

-- whether one of the rows from a key on passes a test
pub any-turn : (test : ThreadRow → Bool) (slab : Slab ThreadRow) (keys : List ℕ) (i d : ℕ) → i < length keys
    → list_any test (rows_at slab (drop i keys)) ≡ (option_map_or test (get slab (get_or keys i d)) false || list_any test (rows_at slab (drop (i + 1) keys)))
any-turn test slab keys i d below =
    at_drop_more (λ (ks : List ℕ). list_any test (rows_at slab ks)) keys i d below
    ∙ first (get slab (get_or keys i d)) (rows_at slab (drop (i + 1) keys))
  where
    first : (o : Option ThreadRow) (rows : List ThreadRow) → list_any test (cons_option o rows) ≡ (option_map_or test o false || list_any test rows)
    first None rows = refl
    first (Some row) rows = refl

-- the row of a key that fails the test is passed
pub any-passed : (test : ThreadRow → Bool) (slab : Slab ThreadRow) (keys : List ℕ) (i d : ℕ) → i < length keys
    → option_map_or test (get slab (get_or keys i d)) false ≡ false
    → list_any test (rows_at slab (drop (i + 1) keys)) ≡ list_any test (rows_at slab (drop i keys))
any-passed test slab keys i d below off =
    sym (any-turn test slab keys i d below ∙ ap (λ b. b || list_any test (rows_at slab (drop (i + 1) keys))) off)

-- and one that passes it is found
pub any-found : (test : ThreadRow → Bool) (slab : Slab ThreadRow) (keys : List ℕ) (i d : ℕ) → i < length keys
    → option_map_or test (get slab (get_or keys i d)) false ≡ true → list_any test (rows_at slab (drop i keys)) ≡ true
any-found test slab keys i d below on =
    any-turn test slab keys i d below ∙ ap (λ b. b || list_any test (rows_at slab (drop (i + 1) keys))) on
