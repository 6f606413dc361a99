-- The table stays the recount of the past through a tick without an event.
use Rattle.dk_mutex.proofs.Names.{◌≡◌, ◌-◌, ◌∙◌, inl, inr, Bool, true, false, ℕ, zero, suc, List, [], ◌∷◌, map, Option, None, ap, sym, subst, refl, arith, option_map_or, cases_Bool, and-false, Configuration, ThreadId, Event, Entry, is_same, is_of, does, stops, thread_of, Hold, aged, held_by, same-id, Lockable, row_of, rows_of, spent, left_at, IsRecount, counted_left, emptied, hold_at, nat_tests}
use Rattle.std.proofs.Common.{option_map}
use Rattle.dk_trace.specs.Holds.{hold_left}
use Rattle.dk_mutex.proofs.Lefts.{nothing-held}

emptied-start : (c : Configuration) (ms : List ℕ) → map emptied (map (row_of c) ms) ≡ map (row_of c) ms
emptied-start c [] = refl
emptied-start c (m ∷ ms) = ap (λ rows. row_of c m ∷ rows) (emptied-start c ms)

pub recount-start : (c : Configuration) → IsRecount c [] (rows_of c)
recount-start c = grind (arith, nat_tests, emptied-start, nothing-held)

emptied-spent : (id : ThreadId) (rows : List Lockable) → map emptied (map (spent id) rows) ≡ map emptied rows
emptied-spent id [] = refl
emptied-spent id (row ∷ rows) = ap (λ rest. emptied row ∷ rest) (emptied-spent id rows)

pub left-spent-own : (id : ThreadId) (rows : List Lockable) (m : ℕ)
    → left_at id (map (spent id) rows) m ≡ option_map (λ n. n - 1) (left_at id rows m)
left-spent-own id [] m = refl
left-spent-own id (row ∷ rows) zero = grind (arith, nat_tests)
left-spent-own id (row ∷ rows) (suc m) = left-spent-own id rows m

pub left-spent-other : (x id : ThreadId) → is_same x id ≡ false → (rows : List Lockable) (m : ℕ)
    → left_at x (map (spent id) rows) m ≡ left_at x rows m
left-spent-other x id apart [] m = refl
left-spent-other x id apart (row ∷ rows) zero = grind (arith, nat_tests, same-id)
left-spent-other x id apart (row ∷ rows) (suc m) = grind (arith, nat_tests, same-id, left-spent-other x id apart rows m)

pub does-nothing : (test : Event → Bool) (x : ThreadId) (e : Entry) → e.event ≡ None → does test x e ≡ false
does-nothing test x e none = rw none (and-false (is_of x e))

pub stops-none : (x : ThreadId) (e : Entry)
    → ((test : Event → Bool) (y : ThreadId) → does test y e ≡ false) → stops x e ≡ false
stops-none x e nothing = grind (arith, nat_tests)

pub held-own : (x : ThreadId) (e : Entry) (past : List Entry) → e.event ≡ None → is_of x e ≡ true
    → held_by x (e ∷ past) ≡ map aged (held_by x past)
held-own x e past none mine = rw (stops-none x e (λ test y. does-nothing test y e none), mine, none) refl

pub hold_at-aged : (m : ℕ) (held : List Hold) → hold_at m (map aged held) ≡ option_map aged (hold_at m held)
hold_at-aged m [] = refl
hold_at-aged m (h ∷ held) = grind (arith, nat_tests, hold_at-aged m held)

left-aged : (c : Configuration) (o : Option Hold)
    → option_map (hold_left c) (option_map aged o) ≡ option_map (λ n. n - 1) (option_map (hold_left c) o)
left-aged c o = grind (arith, nat_tests)

counted-own : (c : Configuration) (id : ThreadId) (e : Entry) (past : List Entry) (m : ℕ) → e.event ≡ None → is_of id e ≡ true
    → counted_left c (e ∷ past) id m ≡ option_map (λ n. n - 1) (counted_left c past id m)
counted-own c id e past m none mine = grind (arith, nat_tests, held-own, hold_at-aged, left-aged)

counted-other : (c : Configuration) (x : ThreadId) (e : Entry) (past : List Entry) (m : ℕ) → stops x e ≡ false → is_of x e ≡ false
    → counted_left c (e ∷ past) x m ≡ counted_left c past x m
counted-other c x e past m stays other = grind (arith, nat_tests)

pub not-of : (x id : ThreadId) (o : Option ThreadId) → is_same x id ≡ false → option_map_or (is_same id) o false ≡ true
    → option_map_or (is_same x) o false ≡ false
not-of x id o apart mine = grind (arith, nat_tests)

pub recount-tick : (c : Configuration) (past : List Entry) (rows : List Lockable) (id : ThreadId) (e : Entry)
    → IsRecount c past rows → is_of id e ≡ true → e.event ≡ None → IsRecount c (e ∷ past) (map (spent id) rows)
recount-tick c past rows id e before mine none = record {
  mutexes = emptied-spent id rows ∙ before.mutexes;
  holds = λ x m.
      elim (cases_Bool (is_same x id)) [
        | inl same ↦
            subst (λ y. left_at y (map (spent id) rows) m ≡ counted_left c (e ∷ past) y m) (sym (same-id x id same))
            (left-spent-own id rows m ∙ ap (option_map (λ n. n - 1)) (before.holds id m) ∙ sym (counted-own c id e past m none mine))
        | inr apart ↦ grind (arith, nat_tests, left-spent-other, counted-other, stops-none, does-nothing, not-of)
      ];
}

pub recount-nobody : (c : Configuration) (past : List Entry) (rows : List Lockable) (e : Entry)
    → IsRecount c past rows → thread_of e.label ≡ None → IsRecount c (e ∷ past) rows
recount-nobody c past rows e before nobody = grind (arith, nat_tests)
