-- Where a mutex has one user, which may have no children, the user's main alone locks it.
use Rattle.dk_warnings.proofs.Names.{ℕ, ◌≡◌, ◌<◌, inl, inr, Bool, true, false, ◌||◌, eqb, List, [], ◌∷◌, length, refl, sym, ap, ◌∙◌, subst, arith, Option, Some, None, MatchOption, slice_get, list_any, option_map_or, and_parts, cases_lt, not-false, nat_tests, Configuration, Mutex, ProcessRow, IsWithinLimits, process_name, slots, is_user, uses, ThreadId, Event, Entry, is_same, quiet, Thread, family, is_main, lock_reasons, lock_refusal, Audited, Follows, row_of, none-holds, find-has, make-id, ThreadsPlaced, ChosenHolds, is_own_mutex, user_count, LocksAsMain, main_named}
use Rattle.std.specs.Str.{bytes_eq}
use Rattle.std.proofs.lemmas.Slice.Eq.{bytes_eq-Decides}
use Rattle.dk_warnings.proofs.Creates.{met-call, row-id}
use Rattle.dk_warnings.proofs.GreatestShares.{IsLentRoom, lent-room}
use Rattle.dk_warnings.proofs.Refused.{process-of}

first-of : (a : Bool) → (a || false) ≡ true → a ≡ true
first-of a h = grind (arith, nat_tests)

-- two names that are in a list of one name are one
of-users : (users : List (List ℕ)) (a b : List ℕ) → length users ≡ 1 → list_any (bytes_eq a) users ≡ true → list_any (bytes_eq b) users ≡ true → bytes_eq a b ≡ true
of-users [] a b one ha hb = absurd (cc)
of-users (u ∷ []) a b one ha hb = grind (arith, nat_tests, bytes_eq-Decides, first-of)
of-users (u ∷ v ∷ us) a b one ha hb = absurd (omega arith)

of-rows : (mutex : Mutex) (a b : Option ProcessRow) → length mutex.users ≡ 1 → option_map_or (uses mutex) a false ≡ true → option_map_or (uses mutex) b false ≡ true
    → bytes_eq (option_map_or (λ row. row.name) a []) (option_map_or (λ row. row.name) b []) ≡ true
of-rows mutex a b one ha hb = grind (arith, nat_tests, of-users)

of-mutex : (rows : List ProcessRow) (o : Option Mutex) (p q : ℕ) → option_map_or (λ mutex. length mutex.users) o 0 ≡ 1
    → option_map_or (λ mutex. option_map_or (uses mutex) (slice_get rows p) false) o false ≡ true
    → option_map_or (λ mutex. option_map_or (uses mutex) (slice_get rows q) false) o false ≡ true
    → bytes_eq (option_map_or (λ row. row.name) (slice_get rows p) []) (option_map_or (λ row. row.name) (slice_get rows q) []) ≡ true
of-mutex rows o p q one hp hq = grind (arith, nat_tests, of-rows)

same-name : (c : Configuration) (m p q : ℕ) → user_count c m ≡ 1 → is_user c m p ≡ true → is_user c m q ≡ true → bytes_eq (process_name c p) (process_name c q) ≡ true
same-name c m p q one hp hq = of-mutex c.processes (slice_get c.mutexes m) p q one hp hq

-- so there are no two users
one-user : (c : Configuration) (m p q : ℕ) → IsWithinLimits c → p < length c.processes → q < length c.processes → user_count c m ≡ 1 → is_user c m p ≡ true → is_user c m q ≡ true
    → q ≡ p
one-user c m p q limits hp hq one up uq =
    elim (cases_lt p q) [
      | inl before ↦
          let other = limits.distinct p q before hq in
          let same = same-name c m p q one up uq in
          absurd (cc)
      | inr after ↦
          elim (cases_lt q p) [
            | inl before ↦
                let other = limits.distinct q p before hp in
                let same = same-name c m q p one uq up in
                absurd (cc)
            | inr also ↦ omega arith
          ]
    ]

-- the row of whoever locks the mutex
locker-main : (c : Configuration) (past : List Entry) (e : Entry) (x : ThreadId) (m p : ℕ) (row : Thread) → IsWithinLimits c → Audited c past → p < length c.processes
    → x.process < length c.processes → is_own_mutex c m p ≡ true → row_of c past x ≡ Some row
    → lock_refusal c (length past) (quiet e.label ∷ past) row m ≡ None → x ≡ main_named p
locker-main c past e x m p row limits audited known there own found free =
    let parts = and_parts (is_user c m p) _ own in
    let rest = and_parts (eqb (user_count c m) 1) (eqb (slots c p) 0) parts.1 in
    let count : eqb (user_count c m) 1 ≡ true = rest.0 in
    let none : eqb (slots c p) 0 ≡ true = rest.1 in
    let one : user_count c m ≡ 1 = grind (arith, nat_tests) in
    let met = none-holds (lock_reasons c (length past) (quiet e.label ∷ past) row m) free in
    let id = row-id c past x row found in
    let user : is_user c m x.process ≡ true = subst (λ (i : ThreadId). is_user c m i.process ≡ true) (sym id) (not-false (is_user c m row.id.process) met.0) in
    let process : x.process ≡ p = one-user c m p x.process limits known there one parts.0 user in
    let f = find-has (λ z. is_same x z.id) (family c x.process past) row found in
    let main : is_main row ≡ true = childless c row p (ap (λ (i : ThreadId). i.process) (sym id) ∙ process) none (lent-room c x.process past audited row f.0) in
    let serial : x.serial ≡ 0 = let row_serial : row.id.serial ≡ 0 = grind (arith, nat_tests) in ap (λ (i : ThreadId). i.serial) id ∙ row_serial in
    make-id x (main_named p) process serial
  where
    childless : (c : Configuration) (row : Thread) (p : ℕ) → row.id.process ≡ p → eqb (slots c p) 0 ≡ true → IsLentRoom c row → is_main row ≡ true
    childless c row p same none (inl main) = main
    childless c row p same none (inr (room, some)) =
        let some_there : 0 < slots c p = subst (λ q. 0 < slots c q) same some in
        let no_slots : slots c p ≡ 0 = grind (arith, nat_tests) in
        absurd (omega arith)

by-row : (c : Configuration) (past : List Entry) (e : Entry) (x : ThreadId) (m p : ℕ) (found : Option Thread) → IsWithinLimits c → Audited c past → p < length c.processes
    → x.process < length c.processes → is_own_mutex c m p ≡ true → row_of c past x ≡ found
    → MatchOption found ⊥ (λ row. lock_refusal c (length past) (quiet e.label ∷ past) row m ≡ None) → x ≡ main_named p
by-row c past e x m p found limits audited known there own is met = grind (arith, nat_tests, locker-main)

pub locks-as-main : (c : Configuration) (m p : ℕ) → IsWithinLimits c → p < length c.processes → is_own_mutex c m p ≡ true
    → (past : List Entry) (e : Entry) → Audited c past → Follows c past e → ThreadsPlaced c past → ChosenHolds c past → LocksAsMain m p e
locks-as-main c m p limits known own past e older follows placed holds x thread is =
    by-row c past e x m p (row_of c past x) limits older known (process-of c past e x placed holds follows.choice thread) own refl
    (met-call c past e x (Event.Lock m) follows thread is)
