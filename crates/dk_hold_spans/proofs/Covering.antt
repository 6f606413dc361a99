-- The holds of a range that have a tick are those of the thread that holds the mutex there.
use Rattle.std.proofs.Common.{ℕ, zero, suc, ◌≡◌, ◌∙◌, ◌+◌, ◌<◌, ◌≤◌, ◌++◌, [], ◌∷◌, List, length, map, take, sym, ap, refl, arith, append_assoc, length-append}
use Rattle.std.specs.Prelude.{Bool, true, false, ◌&&◌, ◌==◌, Option, Some, None, cond, filter, flat_map, if◌then◌else◌, max, nat_le, nat_lt, option_map, option_to_list, reverse}
use Rattle.std.specs.Option.{option_or}
use Rattle.std.proofs.lemmas.Bool.{eq-eqb, eqb-false, eqb-true, le-leb, le-ltb, leb-false, leb-true, lt-leb, lt-ltb, ltb-false, ltb-true, ne_eqb, or_parts}
use Rattle.std.proofs.lemmas.List.{length-reverse, map-append, reverse-append}
use Rattle.std.proofs.lemmas.List.Elements.{filter-append}
use Rattle.dk_config.specs.Sums.{below, numbers}
use Rattle.dk_config.proofs.Lists.{or-none}
use Rattle.dk_trace.specs.declared.ThreadId.{ThreadId}
use Rattle.dk_trace.specs.declared.Entry.{Entry}
use Rattle.dk_trace.specs.Entries.{does, has_event, stops, thread_of}
use Rattle.dk_holds.specs.declared.holding.Holding.{Holding}
use Rattle.dk_holds.specs.Holds.{begun, behind, ended, ends, holding, is_lock_of, is_unlock_of}
use Rattle.dk_holds.proofs.Telling.{held, no_lock}
use Rattle.dk_hold_spans.specs.declared.hold.Hold.{Hold}
use Rattle.dk_hold_spans.specs.HoldLists.{ended_hold, ended_holds, holds_behind, holds_in, open_hold, part_from}
use Rattle.dk_hold_spans.specs.Laws.{has_tick, holder_at, threads_at}

middle_false : (a b c : Bool) → b ≡ false → (a && (b && c)) ≡ false
middle_false false b c is = refl
middle_false true b c is = ap (λ x. x && c) is

last_false : (a b c : Bool) → c ≡ false → (a && (b && c)) ≡ false
last_false false b c is = refl
last_false true false c is = refl
last_false true true c is = is

all_true : (a b c : Bool) → a ≡ true → b ≡ true → c ≡ true → (a && (b && c)) ≡ true
all_true a b c first second third = ap (λ x. x && (b && c)) first ∙ ap (λ x. x && c) second ∙ third

abbrev begun_as : ℕ → Bool → Option ThreadId → Option Holding
begun_as n b o = if b then option_map (λ x. record { thread = x; since = n + 1 }) o else None

begun_since : (m n : ℕ) (e : Entry) (h : Holding) → begun m n e ≡ Some h → h.since ≡ n + 1
begun_since m n e h is = go (has_event (is_lock_of m) e) (thread_of e.label) is
  where
    go : (b : Bool) (o : Option ThreadId) → begun_as n b o ≡ Some h → h.since ≡ n + 1
    go false o same = absurd (cc)
    go true None same = absurd (cc)
    go true (Some x) same =
        let new : Holding = record { thread = x; since = n + 1 } in
        let one : new ≡ h = cc in
        ap (λ (k : Holding). k.since) (sym one)

-- a hold has begun before
since_past : (m : ℕ) (past : List Entry) (h : Holding) → holding m past ≡ Some h → h.since ≤ length past
since_past m past h is =
    let told = held m past h is in
    let first = begun_since m (length told.earlier) told.lock h told.begins in
    let parts = ap length told.parts ∙ length-append told.later (told.lock ∷ told.earlier) in
    omega (arith, first, parts)

module _ (m from t : ℕ) where
  abbrev seen : List Hold → List ThreadId
  seen hs = threads_at m t hs

  both : (xs ys : List Hold) → seen (xs ++ ys) ≡ seen xs ++ seen ys
  both xs ys = ap (map (λ (h : Hold). h.thread)) (filter-append (has_tick m t) xs ys) ∙ map-append (λ (h : Hold). h.thread) (filter (has_tick m t) xs) (filter (has_tick m t) ys)

  -- one hold
  one_without : (h : Hold) → has_tick m t h ≡ false → seen (h ∷ []) ≡ []
  one_without h none = ap (λ b. map (λ (k : Hold). k.thread) (cond b (h ∷ []) [])) none

  one_with : (h : Hold) → has_tick m t h ≡ true → seen (h ∷ []) ≡ h.thread ∷ []
  one_with h some = ap (λ b. map (λ (k : Hold). k.thread) (cond b (h ∷ []) [])) some

  part_without : (k end : ℕ) (o : Option Holding) → ((h : Holding) → o ≡ Some h → has_tick m t (record { mutex = k; thread = h.thread; start = max h.since from; end = end }) ≡ false)
      → seen (part_from from k end o) ≡ []
  part_without k end None none = refl
  part_without k end (Some h) none = go (nat_lt (max h.since from) end)
    where
      go : (b : Bool) → seen (if b then record { mutex = k; thread = h.thread; start = max h.since from; end = end } ∷ [] else []) ≡ []
      go false = refl
      go true = one_without (record { mutex = k; thread = h.thread; start = max h.since from; end = end }) (none h refl)

  other_part : (k end : ℕ) (o : Option Holding) → (k ≡ m → ⊥) → seen (part_from from k end o) ≡ []
  other_part k end o apart =
      part_without k end o (λ h is. ap (λ b. b && (nat_le (max h.since from) t && nat_lt t end)) (ne_eqb k m apart))

  part_over : (k end : ℕ) (o : Option Holding) → end ≤ t → seen (part_from from k end o) ≡ []
  part_over k end o over = part_without k end o (λ h is. last_false (k == m) (nat_le (max h.since from) t) (nat_lt t end) (le-ltb t end over))

  part_to_come : (end : ℕ) (h : Holding) → t < h.since → seen (part_from from m end (Some h)) ≡ []
  part_to_come end h later =
      part_without m end (Some h)
      (λ k is.
      let same : h ≡ k = cc in
      let since = ap (λ (j : Holding). j.since) same in
      middle_false (m == m) (nat_le (max k.since from) t) (nat_lt t end) (lt-leb (max k.since from) t (omega (arith, later, since))))

  part_there : (end : ℕ) (h : Holding) → from ≤ t → h.since ≤ t → t < end → seen (part_from from m end (Some h)) ≡ h.thread ∷ []
  part_there end h in_range begun_before before = go (nat_lt (max h.since from) end) refl
    where
      go : (b : Bool) → nat_lt (max h.since from) end ≡ b
          → seen (if b then record { mutex = m; thread = h.thread; start = max h.since from; end = end } ∷ [] else []) ≡ h.thread ∷ []
      go true is =
          one_with (record { mutex = m; thread = h.thread; start = max h.since from; end = end })
          (all_true (m == m) (nat_le (max h.since from) t) (nat_lt t end) (eq-eqb m m refl) (le-leb (max h.since from) t (omega (arith, in_range, begun_before))) (lt-ltb t end before))
      go false is = let over = ltb-false _ _ is in absurd (omega (arith, over, in_range, begun_before, before))

  -- of all mutexes the own one alone counts
  later_own : (f : ℕ → List Hold) → ((k : ℕ) → (k ≡ m → ⊥) → seen (f k) ≡ []) → (low n : ℕ) → m < low → seen (flat_map f (numbers low n)) ≡ []
  later_own f other low zero past = refl
  later_own f other low (suc n) past =
      both (f low) (flat_map f (numbers (suc low) n)) ∙ ap (λ x. x ++ seen (flat_map f (numbers (suc low) n))) (other low (λ same. omega (arith, same, past)))
      ∙ later_own f other (suc low) n (omega (arith, past))

  nil_right : (xs : List ThreadId) → xs ++ [] ≡ xs
  nil_right [] = refl
  nil_right (x ∷ xs) = ap (λ ys. x ∷ ys) (nil_right xs)

  own_from : (f : ℕ → List Hold) → ((k : ℕ) → (k ≡ m → ⊥) → seen (f k) ≡ []) → (low n : ℕ) → low ≤ m → m < low + n → seen (flat_map f (numbers low n)) ≡ seen (f m)
  own_from f other low zero from_low to_high = absurd (omega (arith, from_low, to_high))
  own_from f other low (suc n) from_low to_high =
      go (low == m) refl (λ apart. own_from f other (suc low) n (omega (arith, from_low, apart)) (omega (arith, to_high)))
    where
      go : (b : Bool) → (low == m) ≡ b → ((low ≡ m → ⊥) → seen (flat_map f (numbers (suc low) n)) ≡ seen (f m)) → seen (f low ++ flat_map f (numbers (suc low) n)) ≡ seen (f m)
      go true is rest =
          let same = eqb-true low m is in
          both (f low) (flat_map f (numbers (suc low) n)) ∙ ap (λ x. seen (f low) ++ x) (later_own f other (suc low) n (omega (arith, same))) ∙ nil_right (seen (f low)) ∙ ap (λ k. seen (f k)) same
      go false is rest =
          let apart = eqb-false low m is in
          both (f low) (flat_map f (numbers (suc low) n)) ∙ ap (λ x. x ++ seen (flat_map f (numbers (suc low) n))) (other low apart)
          ∙ rest apart

  module _ (few : m < 16) where
    own : (f : ℕ → List Hold) → ((k : ℕ) → (k ≡ m → ⊥) → seen (f k) ≡ []) → seen (flat_map f (below 16)) ≡ seen (f m)
    own f other = own_from f other 0 16 (omega arith) (omega (arith, few))

    -- what ended before has no tick any more
    all_over : (past : List Entry) → length past ≤ t → seen (ended_holds from past) ≡ []
    all_over [] over = refl
    all_over (e ∷ past) over =
        both (ended_holds from past) (flat_map (ended_hold from past e) (below 16))
        ∙ ap (λ x. x ++ seen (flat_map (ended_hold from past e) (below 16))) (all_over past (omega (arith, over)))
        ∙ own (ended_hold from past e) (λ k apart. other_part k (length past + 1) (ended k e (holding k past)) apart)
        ∙ part_over m (length past + 1) (ended m e (holding m past)) (omega (arith, over))

    begun_to_come : (n end : ℕ) (e : Entry) → t ≤ n → seen (part_from from m end (begun m n e)) ≡ []
    begun_to_come n end e before = go (begun m n e) refl
      where
        go : (o : Option Holding) → begun m n e ≡ o → seen (part_from from m end o) ≡ []
        go None is = refl
        go (Some h) is = let first = begun_since m n e h is in part_to_come end h (omega (arith, first, before))

    -- an entry either ends the hold, or leaves it
    split : (e : Entry) (n : ℕ) (o : Option Holding) → t ≤ n
        → seen (part_from from m (n + 1) (ended m e o)) ++ seen (part_from from m (suc n) (behind m n e o)) ≡ seen (part_from from m (n + 1) o)
    split e n None before = ap (λ o. seen (part_from from m (suc n) o)) (or-none (begun m n e)) ∙ begun_to_come n (suc n) e before
    split e n (Some h) before = go (ends m h.thread e) refl
      where
        go : (b : Bool) → ends m h.thread e ≡ b
            → seen (part_from from m (n + 1) (if b then Some h else None)) ++ seen (part_from from m (suc n) (option_or (begun m n e) (if b then None else Some h)))
            ≡ seen (part_from from m (n + 1) (Some h))
        go true is =
            ap (λ x. seen (part_from from m (n + 1) (Some h)) ++ x) (ap (λ o. seen (part_from from m (suc n) o)) (or-none (begun m n e)) ∙ begun_to_come n (suc n) e before)
            ∙ nil_right (seen (part_from from m (n + 1) (Some h)))
        go false is =
            let locks = (or_parts (stops h.thread e) (has_event (is_lock_of m) e) (or_parts (does (is_unlock_of m) h.thread e) _ is).1).1 in
            let end : suc n ≡ n + 1 = omega arith in
            ap (λ o. seen (part_from from m (suc n) (option_or o (Some h)))) (no_lock m n e locks) ∙ ap (λ k. seen (part_from from m k (Some h))) end

    -- the holds behind an entry more
    one_entry : (past : List Entry) (e : Entry) → t ≤ length past
        → seen (holds_behind from (e ∷ past)) ≡ seen (ended_holds from past) ++ seen (part_from from m (length past + 1) (holding m past))
    one_entry past e before =
        let fs = flat_map (ended_hold from past e) (below 16) in
        let os = flat_map (open_hold from (e ∷ past)) (below 16) in
        both (ended_holds from past ++ fs) os ∙ ap (λ x. x ++ seen os) (both (ended_holds from past) fs)
        ∙ append_assoc (seen (ended_holds from past)) (seen fs) (seen os)
        ∙ ap (λ x. seen (ended_holds from past) ++ (x ++ seen os)) (own (ended_hold from past e) (λ k apart. other_part k (length past + 1) (ended k e (holding k past)) apart))
        ∙ ap (λ x. seen (ended_holds from past) ++ (seen (ended_hold from past e m) ++ x)) (own (open_hold from (e ∷ past)) (λ k apart. other_part k (suc (length past)) (holding k (e ∷ past)) apart))
        ∙ ap (λ x. seen (ended_holds from past) ++ x) (split e (length past) (holding m past) before)

    longer : (n : ℕ) (o : Option Holding) → from ≤ t → t < n → seen (part_from from m (n + 1) o) ≡ seen (part_from from m n o)
    longer n None in_range before = refl
    longer n (Some h) in_range before = go (nat_le h.since t) refl
      where
        go : (b : Bool) → nat_le h.since t ≡ b → seen (part_from from m (n + 1) (Some h)) ≡ seen (part_from from m n (Some h))
        go true is =
            let begins = leb-true h.since t is in
            part_there (n + 1) h in_range begins (omega (arith, before)) ∙ sym (part_there n h in_range begins before)
        go false is =
            let later = leb-false h.since t is in
            part_to_come (n + 1) h later ∙ sym (part_to_come n h later)

    -- in the newest tick
    newest_tick : (past : List Entry) (e : Entry) → from ≤ t → t ≡ length past → seen (holds_behind from (e ∷ past)) ≡ option_to_list (option_map (λ (h : Holding). h.thread) (holding m past))
    newest_tick past e in_range is =
        one_entry past e (omega (arith, is)) ∙ ap (λ x. x ++ seen (part_from from m (length past + 1) (holding m past))) (all_over past (omega (arith, is)))
        ∙ go (holding m past) refl
      where
        go : (o : Option Holding) → holding m past ≡ o → seen (part_from from m (length past + 1) o) ≡ option_to_list (option_map (λ (h : Holding). h.thread) o)
        go None held_by = refl
        go (Some h) held_by = let first = since_past m past h held_by in part_there (length past + 1) h in_range (omega (arith, first, is)) (omega (arith, is))

    earlier_tick : (past : List Entry) (e : Entry) → from ≤ t → t < length past → seen (holds_behind from (e ∷ past)) ≡ seen (holds_behind from past)
    earlier_tick past e in_range before =
        one_entry past e (omega (arith, before)) ∙ ap (λ x. seen (ended_holds from past) ++ x) (longer (length past) (holding m past) in_range before)
        ∙ ap (λ x. seen (ended_holds from past) ++ x) (sym (own (open_hold from past) (λ k apart. other_part k (length past) (holding k past) apart)))
        ∙ sym (both (ended_holds from past) (flat_map (open_hold from past) (below 16)))

    take_next : (es : List Entry) (i : ℕ) → i < length es → (e : Entry) × (take (suc i) es ≡ take i es ++ e ∷ [])
    take_next [] i less = absurd (omega arith)
    take_next (x ∷ xs) zero less = (x, refl)
    take_next (x ∷ xs) (suc i) less = let rest = take_next xs i (omega (arith, less)) in (rest.0, ap (λ ys. x ∷ ys) rest.1)

    taken : (n : ℕ) (es : List Entry) → n ≤ length es → length (take n es) ≡ n
    taken zero es within = refl
    taken (suc n) [] within = absurd (omega (arith, within))
    taken (suc n) (x ∷ xs) within = ap suc (taken n xs (omega (arith, within)))

    pub covered : (to : ℕ) (es : List Entry) → from ≤ t → t < to → to ≤ length es → seen (holds_in from to es) ≡ option_to_list (holder_at m t es)
    covered zero es in_range before within = absurd (omega (arith, before))
    covered (suc to) es in_range before within =
        let next = take_next es to (omega (arith, within)) in
        let past = reverse (take to es) in
        let newer : reverse (take (suc to) es) ≡ next.0 ∷ past = ap reverse next.1 ∙ reverse-append (take to es) (next.0 ∷ []) in
        let count : length past ≡ to = length-reverse (take to es) ∙ taken to es (omega (arith, within)) in
        ap (λ p. seen (holds_behind from p)) newer ∙ go next.0 count (nat_lt t to) refl (λ less. covered to es in_range less (omega (arith, within)))
      where
        go : (e : Entry) → length (reverse (take to es)) ≡ to → (b : Bool) → nat_lt t to ≡ b → (t < to → seen (holds_in from to es) ≡ option_to_list (holder_at m t es))
            → seen (holds_behind from (e ∷ reverse (take to es))) ≡ option_to_list (holder_at m t es)
        go e count true is earlier =
            let less = ltb-true t to is in
            earlier_tick (reverse (take to es)) e in_range (omega (arith, less, count)) ∙ earlier less
        go e count false is earlier =
            let over = ltb-false _ _ is in
            let last : t ≡ to = omega (arith, over, before) in
            newest_tick (reverse (take to es)) e in_range (last ∙ sym count) ∙ ap (λ n. option_to_list (holder_at m n es)) (sym last)
