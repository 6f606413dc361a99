-- A window that is told as overrun is one by the entries, as the report of windows counts it.
use Rattle.dk_picture.proofs.Names.{ℕ, zero, suc, ◌≡◌, ◌∙◌, ◌+◌, ◌-◌, ◌<◌, ◌≤◌, ◌%◌, ◌⊎◌, inl, inr, ◌++◌, [], ◌∷◌, List, length, sym, ap, refl, arith, Bool, true, false, not, ◌&&◌, ◌||◌, ◌==◌, Option, Some, None, count_by, if◌then◌else◌, max, min, nat_le, nat_lt, option_to_list, replicate, reverse, list_any, option_map_or, flat_map-append, eqb-true, eqb-false, ltb-false, nat_tests, list_any-append, IsPermutation-reverse, list_any-IsPermutation, ltb-true, Configuration, period, ThreadId, Event, Entry, Label, does, is_budget_of, is_end, is_of, is_same, is_wait, stops, thread_of, window, past_at, LedgerLine, AreFilled, entries_of, lines_of, is_cut, groups, slice, whole_slice, did_in, is_overrun, is_done_in, is_last, main_of, overran_in, used_in}
use Rattle.std.specs.Prelude.{flat_map}
use Rattle.dk_picture.proofs.Shared.{counted_back, end_in, first_in, part, parts, used_counted, window_of}

and_false : (a b : Bool) → b ≡ false → (a && b) ≡ false
and_false true b is = is
and_false false b is = refl

or_none : (a : Bool) → (a || false) ≡ a
or_none true = refl
or_none false = refl

-- ---- a main waits or is stopped with one of the events that end its job

twice : (a : Bool) → (a || a || false) ≡ a
twice true = refl
twice false = refl

own_end : (p : ℕ) (e : Entry) → stops (main_of p) e ≡ does is_end (main_of p) e
own_end p e = twice (does is_end (main_of p) e)

in_two : (o a b r s : Bool) → ((o && (a || b)) || (r || s)) ≡ (((o && a) || r) || ((o && b) || s))
in_two false a b true s = refl
in_two false a b false s = refl
in_two true true b r s = refl
in_two true false true true s = refl
in_two true false true false s = refl
in_two true false false true s = refl
in_two true false false false s = refl

either : (p : ℕ) (e : Entry) (r s : Bool) → (does is_last (main_of p) e || (r || s)) ≡ ((does is_wait (main_of p) e || r) || (stops (main_of p) e || s))
either p e r s = go e.event ∙ ap (λ t. (does is_wait (main_of p) e || r) || (t || s)) (sym (own_end p e))
  where
    go : (o : Option Event) → ((is_of (main_of p) e && option_map_or is_last o false) || (r || s))
        ≡ (((is_of (main_of p) e && option_map_or is_wait o false) || r) || ((is_of (main_of p) e && option_map_or is_end o false) || s))
    go None = in_two (is_of (main_of p) e) false false r s
    go (Some event) = in_two (is_of (main_of p) e) (is_wait event) (is_end event) r s

all_either : (p : ℕ) (es : List Entry) → list_any (does is_last (main_of p)) es ≡ (list_any (does is_wait (main_of p)) es || list_any (stops (main_of p)) es)
all_either p [] = refl
all_either p (e ∷ es) =
    ap (λ b. does is_last (main_of p) e || b) (all_either p es)
    ∙ either p e (list_any (does is_wait (main_of p)) es) (list_any (stops (main_of p)) es)

module _ (x : ThreadId) (first end : ℕ) where
  abbrev done : LedgerLine → Bool
  done g = is_done_in x first end g

  abbrev own : LedgerLine → Bool
  own g = option_map_or (is_same x) (thread_of g.label) false

  abbrev within : ℕ → Bool
  within n = nat_lt first n && nat_le n end

  outside : (n : ℕ) → (n ≤ first) ⊎ (end < n) → within n ≡ false
  outside n (inl low) = grind (arith, nat_tests, low)
  outside n (inr high) = grind (arith, nat_tests, high)

  not_within : (g : LedgerLine) → (g.start + g.count ≤ first) ⊎ (end < g.start + g.count) → done g ≡ false
  not_within g out = and_false (own g && option_map_or is_last g.event false) (within (g.start + g.count)) (outside (g.start + g.count) out)

  not_there : (a n from to : ℕ) → min (a + n) to ≤ max a from → 0 < n → from ≤ first → end ≤ to → within (a + n) ≡ false
  not_there a n from to over filled low high = grind (arith, nat_tests, over, filled, low, high)

  -- ---- a line and its part in a wider range end in the window alike

  same_end : (a n from to : ℕ) → max a from < min (a + n) to → min (a + n) to ≡ a + n → max a from + (min (a + n) to - max a from) ≡ a + n
  same_end a n from to some whole = omega (arith, some, whole)

  cut_event : (from to : ℕ) (l : LedgerLine) (k : Bool) → (end_in to l == l.start + l.count) ≡ k → first_in from l < end_in to l → end ≤ to
      → ((own l && option_map_or is_last (if k then l.event else None) false) && within (first_in from l + (end_in to l - first_in from l))) ≡ done l
  cut_event from to l true is some high =
      ap (λ n. (own l && option_map_or is_last l.event false) && within n) (same_end l.start l.count from to some (eqb-true _ _ is))
  cut_event from to l false is some high =
      let other = eqb-false _ _ is in
      let out : end < l.start + l.count = omega (arith, other, high) in
      ap (λ b. b && within (first_in from l + (end_in to l - first_in from l))) (and_false (own l) false refl) ∙ sym (not_within l (inr out))

  part_done : (from to : ℕ) (l : LedgerLine) (b : Bool) → nat_lt (first_in from l) (end_in to l) ≡ b → 0 < l.count → from ≤ first → end ≤ to
      → list_any done (option_to_list (if b then Some (part from to l) else None)) ≡ done l
  part_done from to l true less filled low high =
      or_none (done (part from to l)) ∙ cut_event from to l (end_in to l == l.start + l.count) refl (ltb-true _ _ less) high
  part_done from to l false none filled low high =
      let over = ltb-false _ _ none in
      sym (and_false (own l && option_map_or is_last l.event false) (within (l.start + l.count)) (not_there l.start l.count from to over filled low high))

  all_parts_done : (from to : ℕ) (ls : List LedgerLine) → AreFilled ls → from ≤ first → end ≤ to → list_any done (flat_map (parts from to) ls) ≡ list_any done ls
  all_parts_done from to [] filled low high = refl
  all_parts_done from to (l ∷ ls) filled low high =
      list_any-append done (parts from to l) (flat_map (parts from to) ls)
      ∙ ap (λ b. b || list_any done (flat_map (parts from to) ls)) (part_done from to l (nat_lt (first_in from l) (end_in to l)) refl filled.0 low high)
      ∙ ap (λ b. done l || b) (all_parts_done from to ls filled.1 low high)

  -- ---- and the entries of the window tell it

  abbrev last : Entry → Bool
  last e = does is_last x e

  none_quiet : (label : Label) (n : ℕ) (es : List Entry) → list_any last (replicate n (record { label = label; event = None }) ++ es) ≡ list_any last es
  none_quiet label zero es = refl
  none_quiet label (suc n) es =
      ap (λ b. b || list_any last (replicate n (record { label = label; event = None }) ++ es)) (and_false (is_of x (record { label = label; event = None })) false refl)
      ∙ none_quiet label n es

  inside : (n : ℕ) → first < n → n ≤ end → within n ≡ true
  inside n low high = grind (arith, nat_tests, low, high)

  and_all : (a b : Bool) → b ≡ true → (a && b) ≡ a
  and_all true b is = is
  and_all false b is = refl

  group_done : (g : LedgerLine) → first < g.start + g.count → g.start + g.count ≤ end → done g ≡ list_any last (entries_of g)
  group_done g low high =
      and_all (own g && option_map_or is_last g.event false) (within (g.start + g.count)) (inside (g.start + g.count) low high)
      ∙ sym (none_quiet g.label (g.count - 1) (record { label = g.label; event = g.event } ∷ []) ∙ or_none (last (record { label = g.label; event = g.event })))

  line_done : (l : LedgerLine) (b : Bool) → nat_lt (first_in first l) (end_in end l) ≡ b
      → list_any done (option_to_list (if b then Some (part first end l) else None)) ≡ list_any last (flat_map entries_of (option_to_list (if b then Some (part first end l) else None)))
  line_done l true less =
      let some = ltb-true _ _ less in
      or_none (done (part first end l)) ∙ group_done (part first end l) (omega (arith, some)) (omega (arith, some))
      ∙ sym (list_any-append last (entries_of (part first end l)) [] ∙ or_none (list_any last (entries_of (part first end l))))
  line_done l false none = refl

  all_done : (ls : List LedgerLine) → list_any done (flat_map (parts first end) ls) ≡ list_any last (flat_map entries_of (flat_map (parts first end) ls))
  all_done [] = refl
  all_done (l ∷ ls) =
      list_any-append done (parts first end l) (flat_map (parts first end) ls)
      ∙ ap (λ b. b || list_any done (flat_map (parts first end) ls)) (line_done l (nat_lt (first_in first l) (end_in end l)) refl)
      ∙ ap (λ b. list_any last (flat_map entries_of (parts first end l)) || b) (all_done ls)
      ∙ sym (list_any-append last (flat_map entries_of (parts first end l)) (flat_map entries_of (flat_map (parts first end) ls)))
      ∙ sym (ap (list_any last) (flat_map-append entries_of (parts first end l) (flat_map (parts first end) ls)))

  done_by_entries : (from to : ℕ) (es : List Entry) → from ≤ first → end ≤ to → list_any done (groups from to es) ≡ list_any last (slice first end es)
  done_by_entries from to es low high =
      let filled = (is_cut es).filled in
      all_parts_done from to (lines_of es) filled low high ∙ sym (all_parts_done first end (lines_of es) filled (omega arith) (omega arith))
      ∙ all_done (lines_of es) ∙ ap (list_any last) (whole_slice first end es)

pub overrun_is : (c : Configuration) (p i from to s : ℕ) (es : List Entry) → s % period c i ≡ 0 → from ≤ s → s + period c i ≤ to → to ≤ length es
    → overran_in (groups from to es) (main_of p) s (s + period c i) ≡ is_overrun (did_in (main_of p) (window c s (past_at (reverse es) (s + period c i)) i))
overrun_is c p i from to s es begins low high within =
    let end : ℕ = s + period c i in
    let ticks : List Entry = slice s end es in
    let x : ThreadId = main_of p in
    let used : used_in (groups from to es) x s end ≡ count_by (is_budget_of x) (reverse ticks) = used_counted x s end from to es low high ∙ sym (counted_back (is_budget_of x) ticks) in
    let back : list_any (does is_last x) ticks ≡ list_any (does is_last x) (reverse ticks) = list_any-IsPermutation (does is_last x) ticks (reverse ticks) (IsPermutation-reverse ticks) in
    let done : list_any (is_done_in x s end) (groups from to es) ≡ (list_any (does is_wait x) (reverse ticks) || list_any (stops x) (reverse ticks)) =
    done_by_entries x s end from to es low high ∙ back ∙ all_either p (reverse ticks) in
    ap (λ n. nat_lt 0 n && not (list_any (is_done_in x s end) (groups from to es))) used
    ∙ ap (λ b. nat_lt 0 (count_by (is_budget_of x) (reverse ticks)) && not b) done
    ∙ ap (λ w. is_overrun (did_in x w)) (sym (window_of c i s es begins (omega (arith, high, within))))
