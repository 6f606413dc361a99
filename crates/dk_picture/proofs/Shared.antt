-- What is told of a main's window is what the entries of its ticks say, and the main has a row.
use Rattle.dk_picture.proofs.Names.{ℕ, zero, suc, ◌≡◌, ◌∙◌, ◌+◌, ◌-◌, ◌*◌, ◌/◌, ◌%◌, ◌<◌, ◌≤◌, inl, ◌++◌, [], ◌∷◌, List, length, take, drop, sym, ap, subst, refl, arith, length-drop, append_assoc, Some, None, Bool, true, false, cond, count_by, replicate, reverse, option_to_list, Option, max, min, nat_le, nat_lt, ◌==◌, ◌&&◌, if◌then◌else◌, list_any, flat_map-append, ltb-false, append-nil, length-reverse, length-take-le, reverse-append, take-append-drop, IsPermutation-reverse, sum_by-IsPermutation, sum_by-append, sum_by-cons, le-div, div-le_of_le-mul, mul_comm, drop-append_seam, take-append_seam, ltb-true, Configuration, period, ThreadId, Label, Event, Entry, is_budget_of, quiet, window, job_from, past_at, Has, Thread, flat-has, count_by-cons, LedgerLine, Heading, IsReadableHeading, entries_of, lines_of, groups, part_of_line, slice, whole_slice, Share, Span, IsTold, has_pixels, is_seen, level_of, rows_of, takes, Scene, is_whole, main_of, share_in, share_of, shares, shares_of, shares_of_process, ticks_within, used_in, used_weight, period_of, Window, window_at, window_count, below}
use Rattle.std.specs.Prelude.{flat_map, sum_by}
use Rattle.dk_picture.proofs.Covered.{thread_covered}
use Rattle.dk_picture.proofs.Adding.{flat_map-flat_map}

abbrev pub first_in : ℕ → LedgerLine → ℕ
first_in from l = max l.start from

abbrev pub end_in : ℕ → LedgerLine → ℕ
end_in to l = min (l.start + l.count) to

abbrev pub part : ℕ → ℕ → LedgerLine → LedgerLine
part from to l = record {
  start = first_in from l;
  count = end_in to l - first_in from l;
  label = l.label;
  event = if end_in to l == l.start + l.count then l.event else None;
}

abbrev pub parts : ℕ → ℕ → LedgerLine → List LedgerLine
parts from to l = option_to_list (part_of_line from to l)

if_same : (b : Bool) (m n : ℕ) → m ≡ n → (if b then m else 0) ≡ (if b then n else 0)
if_same b m n same = ap (λ k. if b then k else 0) same

if_none : (b : Bool) (n : ℕ) → n ≡ 0 → 0 ≡ (if b then n else 0)
if_none true n none = sym none
if_none false n none = refl

with_none : (n : ℕ) → n + 0 ≡ n
with_none n = omega arith

with_one : (n : ℕ) → 1 + (n + 1) ≡ suc n + 1
with_one n = omega arith

-- of n ticks from tick a on, in a range and in a window of it
same_ticks : (a n from to first end : ℕ) → max a from < min (a + n) to → from ≤ first → end ≤ to
    → min (max a from + (min (a + n) to - max a from)) end - max (max a from) first ≡ min (a + n) end - max a first
same_ticks a n from to first end some low high = omega (arith, some, low, high)

no_ticks : (a n from to first end : ℕ) → min (a + n) to ≤ max a from → from ≤ first → end ≤ to → min (a + n) end - max a first ≡ 0
no_ticks a n from to first end over low high = omega (arith, over, low, high)

own_ticks : (a n first end : ℕ) → max a first < min (a + n) end
    → min (max a first + (min (a + n) end - max a first)) end - max (max a first) first ≡ (min (a + n) end - max a first - 1) + 1
own_ticks a n first end some = omega (arith, some)

module _ (x : ThreadId) (first end : ℕ) where
  abbrev weight : LedgerLine → ℕ
  weight g = used_weight x first end g

  abbrev paid : Entry → Bool
  paid e = is_budget_of x e

  -- ---- a line and its part in a wider range have the same ticks in the window

  part_weight : (from to : ℕ) (l : LedgerLine) (b : Bool) → nat_lt (first_in from l) (end_in to l) ≡ b → from ≤ first → end ≤ to
      → sum_by weight (option_to_list (if b then Some (part from to l) else None)) ≡ weight l
  part_weight from to l true less low high =
      sum_by-cons weight (part from to l) [] ∙ with_none (weight (part from to l))
      ∙ if_same (is_budget_of x (quiet l.label)) (ticks_within first end (part from to l)) (ticks_within first end l) (same_ticks l.start l.count from to first end (ltb-true _ _ less) low high)
  part_weight from to l false none low high =
      let over = ltb-false _ _ none in
      if_none (is_budget_of x (quiet l.label)) (ticks_within first end l) (no_ticks l.start l.count from to first end (omega (arith, over)) low high)

  all_parts : (from to : ℕ) (ls : List LedgerLine) → from ≤ first → end ≤ to → sum_by weight (flat_map (parts from to) ls) ≡ sum_by weight ls
  all_parts from to [] low high = refl
  all_parts from to (l ∷ ls) low high =
      sum_by-append weight (parts from to l) (flat_map (parts from to) ls)
      ∙ ap (λ n. n + sum_by weight (flat_map (parts from to) ls)) (part_weight from to l (nat_lt (first_in from l) (end_in to l)) refl low high)
      ∙ ap (λ n. weight l + n) (all_parts from to ls low high) ∙ sym (sum_by-cons weight l ls)

  -- ---- the ticks of a part of the window are its entries

  one_paid : (e : Entry) (es : List Entry) (b : Bool) → paid e ≡ b → count_by paid (e ∷ es) ≡ cond b 1 0 + count_by paid es
  one_paid e es b is = count_by-cons paid e es ∙ ap (λ c. cond c 1 0 + count_by paid es) is

  copies_paid : (label : Label) (event : Option Event) (b : Bool) → is_budget_of x (quiet label) ≡ b → (n : ℕ)
      → count_by paid (replicate n (record { label = label; event = None }) ++ record { label = label; event = event } ∷ []) ≡ (if b then n + 1 else 0)
  copies_paid label event true is zero = one_paid (record { label = label; event = event }) [] true is
  copies_paid label event false is zero = one_paid (record { label = label; event = event }) [] false is
  copies_paid label event true is (suc n) =
      let quiet : Entry = record { label = label; event = None } in
      let last : Entry = record { label = label; event = event } in
      one_paid quiet (replicate n quiet ++ last ∷ []) true is ∙ ap (λ k. 1 + k) (copies_paid label event true is n) ∙ with_one n
  copies_paid label event false is (suc n) =
      let quiet : Entry = record { label = label; event = None } in
      let last : Entry = record { label = label; event = event } in
      one_paid quiet (replicate n quiet ++ last ∷ []) false is ∙ ap (λ k. 0 + k) (copies_paid label event false is n)

  count_both : (es fs : List Entry) → count_by paid (es ++ fs) ≡ count_by paid es + count_by paid fs
  count_both es fs = sum_by-append (λ e. cond (paid e) 1 0) es fs

  part_paid : (l : LedgerLine) (b : Bool) → nat_lt (first_in first l) (end_in end l) ≡ b
      → sum_by weight (option_to_list (if b then Some (part first end l) else None)) ≡ count_by paid (flat_map entries_of (option_to_list (if b then Some (part first end l) else None)))
  part_paid l true less =
      let kept : LedgerLine = part first end l in
      sum_by-cons weight (part first end l) [] ∙ with_none (weight (part first end l))
      ∙ if_same (is_budget_of x (quiet l.label)) (ticks_within first end (part first end l)) ((end_in end l - first_in first l - 1) + 1) (own_ticks l.start l.count first end (ltb-true _ _ less))
      ∙ sym (copies_paid l.label kept.event (is_budget_of x (quiet l.label)) refl (end_in end l - first_in first l - 1))
      ∙ sym (ap (count_by paid) (append-nil (entries_of (part first end l))))
  part_paid l false none = refl

  all_paid : (ls : List LedgerLine) → sum_by weight (flat_map (parts first end) ls) ≡ count_by paid (flat_map entries_of (flat_map (parts first end) ls))
  all_paid [] = refl
  all_paid (l ∷ ls) =
      sum_by-append weight (parts first end l) (flat_map (parts first end) ls)
      ∙ ap (λ n. n + sum_by weight (flat_map (parts first end) ls)) (part_paid l (nat_lt (first_in first l) (end_in end l)) refl)
      ∙ ap (λ n. count_by paid (flat_map entries_of (parts first end l)) + n) (all_paid ls)
      ∙ sym (count_both (flat_map entries_of (parts first end l)) (flat_map entries_of (flat_map (parts first end) ls)))
      ∙ sym (ap (count_by paid) (flat_map-append entries_of (parts first end l) (flat_map (parts first end) ls)))

  pub used_counted : (from to : ℕ) (es : List Entry) → from ≤ first → end ≤ to → used_in (groups from to es) x first end ≡ count_by paid (slice first end es)
  used_counted from to es low high =
      all_parts from to (lines_of es) low high ∙ sym (all_parts first end (lines_of es) (omega arith) (omega arith))
      ∙ all_paid (lines_of es) ∙ ap (count_by paid) (whole_slice first end es)

-- ---- the window of a past

-- of three parts, newest first, the second
middle_part : (front mid back : List Entry) → take (length mid) (drop (length back) (reverse (front ++ (mid ++ back)))) ≡ reverse mid
middle_part front mid back =
    let turned : reverse (front ++ (mid ++ back)) ≡ reverse back ++ (reverse mid ++ reverse front) =
    reverse-append front (mid ++ back) ∙ ap (λ t. t ++ reverse front) (reverse-append mid back) ∙ append_assoc (reverse back) (reverse mid) (reverse front) in
    ap (λ t. take (length mid) (drop (length back) t)) turned
    ∙ ap (λ n. take (length mid) (drop n (reverse back ++ (reverse mid ++ reverse front)))) (sym (length-reverse back))
    ∙ ap (take (length mid)) (drop-append_seam (reverse back) (reverse mid ++ reverse front))
    ∙ ap (λ n. take n (reverse mid ++ reverse front)) (sym (length-reverse mid)) ∙ take-append_seam (reverse mid) (reverse front)

-- the entries in three parts
in_parts : (s p : ℕ) (es : List Entry) → es ≡ take s es ++ (take p (drop s es) ++ drop p (drop s es))
in_parts s p es = sym (ap (λ t. take s es ++ t) (take-append-drop p (drop s es)) ∙ take-append-drop s es)

pub counted_back : (p : Entry → Bool) (es : List Entry) → count_by p (reverse es) ≡ count_by p es
counted_back p es = sum_by-IsPermutation (λ e. cond (p e) 1 0) es (reverse es) (IsPermutation-reverse es)

cut_back : (s n over : ℕ) (es : List Entry) → over ≡ 0 → s + n ≤ length es
    → take (length (drop (length (reverse es) - (s + n)) (reverse es)) - (s - over)) (drop (length (reverse es) - (s + n)) (reverse es)) ≡ reverse (take ((s + n) - s) (drop s es))
cut_back s n over es begins within =
    let behind : length (drop s es) ≡ length es - s = length-drop s es in
    let mid_long : length (take n (drop s es)) ≡ n = length-take-le n (drop s es) (omega (arith, behind, within)) in
    let after : length (drop n (drop s es)) ≡ length (drop s es) - n = length-drop n (drop s es) in
    let all : length (reverse es) ≡ length es = length-reverse es in
    let left : length (reverse es) - (s + n) ≡ length (drop n (drop s es)) = omega (arith, all, after, behind) in
    let kept : length (drop (length (drop n (drop s es))) (reverse es)) ≡ length (reverse es) - length (drop n (drop s es)) = length-drop (length (drop n (drop s es))) (reverse es) in
    let ticks : length (drop (length (drop n (drop s es))) (reverse es)) - (s - over) ≡ length (take n (drop s es)) = omega (arith, kept, all, after, behind, mid_long, begins, within) in
    let same : n ≡ (s + n) - s = omega arith in
    ap (λ k. take (length (drop k (reverse es)) - (s - over)) (drop k (reverse es))) left
    ∙ ap (λ k. take k (drop (length (drop n (drop s es))) (reverse es))) ticks
    ∙ ap (λ t. take (length (take n (drop s es))) (drop (length (drop n (drop s es))) (reverse t))) (in_parts s n es)
    ∙ middle_part (take s es) (take n (drop s es)) (drop n (drop s es)) ∙ ap (λ k. reverse (take k (drop s es))) same

pub window_of : (c : Configuration) (i s : ℕ) (es : List Entry) → s % period c i ≡ 0 → s + period c i ≤ length es
    → window c s (past_at (reverse es) (s + period c i)) i ≡ reverse (slice s (s + period c i) es)
window_of c i s es begins within = cut_back s (period c i) (s % period c i) es begins within

pub used_is_job : (c : Configuration) (x : Thread) (from to s : ℕ) (es : List Entry) → s % period c x.level ≡ 0 → from ≤ s → s + period c x.level ≤ to → to ≤ length es
    → used_in (groups from to es) x.id s (s + period c x.level) ≡ (job_from c (reverse es) x s).used
used_is_job c x from to s es begins low high within =
    let end : ℕ = s + period c x.level in
    used_counted x.id s end from to es low high ∙ sym (counted_back (is_budget_of x.id) (slice s end es))
    ∙ ap (count_by (is_budget_of x.id)) (sym (window_of c x.level s es begins (omega (arith, high, within))))

-- ---- its row

pub main_in_rows : (h : Heading) (gs : List LedgerLine) (p : ℕ) → IsReadableHeading h → p < length h.processes → is_seen gs p ≡ true → list_any (takes (Label.Run (main_of p))) (rows_of h gs) ≡ true
main_in_rows h gs p is inside seen = thread_covered h gs is (main_of p) inside (λ main. seen) (λ child. absurd (cc))

-- ---- each window is told of

all_three : (a b c : Bool) → a ≡ true → b ≡ true → c ≡ true → (a && b && c) ≡ true
all_three true true c is1 is2 is3 = is3
all_three true false c is1 is2 is3 = absurd (cc)
all_three false b c is1 is2 is3 = absurd (cc)

if_true : (b : Bool) (ds : List Share) (d : Share) → b ≡ true → Has ds d → Has (if b then ds else []) d
if_true true ds d is has = has
if_true false ds d is has = absurd (cc)

module _ (h : Heading) (s : Span) (c : Scene) (p w : ℕ) where
  abbrev ticks : ℕ
  ticks = period_of h (level_of h p)

  abbrev told : Share
  told = share_in h c p (window_at (level_of h p) ticks w)

  one_window : IsTold h s c p w → Has (share_of h s c p (window_at (level_of h p) ticks w)) told
  one_window is =
      let from : nat_le s.from (w * ticks) ≡ true = grind (arith, is.begins) in
      let to : nat_le (w * ticks + ticks) s.to ≡ true = grind (arith, is.ends) in
      if_true (is_whole s (window_at (level_of h p) ticks w)) (told ∷ []) told (ap (λ b. b && nat_le (w * ticks + ticks) s.to) from ∙ to) (inl refl)

  its_windows : IsTold h s c p w → Has (shares_of h s c p (level_of h p) ticks) told
  its_windows is =
      let swap = mul_comm w ticks in
      let low : s.from / ticks ≤ w = div-le_of_le-mul ticks (omega (arith, is.begins, swap)) in
      let high = le-div w (s.to - 1) ticks is.some (omega (arith, is.ends, is.some)) in
      let same : w ≡ s.from / ticks + (w - s.from / ticks) = omega (arith, low) in
      let each : ℕ → List Window = λ i. window_at (level_of h p) ticks (s.from / ticks + i) ∷ [] in
      let shown : ℕ → List Share = λ i. flat_map (share_of h s c p) (each i) in
      let at : Has (share_of h s c p (window_at (level_of h p) ticks (s.from / ticks + (w - s.from / ticks)))) told =
      subst (λ k. Has (share_of h s c p (window_at (level_of h p) ticks k)) told) same (one_window is) in
      subst (λ ds. Has ds told) (flat_map-flat_map (share_of h s c p) each (below (window_count s ticks)))
      (flat-has shown 0 (window_count s ticks) (w - s.from / ticks) told (omega arith) (omega (arith, low, high))
      (subst (λ ds. Has ds told) (sym (append-nil (share_of h s c p (window_at (level_of h p) ticks (s.from / ticks + (w - s.from / ticks)))))) at))

  pub window_told : p < length h.processes → IsTold h s c p w → Has (shares h s c) told
  window_told inside is =
      let some : nat_lt 0 ticks ≡ true = grind (arith, is.some) in
      flat-has (shares_of_process h s c) 0 (length h.processes) p told (omega arith) (omega (arith, inside))
      (if_true (is_seen c.groups p && nat_lt 0 ticks && has_pixels s ticks 26) (shares_of h s c p (level_of h p) ticks) told
      (all_three (is_seen c.groups p) (nat_lt 0 ticks) (has_pixels s ticks 26) is.seen some is.wide) (its_windows is))
