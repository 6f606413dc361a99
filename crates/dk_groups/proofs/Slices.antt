-- The entries of the groups are the entries of the range.
use Rattle.std.proofs.Common.{ℕ, zero, suc, ◌≡◌, ◌∙◌, ◌+◌, ◌-◌, ◌<◌, ◌≤◌, ◌++◌, [], ◌∷◌, List, length, take, drop, sym, ap, refl, arith, add-one, length-append, length-drop, append-nil}
use Rattle.std.specs.Prelude.{Some, None, Bool, true, false, flat_map, replicate, option_to_list, max, min, nat_lt, ◌==◌, if◌then◌else◌}
use Rattle.std.proofs.Math.Seq.{drop-nil, take-nil}
use Rattle.std.proofs.lemmas.Grind.{flat_map-append}
use Rattle.std.proofs.lemmas.List.{drop-append-le, drop-replicate, drop_all, length-replicate, replicate-append-replicate, take-append-le, take-replicate, take_all}
use Rattle.std.proofs.lemmas.Bool.{eqb-true, eqb-false, ltb-false}
use borrow.Author.Tests.{ltb-true}
use Rattle.dk_trace.specs.declared.Entry.{Entry}
use Rattle.dk_ledger.specs.declared.line.LedgerLine.{LedgerLine}
use Rattle.dk_ledger.specs.Lines.{lines_of}
use Rattle.dk_ledger.specs.Cuts.{entries_of, AreFilled, AreInTurn}
use Rattle.dk_ledger.proofs.OneCut.{is_cut}
use Rattle.dk_ledger.proofs.EntryLists.{length-entries}
use Rattle.dk_groups.specs.Groups.{groups, part_of_line, slice}

take_parts : (A : Type 0) (m : ℕ) (zs ys : List A) → take m (zs ++ ys) ≡ take m zs ++ take (m - length zs) ys
take_parts A m [] ys = let same : m ≡ m - 0 = omega arith in ap (λ n. take n ys) same ∙ ap (λ t. t ++ take (m - 0) ys) (sym (take-nil m))
take_parts A zero (z ∷ zs) ys = let same : 0 ≡ 0 - suc (length zs) = omega arith in ap (λ n. take n ys) same
take_parts A (suc m) (z ∷ zs) ys =
    let same : m - length zs ≡ suc m - suc (length zs) = omega arith in
    ap (λ t. z ∷ t) (take_parts A m zs ys ∙ ap (λ n. take m zs ++ take n ys) same)

drop_parts : (A : Type 0) (k : ℕ) (xs ys : List A) → drop k (xs ++ ys) ≡ drop k xs ++ drop (k - length xs) ys
drop_parts A k [] ys = let same : k ≡ k - 0 = omega arith in ap (λ n. drop n ys) same ∙ ap (λ t. t ++ drop (k - 0) ys) (sym (drop-nil k))
drop_parts A zero (x ∷ xs) ys = let same : 0 ≡ 0 - suc (length xs) = omega arith in ap (λ n. (x ∷ xs) ++ drop n ys) same
drop_parts A (suc k) (x ∷ xs) ys =
    let same : k - length xs ≡ suc k - suc (length xs) = omega arith in
    drop_parts A k xs ys ∙ ap (λ n. drop k xs ++ drop n ys) same

-- of entries from tick s on, those in the range
abbrev cut_to : ℕ → ℕ → ℕ → List Entry → List Entry
cut_to s from to es = take (to - max s from) (drop (from - s) es)

cut_both : (s from to n : ℕ) (xs ys : List Entry) → length xs ≡ n → cut_to s from to (xs ++ ys) ≡ cut_to s from to xs ++ cut_to (s + n) from to ys
cut_both s from to n xs ys count =
    let k : ℕ = from - s in
    let m : ℕ = to - max s from in
    let dropped = length-drop k xs in
    let behind : k - length xs ≡ from - (s + n) = omega (arith, count) in
    let left : m - length (drop k xs) ≡ to - max (s + n) from = omega (arith, count, dropped) in
    ap (take m) (drop_parts Entry k xs ys) ∙ take_parts Entry m (drop k xs) (drop (k - length xs) ys)
    ∙ ap (λ d. take m (drop k xs) ++ take (m - length (drop k xs)) (drop d ys)) behind
    ∙ ap (λ t. take m (drop k xs) ++ take t (drop (from - (s + n)) ys)) left

module _ {A : Type 0} (q e : A) where
  size : (p : ℕ) → length (replicate p q ++ e ∷ []) ≡ p + 1
  size p = length-append (replicate p q) (e ∷ []) ∙ ap (λ n. n + 1) (length-replicate p q)

  drop_line : (k p : ℕ) → k ≤ p → drop k (replicate p q ++ e ∷ []) ≡ replicate (p - k) q ++ e ∷ []
  drop_line k p within =
      let all = length-replicate p q in
      drop-append-le k (replicate p q) (e ∷ []) (omega (arith, within, all)) ∙ ap (λ t. t ++ e ∷ []) (drop-replicate k p q)

  drop_past : (k p : ℕ) → p < k → drop k (replicate p q ++ e ∷ []) ≡ []
  drop_past k p past = let all = size p in drop_all k (replicate p q ++ e ∷ []) (omega (arith, past, all))

  take_line : (m p : ℕ) → m ≤ p → take m (replicate p q ++ e ∷ []) ≡ replicate m q
  take_line m p within =
      let all = length-replicate p q in
      take-append-le m (replicate p q) (e ∷ []) (omega (arith, within, all)) ∙ take-replicate m p q within

  take_whole : (m p : ℕ) → p < m → take m (replicate p q ++ e ∷ []) ≡ replicate p q ++ e ∷ []
  take_whole m p past = let all = size p in take_all m (replicate p q ++ e ∷ []) (omega (arith, past, all))

one_more : {A : Type 0} (q : A) (n : ℕ) → replicate (suc n) q ≡ replicate n q ++ q ∷ []
one_more q n = sym (replicate-append-replicate n 1 q ∙ ap (λ k. replicate k q) (add-one n))

abbrev quiet : LedgerLine → Entry
quiet l = record { label = l.label; event = None }

abbrev last_entry : LedgerLine → Entry
last_entry l = record { label = l.label; event = l.event }

-- the part of a line that isn't empty
part_entries : (from to : ℕ) (l : LedgerLine) (b : Bool) → 0 < l.count → max l.start from < min (l.start + l.count) to → (min (l.start + l.count) to == l.start + l.count) ≡ b
    → entries_of (record { start = max l.start from; count = min (l.start + l.count) to - max l.start from; label = l.label; event = if b then l.event else None })
    ≡ cut_to l.start from to (entries_of l)
part_entries from to l true some less whole =
    let all : min (l.start + l.count) to ≡ l.start + l.count = eqb-true _ _ whole in
    let k : ℕ = from - l.start in
    let p : ℕ = l.count - 1 in
    let m : ℕ = to - max l.start from in
    let within : k ≤ p = omega (arith, less, some) in
    let enough : p - k < m = omega (arith, less, some, all) in
    let count : (min (l.start + l.count) to - max l.start from) - 1 ≡ p - k = omega (arith, less, some, all) in
    ap (λ n. replicate n (quiet l) ++ last_entry l ∷ []) count ∙ sym (take_whole (quiet l) (last_entry l) m (p - k) enough)
    ∙ sym (ap (take m) (drop_line (quiet l) (last_entry l) k p within))
part_entries from to l false some less part =
    let other : min (l.start + l.count) to ≡ l.start + l.count → ⊥ = eqb-false _ _ part in
    let k : ℕ = from - l.start in
    let p : ℕ = l.count - 1 in
    let m : ℕ = to - max l.start from in
    let short : to < l.start + l.count = omega (arith, other) in
    let within : k ≤ p = omega (arith, less, some) in
    let enough : m ≤ p - k = omega (arith, less, some, short) in
    let count : suc ((min (l.start + l.count) to - max l.start from) - 1) ≡ m = omega (arith, less, some, short) in
    sym (one_more (quiet l) ((min (l.start + l.count) to - max l.start from) - 1)) ∙ ap (λ n. replicate n (quiet l)) count
    ∙ sym (take_line (quiet l) (last_entry l) m (p - k) enough)
    ∙ sym (ap (take m) (drop_line (quiet l) (last_entry l) k p within))

-- no tick of the line is in the range
no_entries : (from to : ℕ) (l : LedgerLine) → 0 < l.count → min (l.start + l.count) to ≤ max l.start from → [] ≡ cut_to l.start from to (entries_of l)
no_entries from to l some none = go (nat_lt (from - l.start) l.count) refl
  where
    go : (b : Bool) → nat_lt (from - l.start) l.count ≡ b → [] ≡ cut_to l.start from to (entries_of l)
    go true inside =
        let less = ltb-true _ _ inside in
        let zero_left : to - max l.start from ≡ 0 = omega (arith, less, none, some) in
        sym (ap (λ n. take n (drop (from - l.start) (entries_of l))) zero_left)
    go false outside =
        let more = ltb-false _ _ outside in
        let past : l.count - 1 < from - l.start = omega (arith, more, some) in
        sym (ap (take (to - max l.start from)) (drop_past (quiet l) (last_entry l) (from - l.start) (l.count - 1) past) ∙ take-nil (to - max l.start from))

abbrev whole_part : ℕ → ℕ → LedgerLine → LedgerLine
whole_part from to l = record {
  start = max l.start from;
  count = min (l.start + l.count) to - max l.start from;
  label = l.label;
  event = if min (l.start + l.count) to == l.start + l.count then l.event else None;
}

line_entries : (from to : ℕ) (l : LedgerLine) → 0 < l.count → flat_map entries_of (option_to_list (part_of_line from to l)) ≡ cut_to l.start from to (entries_of l)
line_entries from to l some = go (nat_lt (max l.start from) (min (l.start + l.count) to)) refl
  where
    go : (b : Bool) → nat_lt (max l.start from) (min (l.start + l.count) to) ≡ b
        → flat_map entries_of (option_to_list (if b then Some (whole_part from to l) else None)) ≡ cut_to l.start from to (entries_of l)
    go true less = append-nil (entries_of (whole_part from to l)) ∙ part_entries from to l (min (l.start + l.count) to == l.start + l.count) some (ltb-true _ _ less) refl
    go false less = no_entries from to l some (ltb-false _ _ less)

lines_entries : (from to start : ℕ) (ls : List LedgerLine) → AreFilled ls → AreInTurn start ls
    → flat_map entries_of (flat_map (λ l. option_to_list (part_of_line from to l)) ls) ≡ cut_to start from to (flat_map entries_of ls)
lines_entries from to start [] filled turn = sym (ap (take (to - max start from)) (drop-nil (from - start)) ∙ take-nil (to - max start from))
lines_entries from to start (l ∷ ls) filled turn =
    let parts : LedgerLine → List LedgerLine = λ k. option_to_list (part_of_line from to k) in
    flat_map-append entries_of (parts l) (flat_map parts ls)
    ∙ ap (λ t. t ++ flat_map entries_of (flat_map parts ls)) (line_entries from to l filled.0 ∙ ap (λ s. cut_to s from to (entries_of l)) turn.0)
    ∙ ap (λ t. cut_to start from to (entries_of l) ++ t) (lines_entries from to (start + l.count) ls filled.1 turn.1)
    ∙ sym (cut_both start from to l.count (entries_of l) (flat_map entries_of ls) (length-entries l filled.0))

pub whole_slice : (from to : ℕ) (es : List Entry) → flat_map entries_of (groups from to es) ≡ slice from to es
whole_slice from to es =
    let cut = is_cut es in
    let first : max 0 from ≡ from = omega arith in
    let none : from - 0 ≡ from = omega arith in
    lines_entries from to 0 (lines_of es) cut.filled cut.in_turn ∙ ap (cut_to 0 from to) cut.whole
    ∙ ap (λ n. take (to - n) (drop (from - 0) es)) first ∙ ap (λ n. take (to - from) (drop n es)) none
