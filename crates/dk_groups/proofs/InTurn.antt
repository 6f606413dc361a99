-- The groups of a range are in turn from its first tick on, and each starts behind the entries before it.
use Rattle.std.proofs.Common.{ℕ, ◌≡◌, ◌∙◌, ◌+◌, ◌-◌, ◌<◌, ◌≤◌, ◌++◌, [], ◌∷◌, List, length, take, drop, sym, ap, subst, refl, arith, append_assoc, append-nil, length-append, length-drop}
use Rattle.std.specs.Prelude.{Some, None, Bool, true, false, flat_map, option_to_list, max, min, nat_lt, nat_le, ◌==◌, if◌then◌else◌}
use Rattle.std.proofs.Math.Seq.{take-append_seam}
use Rattle.std.proofs.lemmas.Bool.{ltb-false}
use Rattle.std.proofs.lemmas.Grind.{flat_map-append}
use Rattle.std.proofs.lemmas.List.{length-take, length-take-le, take-append-drop}
use borrow.Author.Tests.{ltb-true}
use Rattle.dk_trace.specs.declared.Entry.{Entry}
use Rattle.dk_ledger.specs.declared.line.LedgerLine.{LedgerLine}
use Rattle.dk_ledger.specs.Lines.{lines_of}
use Rattle.dk_ledger.specs.Cuts.{entries_of, AreFilled, AreInTurn}
use Rattle.dk_ledger.specs.Readable.{Journal, IsReadable}
use Rattle.dk_ledger.proofs.EntryLists.{is_filled, length-entries, starts_behind}
use Rattle.dk_ledger.proofs.OneCut.{is_cut}
use Rattle.dk_groups.specs.Groups.{groups, part_of_line, slice}
use Rattle.dk_groups.specs.Cutting.{Cutting, ComesNext, HasGiven}
use Rattle.dk_groups.proofs.NextLine.{groups_in_order}
use Rattle.dk_groups.proofs.Slices.{whole_slice}

abbrev parts : ℕ → ℕ → LedgerLine → List LedgerLine
parts from to l = option_to_list (part_of_line from to l)

abbrev first_in : ℕ → LedgerLine → ℕ
first_in from l = max l.start from

abbrev end_in : ℕ → LedgerLine → ℕ
end_in to l = min (l.start + l.count) to

abbrev part : ℕ → ℕ → LedgerLine → LedgerLine
part from to l = record {
  start = first_in from l;
  count = end_in to l - first_in from l;
  label = l.label;
  event = if end_in to l == l.start + l.count then l.event else None;
}

module _ (from to : ℕ) where
  abbrev cut : List LedgerLine → List LedgerLine
  cut ls = flat_map (parts from to) ls

  filled_part : (l : LedgerLine) (rest : List LedgerLine) (b : Bool) → nat_lt (first_in from l) (end_in to l) ≡ b → AreFilled rest
      → AreFilled (option_to_list (if b then Some (part from to l) else None) ++ rest)
  filled_part l rest true less filled = let some = ltb-true _ _ less in (omega (arith, some), filled)
  filled_part l rest false none filled = filled

  filled_groups : (ls : List LedgerLine) → AreFilled (cut ls)
  filled_groups [] = tt
  filled_groups (l ∷ ls) = filled_part l (cut ls) (nat_lt (first_in from l) (end_in to l)) refl (filled_groups ls)

  no_part : (l : LedgerLine) (s : ℕ) (rest : List LedgerLine) (b : Bool) → nat_lt (first_in from l) (end_in to l) ≡ b → l.start ≡ s → to ≤ max s from → rest ≡ []
      → option_to_list (if b then Some (part from to l) else None) ++ rest ≡ []
  no_part l s rest true less at past none = let some = ltb-true _ _ less in absurd (omega (arith, some, at, past))
  no_part l s rest false less at past none = none

  -- behind the range there are none
  no_groups : (s : ℕ) (ls : List LedgerLine) → AreInTurn s ls → to ≤ max s from → cut ls ≡ []
  no_groups s [] turn past = refl
  no_groups s (l ∷ ls) turn past =
      no_part l s (cut ls) (nat_lt (first_in from l) (end_in to l)) refl turn.0 past (no_groups (s + l.count) ls turn.1 (omega (arith, past)))

  -- where the line ends behind the range, nothing comes later
  later : (s n : ℕ) (ls : List LedgerLine) (x : ℕ) (b : Bool) → nat_le (s + n) to ≡ b → AreInTurn (s + n) ls → AreInTurn (max (s + n) from) (cut ls)
      → (s + n ≤ to → max (s + n) from ≡ x) → (to < s + n → to ≤ max (s + n) from) → AreInTurn x (cut ls)
  later s n ls x true within turn rest same past = subst (λ y. AreInTurn y (cut ls)) (same (grind (arith, within))) rest
  later s n ls x false beyond turn rest same past = subst (AreInTurn x) (sym (no_groups (s + n) ls turn (past (grind (arith, beyond))))) tt

  next_in_turn : (s : ℕ) (l : LedgerLine) (ls : List LedgerLine) (b : Bool) → nat_lt (first_in from l) (end_in to l) ≡ b → l.start ≡ s → 0 < l.count
      → AreInTurn (s + l.count) ls → AreInTurn (max (s + l.count) from) (cut ls) → AreInTurn (max s from) (option_to_list (if b then Some (part from to l) else None) ++ cut ls)
  next_in_turn s l ls true less at filled turn rest =
      let some = ltb-true _ _ less in (
        omega (arith, at),
        later s l.count ls (max s from + (end_in to l - first_in from l)) (nat_le (s + l.count) to) refl turn rest (λ within. omega (arith, some, at, within)) (λ beyond. omega (arith, beyond)),
      )
  next_in_turn s l ls false none at filled turn rest =
      let over = ltb-false _ _ none in
      later s l.count ls (max s from) (nat_le (s + l.count) to) refl turn rest (λ within. omega (arith, over, at, within, filled)) (λ beyond. omega (arith, beyond))

  in_turn : (s : ℕ) (ls : List LedgerLine) → AreFilled ls → AreInTurn s ls → AreInTurn (max s from) (cut ls)
  in_turn s [] filled turn = tt
  in_turn s (l ∷ ls) filled turn =
      next_in_turn s l ls (nat_lt (first_in from l) (end_in to l)) refl turn.0 filled.0 turn.1 (in_turn (s + l.count) ls filled.1 turn.1)

pub groups_filled : (from to : ℕ) (es : List Entry) → AreFilled (groups from to es)
groups_filled from to es = filled_groups from to (lines_of es)

pub groups_in_turn : (from to : ℕ) (es : List Entry) → AreInTurn from (groups from to es)
groups_in_turn from to es =
    let cut = is_cut es in
    let first : max 0 from ≡ from = omega arith in
    subst (λ x. AreInTurn x (groups from to es)) first (in_turn from to 0 (lines_of es) cut.filled cut.in_turn)

-- a group that is given behind others
module _ (j : Journal) (gs : List LedgerLine) (g : LedgerLine) (c : Cutting) (readable : IsReadable j) (has : HasGiven j (gs ++ g ∷ []) c) where
  later_groups : (more : List LedgerLine) × (groups c.from c.to j.entries ≡ gs ++ g ∷ more)
  later_groups =
      let order = groups_in_order j (gs ++ g ∷ []) c readable has in
      (order.0, order.1 ∙ append_assoc gs (g ∷ []) order.0)

  filled_there : AreFilled (gs ++ g ∷ later_groups.0)
  filled_there = subst AreFilled later_groups.1 (groups_filled c.from c.to j.entries)

  -- it starts behind their entries
  pub starts_given : g.start ≡ c.from + length (flat_map entries_of gs)
  starts_given = starts_behind c.from gs g later_groups.0 filled_there (subst (AreInTurn c.from) later_groups.1 (groups_in_turn c.from c.to j.entries))

  abbrev own : List Entry
  own = flat_map entries_of gs

  abbrev front : List Entry
  front = take c.from j.entries

  abbrev behind : List Entry
  behind = flat_map entries_of (g ∷ later_groups.0)

  whole : own ++ behind ≡ slice c.from c.to j.entries
  whole =
      sym (flat_map-append entries_of gs (g ∷ later_groups.0)) ∙ ap (flat_map entries_of) (sym later_groups.1) ∙ whole_slice c.from c.to j.entries

  -- the entries of the ledger before the range, and theirs
  pub starts_in_ledger : g.start ≡ length (take c.from j.entries ++ flat_map entries_of gs)
  starts_in_ledger =
      let some = is_filled gs g later_groups.0 filled_there in
      let ticks = length-entries g some in
      let one = length-append (entries_of g) (flat_map entries_of later_groups.0) in
      let two = length-append own behind in
      let three = ap length whole in
      let four = length-take (c.to - c.from) (drop c.from j.entries) in
      let five = length-drop c.from j.entries in
      let count : length front ≡ c.from = length-take-le c.from j.entries (omega (arith, some, ticks, one, two, three, four, five)) in
      let both = length-append front own in
      let start = starts_given in
      omega (arith, start, both, count)

  -- these are the ledger's entries before it
  pub entries_before : take g.start j.entries ≡ take c.from j.entries ++ flat_map entries_of gs
  entries_before =
      let es = j.entries in
      let rest = drop (c.to - c.from) (drop c.from es) in
      let parts : es ≡ (front ++ own) ++ (behind ++ rest) =
      sym (take-append-drop c.from es) ∙ ap (λ t. front ++ t) (sym (take-append-drop (c.to - c.from) (drop c.from es)) ∙ ap (λ t. t ++ rest) (sym whole) ∙ append_assoc own behind rest)
      ∙ sym (append_assoc front own (behind ++ rest)) in
      ap (λ n. take n es) starts_in_ledger ∙ ap (take (length (front ++ own))) parts ∙ take-append_seam (front ++ own) (behind ++ rest)

-- What is known behind the entries before the next group is known behind it.
pub next_behind : (Old New : List Entry → Type 0) (j : Journal) (gs : List LedgerLine) (g : LedgerLine) (c : Cutting) (from : ℕ) → IsReadable j → ComesNext j gs (Some g) c → c.from ≡ from
    → Old (take from j.entries ++ flat_map entries_of gs) → ((es : List Entry) → g.start ≡ length es → Old es → New (es ++ entries_of g))
    → New (take from j.entries ++ flat_map entries_of (gs ++ g ∷ []))
next_behind Old New j gs g c from readable comes is_from known step =
    let front = take from j.entries in
    let own = flat_map entries_of gs in
    let start : g.start ≡ length (front ++ own) =
    starts_in_ledger j gs g c readable comes.0 ∙ ap (λ n. length (take n j.entries ++ own)) is_from in
    subst New (append_assoc front own (entries_of g) ∙ ap (λ t. front ++ t) (sym (flat_map-append entries_of gs (g ∷ []) ∙ ap (λ t. own ++ t) (append-nil (entries_of g)))))
    (step (front ++ own) start known)
