-- How far the holds of a ledger have been read.
use Rattle.std.proofs.Common.{ℕ, ◌≡◌, ◌∙◌, ◌+◌, ◌-◌, ◌<◌, ◌++◌, [], ◌∷◌, List, length, take, sym, ap, subst, arith, append-nil, length-append}
use Rattle.std.specs.Prelude.{Option, flat_map, reverse}
use Rattle.std.proofs.lemmas.Grind.{flat_map-append}
use Rattle.std.proofs.lemmas.List.{length-reverse}
use Rattle.dk_config.specs.Sums.{below}
use Rattle.dk_trace.specs.declared.Entry.{Entry}
use Rattle.dk_ledger.specs.declared.line.LedgerLine.{LedgerLine}
use Rattle.dk_ledger.specs.Cuts.{entries_of}
use Rattle.dk_ledger.specs.Readable.{Journal, IsReadable, text_of}
use Rattle.dk_ledger.proofs.EntryLists.{length-entries}
use Rattle.dk_groups.specs.Groups.{groups}
use Rattle.dk_groups.specs.Cutting.{Cutting, HasGiven}
use Rattle.dk_groups.proofs.InTurn.{starts_given}
use Rattle.dk_groups.proofs.Slices.{whole_slice}
use Rattle.dk_holds.specs.declared.holding.Holding.{Holding}
use Rattle.dk_holds.specs.Holds.{AreHolders, holding}
use Rattle.dk_hold_spans.specs.declared.hold.Hold.{Hold}
use Rattle.dk_hold_spans.specs.HoldLists.{ended_holds, holds_in, part_from}

-- the entries of lines
abbrev pub entries : List LedgerLine → List Entry
entries ls = flat_map entries_of ls

-- the lines so far, their ticks, who holds each mutex behind them, and the holds that they ended
pub record IsSoFar (bytes : List ℕ) (from to : ℕ) (reader : Cutting) (holders : List (Option Holding)) (holds : List Hold) (ticks : ℕ) : Type 0 where
  pub lines : List LedgerLine
  pub given : (j : Journal) → IsReadable j → text_of j ≡ bytes → HasGiven j lines reader
  pub low : reader.from ≡ 0
  pub high : reader.to ≡ to
  pub count : ticks ≡ length (entries lines)
  pub holders_are : AreHolders (reverse (entries lines)) holders
  pub holds_are : holds ≡ ended_holds from (reverse (entries lines))

pub entries_more : (ls : List LedgerLine) (l : LedgerLine) → entries (ls ++ l ∷ []) ≡ entries ls ++ entries_of l
entries_more ls l = flat_map-append entries_of ls (l ∷ []) ∙ ap (λ t. entries ls ++ t) (append-nil (entries_of l))

pub starts_there : (j : Journal) (ls : List LedgerLine) (l : LedgerLine) (c : Cutting) → IsReadable j → HasGiven j (ls ++ l ∷ []) c → c.from ≡ 0 → l.start ≡ length (entries ls)
starts_there j ls l c readable has low =
    let start = starts_given j ls l c readable has in
    omega (arith, start, low)

pub ticks_more : (ls : List LedgerLine) (l : LedgerLine) → 0 < l.count → l.start ≡ length (entries ls) → l.start + l.count ≡ length (entries (ls ++ l ∷ []))
ticks_more ls l some start =
    let more = ap length (entries_more ls l) ∙ length-append (entries ls) (entries_of l) in
    let own = length-entries l some in
    omega (arith, more, own, start)

-- all lines have been read
all_entries : (es : List Entry) (ls : List LedgerLine) (to low high : ℕ) → ls ≡ groups low high es → low ≡ 0 → high ≡ to → entries ls ≡ take to es
all_entries es ls to low high all is_low is_high =
    let lines : ls ≡ groups 0 to es = all ∙ ap (λ n. groups n high es) is_low ∙ ap (λ n. groups 0 n es) is_high in
    let same : to - 0 ≡ to = omega arith in
    ap entries lines ∙ whole_slice 0 to es ∙ ap (λ n. take n es) same

pub all_read : (j : Journal) (ls : List LedgerLine) (from to low high ticks : ℕ) (holds new : List Hold) → ls ≡ groups low high j.entries → low ≡ 0 → high ≡ to → ticks ≡ length (entries ls)
    → holds ≡ ended_holds from (reverse (entries ls)) → new ≡ holds ++ flat_map (λ m. part_from from m ticks (holding m (reverse (entries ls)))) (below 16) → new ≡ holds_in from to j.entries
all_read j ls from to low high ticks holds new all is_low is_high count so_far more =
    let front = all_entries j.entries ls to low high all is_low is_high in
    let past = reverse (entries ls) in
    let back : ticks ≡ length past = count ∙ sym (length-reverse (entries ls)) in
    more ∙ ap (λ hs. hs ++ flat_map (λ m. part_from from m ticks (holding m past)) (below 16)) so_far
    ∙ ap (λ n. ended_holds from past ++ flat_map (λ m. part_from from m n (holding m past)) (below 16)) back
    ∙ ap (λ (es : List Entry). ended_holds from (reverse es) ++ flat_map (λ m. part_from from m (length (reverse es)) (holding m (reverse es))) (below 16)) front

-- who holds each mutex behind the lines so far
pub record AreHeld (bytes : List ℕ) (to : ℕ) (reader : Cutting) (holders : List (Option Holding)) : Type 0 where
  pub lines : List LedgerLine
  pub given : (j : Journal) → IsReadable j → text_of j ≡ bytes → HasGiven j lines reader
  pub low : reader.from ≡ 0
  pub high : reader.to ≡ to
  pub holders_are : AreHolders (reverse (entries lines)) holders

pub all_held : (j : Journal) (ls : List LedgerLine) (to low high : ℕ) (rows : List (Option Holding)) → ls ≡ groups low high j.entries → low ≡ 0 → high ≡ to
    → AreHolders (reverse (entries ls)) rows → AreHolders (reverse (take to j.entries)) rows
all_held j ls to low high rows all is_low is_high held =
    subst (λ (es : List Entry). AreHolders (reverse es) rows) (all_entries j.entries ls to low high all is_low is_high) held
