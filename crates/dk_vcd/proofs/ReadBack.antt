-- The groups of a dump can be read back: each has its line of the ledger.
use Rattle.std.proofs.Common.{ℕ, zero, suc, ◌≡◌, ◌∙◌, ◌++◌, [], ◌∷◌, List, length, sym, ap, refl, codes, append_assoc, arith}
use Rattle.std.specs.Prelude.{Bool, true, false, if◌then◌else◌, decimal, flat_map, Option, Some, None}
use Rattle.std.specs.List.{AllByRecursion}
use Rattle.std.proofs.lemmas.List.{append_cancel_left}
use Rattle.dk_trace.specs.declared.Event.{Event}
use Rattle.dk_trace.specs.declared.Entry.{Entry}
use Rattle.dk_ledger.specs.declared.line.LedgerLine.{LedgerLine}
use Rattle.dk_ledger.specs.Heading.{Heading, ended}
use Rattle.dk_ledger.specs.Cuts.{entries_of}
use Rattle.dk_ledger.specs.Readable.{IsReadable, IsReadableHeading}
use Rattle.dk_ledger.proofs.EntryLists.{IsReadableLine}
use Rattle.dk_entry_words.proofs.ReadBack.{line_back, printable}
use Rattle.dk_groups.specs.Groups.{groups, slice}
use Rattle.dk_groups.proofs.ListParts.{rest_same}
use Rattle.dk_groups.proofs.Readable.{groups_readable, whole_all}
use Rattle.dk_groups.proofs.Slices.{whole_slice}
use Rattle.dk_groups.proofs.Until.{until}
use Rattle.dk_vcd.specs.Words.{line_value, overran_value}
use Rattle.dk_groups.specs.Below.{texts_below}
use Rattle.dk_groups.proofs.Below.{no_texts, one_text_more}
use Rattle.dk_holds.specs.declared.holding.Holding.{Holding}
use Rattle.dk_vcd.specs.Changes.{change_text, changes_text, left_row, overran_at, overran_text, rest_text, start_text, time_text, work_text}
use Rattle.dk_vcd.specs.declared.holders.Occasion.{Occasion}
use Rattle.dk_vcd.specs.Holders.{event_before, holder_before, holder_change, holder_text, holder_value, holders_text, is_told, moved_text}
use Rattle.dk_vcd.specs.Dumps.{head_text, scopes_text, tail_text, vcd_text}
use Rattle.dk_vcd.specs.Laws.{is_dense}
use Rattle.dk_vcd.proofs.Dense.{digits_dense, holder_dense, overran_dense}

-- a time, up to what comes behind it
times_same : (n m : ℕ) (x y : List ℕ) → codes "#" ++ (decimal n ++ 10 ∷ x) ≡ codes "#" ++ (decimal m ++ 10 ∷ y) → x ≡ y
times_same n m x y e =
    let behind : decimal n ++ 10 ∷ x ≡ decimal m ++ 10 ∷ y = rest_same e in
    rest_same (until is_dense (decimal n) (decimal m) 10 10 x y (digits_dense n) (digits_dense m) refl refl behind).1

-- what stands behind the line of a group
abbrev behind_line : Heading → (ℕ → Option Holding) → ℕ → Option LedgerLine → LedgerLine → List ℕ → List ℕ
behind_line h held n b g r = 76 ∷ (left_row b g ++ 10 ∷ (moved_text h (event_before b) held ++ (ended (rest_text n b g) ++ r)))

opened : (h : Heading) (held : ℕ → Option Holding) (n : ℕ) (b : Option LedgerLine) (g : LedgerLine) (r : List ℕ)
    → change_text h held n b g ++ r ≡ codes "#" ++ (decimal g.start ++ 10 ∷ 115 ∷ (line_value h g ++ 32 ∷ behind_line h held n b g r))
opened h held n b g r =
    let moved = moved_text h (event_before b) held in
    let more = ended (rest_text n b g) in
    let left = left_row b g in
    let value = line_value h g in
    let last = 10 ∷ (moved ++ (more ++ r)) in
    append_assoc (ended (start_text h b g)) (moved ++ more) r
    ∙ ap (λ t. ended (start_text h b g) ++ t) (append_assoc moved more r)
    ∙ append_assoc (start_text h b g) (10 ∷ []) (moved ++ (more ++ r))
    ∙ append_assoc (time_text g.start ++ codes "\ns" ++ value ++ codes " L") left last
    ∙ append_assoc (time_text g.start ++ codes "\ns" ++ value) (codes " L") (left ++ last)
    ∙ append_assoc (time_text g.start ++ codes "\ns") value (codes " L" ++ (left ++ last))
    ∙ append_assoc (time_text g.start) (codes "\ns") (value ++ (codes " L" ++ (left ++ last)))

-- how many windows were overrun, up to what comes behind it
overran_same : (n m : ℕ) (b : Option LedgerLine) (g : LedgerLine) (x y : List ℕ) → ended (rest_text n b g) ++ x ≡ ended (rest_text m b g) ++ y → x ≡ y
overran_same n m b g x y e =
    let own = ended (work_text b g) in
    let parts : (k : ℕ) (r : List ℕ) → ended (rest_text k b g) ++ r ≡ 115 ∷ (overran_value k ++ 32 ∷ 79 ∷ 10 ∷ (own ++ r)) =
    λ k r. ap (λ t. t ++ r) (append_assoc (overran_text k) (work_text b g) (10 ∷ [])) ∙ append_assoc (overran_text k) own r
    ∙ append_assoc (codes "s" ++ overran_value k ++ codes " O") (10 ∷ []) (own ++ r) ∙ append_assoc (codes "s" ++ overran_value k) (codes " O") (10 ∷ (own ++ r))
    ∙ append_assoc (codes "s") (overran_value k) (32 ∷ 79 ∷ 10 ∷ (own ++ r)) in
    let both = rest_same (sym (parts n x) ∙ e ∙ parts m y) in
    let behind = (until is_dense (overran_value n) (overran_value m) 32 32 (79 ∷ 10 ∷ (own ++ x)) (79 ∷ 10 ∷ (own ++ y)) (overran_dense n) (overran_dense m) refl refl both).1 in
    append_cancel_left own x y (rest_same (rest_same (rest_same behind)))

module _ (h : Heading) (is : IsReadableHeading h) where
  -- the value of a mutex, whoever holds it, up to what comes behind it
  holder_same : (m : ℕ) (o p : Option Holding) (x y : List ℕ) → ended (holder_change h m o) ++ x ≡ ended (holder_change h m p) ++ y → x ≡ y
  holder_same m o p x y e =
      let behind : List ℕ → List ℕ = λ r. (codes "M" ++ decimal m) ++ 10 ∷ r in
      let parts : (q : Option Holding) (r : List ℕ) → ended (holder_change h m q) ++ r ≡ 115 ∷ (holder_value h q ++ 32 ∷ behind r) =
      λ q r. append_assoc (holder_change h m q) (10 ∷ []) r ∙ append_assoc (codes "s" ++ holder_value h q ++ codes " ") (codes "M" ++ decimal m) (10 ∷ r)
      ∙ append_assoc (codes "s" ++ holder_value h q) (codes " ") (behind r) ∙ append_assoc (codes "s") (holder_value h q) (32 ∷ behind r) in
      let both = rest_same (sym (parts o x) ∙ e ∙ parts p y) in
      let values = until is_dense (holder_value h o) (holder_value h p) 32 32 (behind x) (behind y) (holder_dense h (printable h is) o) (holder_dense h (printable h is) p) refl refl both in
      rest_same (append_cancel_left (codes "M" ++ decimal m) (10 ∷ x) (10 ∷ y) (rest_same values.1))

  told_same : (told : Bool) (m : ℕ) (o p : Option Holding) (x y : List ℕ)
      → (if told then ended (holder_change h m o) else []) ++ x ≡ (if told then ended (holder_change h m p) else []) ++ y → x ≡ y
  told_same true m o p x y e = holder_same m o p x y e
  told_same false m o p x y e = e

  -- the values of the mutexes below n that are told, whoever holds them
  below_same : (told : Occasion) (held other : ℕ → Option Holding) (n : ℕ) (x y : List ℕ)
      → texts_below (λ m. holder_text h told m (held m)) n ++ x ≡ texts_below (λ m. holder_text h told m (other m)) n ++ y → x ≡ y
  below_same told held other zero x y e =
      ap (λ t. t ++ x) (sym (no_texts (λ m. holder_text h told m (held m)))) ∙ e ∙ ap (λ t. t ++ y) (no_texts (λ m. holder_text h told m (other m)))
  below_same told held other (suc n) x y e =
      let f : ℕ → List ℕ = λ m. holder_text h told m (held m) in
      let k : ℕ → List ℕ = λ m. holder_text h told m (other m) in
      let both : texts_below f n ++ (f n ++ x) ≡ texts_below k n ++ (k n ++ y) =
      sym (append_assoc (texts_below f n) (f n) x) ∙ ap (λ t. t ++ x) (sym (one_text_more f n)) ∙ e
      ∙ ap (λ t. t ++ y) (one_text_more k n) ∙ append_assoc (texts_below k n) (k n) y in
      told_same (is_told told n) n (held n) (other n) x y (below_same told held other n (f n ++ x) (k n ++ y) both)

  moved_same : (event : Option Event) (held other : ℕ → Option Holding) (x y : List ℕ) → moved_text h event held ++ x ≡ moved_text h event other ++ y → x ≡ y
  moved_same None held other x y e = e
  moved_same (Some event) held other x y e = below_same (Occasion.Behind event) held other 16 x y e

  head_same : (held other : ℕ → Option Holding) (x y : List ℕ) → head_text h held ++ x ≡ head_text h other ++ y → x ≡ y
  head_same held other x y e =
      let signals = scopes_text h.processes in
      let parts : (f : ℕ → Option Holding) (r : List ℕ) → head_text h f ++ r ≡ signals ++ (holders_text h Occasion.Start f ++ (codes "$end\n" ++ r)) =
      λ f r. append_assoc signals (holders_text h Occasion.Start f ++ codes "$end\n") r ∙ ap (λ t. signals ++ t) (append_assoc (holders_text h Occasion.Start f) (codes "$end\n") r) in
      let behind = append_cancel_left signals (holders_text h Occasion.Start held ++ (codes "$end\n" ++ x)) (holders_text h Occasion.Start other ++ (codes "$end\n" ++ y)) (sym (parts held x) ∙ e ∙ parts other y) in
      append_cancel_left (codes "$end\n") x y (below_same Occasion.Start held other 16 (codes "$end\n" ++ x) (codes "$end\n" ++ y) behind)

  -- where a range ends no group begins
  no_group : (held : ℕ → Option Holding) (n : ℕ) (b : Option LedgerLine) (g : LedgerLine) (to : ℕ) (r : List ℕ) → tail_text to ≡ change_text h held n b g ++ r → ⊥
  no_group held n b g to r e =
      let behind = times_same to g.start [] (115 ∷ (line_value h g ++ 32 ∷ behind_line h held n b g r)) (e ∙ opened h held n b g r) in
      cc

  -- one group, and what comes behind it
  group_same : (held other : ℕ → Option Holding) (n m : ℕ) (b : Option LedgerLine) (g k : LedgerLine) (x y : List ℕ) → IsReadableLine h g → IsReadableLine h k
      → change_text h held n b g ++ x ≡ change_text h other m b k ++ y → (g ≡ k) × (x ≡ y)
  group_same held other n m b g k x y pg pk e =
      let lines = times_same g.start k.start (115 ∷ (line_value h g ++ 32 ∷ behind_line h held n b g x)) (115 ∷ (line_value h k ++ 32 ∷ behind_line h other m b k y))
      (sym (opened h held n b g x) ∙ e ∙ opened h other m b k y) in
      let both = line_back 44 32 refl refl (λ e. absurd (omega (arith, e))) h is g k (behind_line h held n b g x) (behind_line h other m b k y) pg pk (rest_same lines) in
      let same = both.0 in
      let rows = rest_same (ap (λ (l : LedgerLine). behind_line h held n b l x) (sym same) ∙ both.1) in
      let moved = rest_same (append_cancel_left (left_row b k) _ _ rows) in
      let rest = moved_same (event_before b) held other (ended (rest_text n b k) ++ x) (ended (rest_text m b k) ++ y) moved in
      (same, overran_same n m b k x y rest)

  groups_same : (es fs : List Entry) (b : Option LedgerLine) (gs ks : List LedgerLine) (to hi : ℕ) → AllByRecursion (IsReadableLine h) gs → AllByRecursion (IsReadableLine h) ks
      → changes_text h es b gs ++ tail_text to ≡ changes_text h fs b ks ++ tail_text hi → gs ≡ ks
  groups_same es fs b [] [] to hi pg pk e = refl
  groups_same es fs b [] (k ∷ ks) to hi pg pk e =
      let own = change_text h (holder_before fs k.start) (overran_at h fs k) b k in
      absurd (no_group (holder_before fs k.start) (overran_at h fs k) b k to (changes_text h fs (Some k) ks ++ tail_text hi) (e ∙ append_assoc own (changes_text h fs (Some k) ks) (tail_text hi)))
  groups_same es fs b (g ∷ gs) [] to hi pg pk e =
      let own = change_text h (holder_before es g.start) (overran_at h es g) b g in
      absurd (no_group (holder_before es g.start) (overran_at h es g) b g hi (changes_text h es (Some g) gs ++ tail_text to) (sym e ∙ append_assoc own (changes_text h es (Some g) gs) (tail_text to)))
  groups_same es fs b (g ∷ gs) (k ∷ ks) to hi pg pk e =
      let held = holder_before es g.start in
      let other = holder_before fs k.start in
      let more = changes_text h es (Some g) gs ++ tail_text to in
      let rest = changes_text h fs (Some k) ks ++ tail_text hi in
      let n = overran_at h es g in
      let m = overran_at h fs k in
      let first = group_same held other n m b g k more rest pg.0 pk.0
      (sym (append_assoc (change_text h held n b g) (changes_text h es (Some g) gs) (tail_text to)) ∙ e ∙ append_assoc (change_text h other m b k) (changes_text h fs (Some k) ks) (tail_text hi)) in
      ap (λ t. t ∷ gs) first.0
      ∙ ap (λ ts. k ∷ ts) (groups_same es fs (Some k) gs ks to hi pg.1 pk.1 (ap (λ x. changes_text h es (Some x) gs ++ tail_text to) (sym first.0) ∙ first.1))

-- two ledgers of one header whose dumps of these ranges are the same have the same entries in them
pub dumps_same : (h : Heading) (from to lo hi : ℕ) (es fs : List Entry) → IsReadable (record { heading = h; entries = es }) → IsReadable (record { heading = h; entries = fs })
    → vcd_text from to h es ≡ vcd_text lo hi h fs → slice from to es ≡ slice lo hi fs
dumps_same h from to lo hi es fs is other e =
    let behind_head = head_same h is.heading (holder_before es from) (holder_before fs lo) _ _ e in
    let same = groups_same h is.heading es fs None (groups from to es) (groups lo hi fs) to hi (groups_readable h from to es is) (groups_readable h lo hi fs other) behind_head in
    sym (whole_slice from to es) ∙ ap (flat_map entries_of) same ∙ whole_slice lo hi fs

pub one_to_one : (h : Heading) (es fs : List Entry) → IsReadable (record { heading = h; entries = es }) → IsReadable (record { heading = h; entries = fs })
    → vcd_text 0 (length es) h es ≡ vcd_text 0 (length fs) h fs → es ≡ fs
one_to_one h es fs is other e = sym (whole_all es) ∙ dumps_same h 0 (length es) 0 (length fs) es fs is other e ∙ whole_all fs
