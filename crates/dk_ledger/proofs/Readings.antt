-- What a reader has found when it stops.
use Rattle.dk_ledger.proofs.Names.{inl, inr, ◌≡◌, ◌∙◌, sym, ap, refl, subst, ◌<◌, ◌≤◌, ◌+◌, ℕ, zero, suc, Bool, true, false, List, [], ◌∷◌, ◌++◌, length, arith, append_assoc, append-nil, map, take, drop, get_or, length-append, length-map, get_or-take, length-take, take-append-le, flat_map-append, eqb-true, ltb-false, position-Some, Option, Some, None, IfSome, Result, Err, IsErrOf, MatchOption, ◌==◌, not, All, if◌then◌else◌, flat_map, IsErrAnd, Bor, AllByRecursion, list_all, position, prefix_len, append_cancel_left, is_name, Entry, TableRow, ProcessLine, LedgerLine, Heading, IsPrintable, process_body, ended, line_body, lines_of, entries_of, AreFilled, Journal, IsReadable, IsProcessLine, ShareLines, IsWrongLine, IsNoText, lines_in, text_of, Part, Kept, Item, IsPart, Takes, TakesNone, Reading, HasRead, HasReadAll, GoesFurther, IsGiven, ComesNext, IsFrontOf, TicksFit, kept, part_of, keeping, entries_in, item_body, Fits, with_item, end_body, end_bodies, level_bodies, bodies_of, whole, fed, nat_tests}
use Rattle.dk_ledger.proofs.NameLemmas.{take_all}
use Rattle.dk_ledger.proofs.OneCut.{is_cut}
use Rattle.dk_ledger.proofs.EntryLists.{all_both, length-entries}
use Rattle.dk_ledger.proofs.PrintedLines.{is_plain, level_plain, process_plain, line_plain, end_plain}
use Rattle.dk_ledger.proofs.NextItem.{names_fit, nothing, one_side, part_printable, goes_past}
use Rattle.dk_ledger.proofs.Continuing.{Goes, continues, first_of}
use Rattle.dk_ledger.proofs.LineCuts.{text_fed, lines_before, no_line, one_line_before}
use Rattle.dk_ledger.proofs.OneItemMore.{goes_on, as_journal, is_part, is_kept, bodies_more, kept_more}

no_cons : {A : Type 0} {x : A} {xs : List A} → x ∷ xs ≡ [] → ⊥
no_cons e = cc

-- all that can be read may have been read
as_part : (j : Journal) → IsReadable j → IsPart (whole j)
as_part j is = grind (arith, nat_tests)

abbrev ArePlain : List (List ℕ) → Type 0
ArePlain bodies = AllByRecursion (λ b. list_all is_plain b ≡ true) bodies

plain_levels : (j : ℕ) (rows : List TableRow) → ArePlain (level_bodies j rows)
plain_levels j [] = tt
plain_levels j (row ∷ rows) = (level_plain j row, plain_levels (suc j) rows)

plain_processes : (levels : ℕ) (ps : List ProcessLine) → AllByRecursion (IsProcessLine levels) ps → ArePlain (map process_body ps)
plain_processes levels [] all = tt
plain_processes levels (p ∷ ps) all = (process_plain p all.0.name, plain_processes levels ps all.1)

plain_lines : (h : Heading) → list_all (λ p. is_name p.name) h.processes ≡ true → (ls : List LedgerLine) → ArePlain (map (line_body h) ls)
plain_lines h names [] = tt
plain_lines h names (l ∷ ls) = (line_plain h names l, plain_lines h names ls)

module _ (p : Part) (part : IsPart p) where
  plain_end : (b : Bool) → ArePlain (if b then (end_body (length p.entries) ∷ []) else [])
  plain_end b = grind (arith, nat_tests, end_plain)

  pub bodies_plain : ArePlain (bodies_of p)
  bodies_plain = grind (arith, nat_tests, is_plain, all_both, plain_levels, plain_processes, plain_lines, names_fit, plain_end)

lines_of_text : (j : Journal) → IsReadable j → lines_in (text_of j) ≡ bodies_of (whole j)
lines_of_text j is =
    ap lines_in (text_fed j ∙ sym (append-nil (fed (bodies_of (whole j))))) ∙ lines_before (bodies_of (whole j)) [] (bodies_plain (whole j) (as_part j is))
    ∙ append-nil (bodies_of (whole j))

take_and_drop : {A : Type 0} (n : ℕ) (xs : List A) → xs ≡ take n xs ++ drop n xs
take_and_drop zero xs = refl
take_and_drop (suc n) [] = refl
take_and_drop (suc n) (x ∷ xs) = ap (λ zs. x ∷ zs) (take_and_drop n xs)

-- of two lists of lines with this front, as many are the same
shared : (m : ℕ) (a b : List ℕ) (front x y : List (List ℕ)) → lines_in a ≡ front ++ x → lines_in b ≡ front ++ y → m ≤ length front → ShareLines m a b
shared m a b front x y la lb l =
    let count_a = ap length la ∙ length-append front x in
    let count_b = ap length lb ∙ length-append front y in
    record {
      left = omega (arith, count_a, l);
      right = omega (arith, count_b, l);
      same = ap (take m) la ∙ take-append-le m front x l ∙ sym (take-append-le m front y l) ∙ sym (ap (take m) lb);
    }

module _ (bytes rest : List ℕ) (p : Part) (part : IsPart p) (read : bytes ≡ fed (bodies_of p) ++ rest) where
  bytes_lines : lines_in bytes ≡ bodies_of p ++ lines_in rest
  bytes_lines = ap lines_in read ∙ lines_before (bodies_of p) rest (bodies_plain p part)

  reached : (m : ℕ) → m < suc (length (bodies_of p)) → (j : Journal) × IsReadable j × ShareLines m bytes (text_of j)
  reached m l =
      let goes = goes_on p part in
      (goes.0, goes.1, shared m bytes (text_of goes.0) (bodies_of p) (lines_in rest) goes.2 bytes_lines (lines_of_text goes.0 goes.1 ∙ goes.3) (omega (arith, l)))

  -- the next line is that of no item that may come next
  module _ (line more : List ℕ) (next : rest ≡ line ++ 10 ∷ more) (feeds : All (λ b. (b == 10) ≡ false) line) (none : TakesNone (kept p) line) where
    lines_then : lines_in bytes ≡ (bodies_of p ++ line ∷ []) ++ lines_in more
    lines_then =
        bytes_lines ∙ ap (λ ls. bodies_of p ++ ls) (ap lines_in next ∙ one_line_before line more feeds)
        ∙ sym (append_assoc (bodies_of p) (line ∷ []) (lines_in more))

    count : length (bodies_of p ++ line ∷ []) ≡ suc (length (bodies_of p))
    count = length-append (bodies_of p) (line ∷ []) ∙ omega arith

    wrong : (j : Journal) → IsReadable j → ShareLines (suc (length (bodies_of p))) bytes (text_of j) → ⊥
    wrong j is share =
        let n = suc (length (bodies_of p)) in
        let front : take n (lines_in bytes) ≡ bodies_of p ++ line ∷ [] =
        ap (take n) lines_then ∙ take-append-le n (bodies_of p ++ line ∷ []) (lines_in more) (omega (arith, count))
        ∙ ap (λ k. take k (bodies_of p ++ line ∷ [])) (sym count) ∙ take_all (bodies_of p ++ line ∷ []) in
        let of_text : take n (bodies_of (whole j)) ≡ bodies_of p ++ line ∷ [] = ap (take n) (sym (lines_of_text j is)) ∙ sym share.same ∙ front in
        let begins : bodies_of (whole j) ≡ bodies_of p ++ (line ∷ drop n (bodies_of (whole j))) =
        take_and_drop n (bodies_of (whole j)) ∙ ap (λ t. t ++ drop n (bodies_of (whole j))) of_text
        ∙ append_assoc (bodies_of p) (line ∷ []) (drop n (bodies_of (whole j))) in
        refuse (continues j p is part (line ∷ drop n (bodies_of (whole j))) begins)
      where
        refuse : {rest2 : List (List ℕ)} → Goes j p (line ∷ rest2) → ⊥
        refuse (inl next2) = none next2.0 next2.2 (first_of next2.3)
        refuse (inr over) = no_cons over.1

    pub wrong_line : IsWrongLine (suc (length (bodies_of p))) bytes × IsNoText bytes
    wrong_line = (
      record { reached = reached; wrong = wrong },
      λ j is same. wrong j is (subst (ShareLines (suc (length (bodies_of p))) bytes) (sym same) (record { left = enough; right = enough; same = refl })),
    )
      where
        enough : suc (length (bodies_of p)) ≤ length (lines_in bytes)
        enough = let all = ap length lines_then ∙ length-append (bodies_of p ++ line ∷ []) (lines_in more) in omega (arith, all, count)

  -- no line comes behind, but it isn't the end
  module _ (feeds : All (λ b. (b == 10) ≡ false) rest) (unended : p.ended ≡ true → rest ≡ [] → ⊥) where
    lines_now : lines_in bytes ≡ bodies_of p
    lines_now = bytes_lines ∙ ap (λ ls. bodies_of p ++ ls) (no_line rest feeds) ∙ append-nil (bodies_of p)

    no_text : (j : Journal) → IsReadable j → text_of j ≡ bytes → ⊥
    no_text j is same = refuse (continues j p is part [] (sym (lines_of_text j is) ∙ ap lines_in same ∙ lines_now ∙ sym (append-nil (bodies_of p))))
      where
        refuse : Goes j p [] → ⊥
        refuse (inl next) = no_cons (sym next.3)
        refuse (inr over) =
            unended (ap (λ q. q.ended) over.0)
            (append_cancel_left (fed (bodies_of p)) rest [] (sym read ∙ sym same ∙ text_fed j ∙ ap (λ q. fed (bodies_of q)) (sym over.0) ∙ sym (append-nil (fed (bodies_of p)))))

    pub no_more : IsWrongLine (suc (length (bodies_of p))) bytes × IsNoText bytes
    no_more = grind (arith, nat_tests, reached, wrong, lines_now, no_text)

  pub all_read : p.ended ≡ true → rest ≡ [] → IsReadable (record { heading = p.heading; entries = p.entries }) × (text_of (record { heading = p.heading; entries = p.entries }) ≡ bytes)
  all_read ended empty = (
    as_journal p part (some p.heading.processes refl),
    text_fed (record { heading = p.heading; entries = p.entries })
        ∙ ap (λ l. fed (bodies_of (record { heading = p.heading; entries = p.entries; last = l; ended = true }))) (sym part.last)
        ∙ ap (λ b. fed (bodies_of (record { heading = p.heading; entries = p.entries; last = p.last; ended = b }))) (sym ended)
        ∙ sym (append-nil (fed (bodies_of p))) ∙ ap (λ r. fed (bodies_of p) ++ r) (sym empty) ∙ sym read,
  )
    where
      some : (ps : List ProcessLine) → p.heading.processes ≡ ps → 1 ≤ length p.heading.processes
      some [] e = absurd (one_side ended (part.processes_first e).1)
      some (q ∷ qs) e = let count = ap length e in omega (arith, count)

-- No two ledgers that can be read have one text.
pub one_text : (j k : Journal) → IsReadable j → IsReadable k → text_of j ≡ text_of k → j ≡ k
one_text j k hj hk e =
    same (continues j (whole k) hj (as_part k hk) [] (sym (lines_of_text j hj) ∙ ap lines_in e ∙ lines_of_text k hk ∙ sym (append-nil (bodies_of (whole k)))))
  where
    same : Goes j (whole k) [] → j ≡ k
    same (inl next) = absurd (no_cons (sym next.3))
    same (inr over) = sym (ap (λ p. record { heading = p.heading; entries = p.entries }) over.0)

abbrev is_feed : ℕ → Bool
is_feed b = b == 10

at_place : (bytes : List ℕ) (n : ℕ) → n < length bytes → bytes ≡ take n bytes ++ get_or bytes n 0 ∷ drop (suc n) bytes
at_place [] n l = absurd (omega arith)
at_place (b ∷ bytes) zero l = refl
at_place (b ∷ bytes) (suc n) l = ap (λ bs. b ∷ bs) (at_place bytes n (omega arith))

-- a byte of a text has no default
same_byte : (bytes : List ℕ) (k d e : ℕ) → k < length bytes → get_or bytes k d ≡ get_or bytes k e
same_byte [] k d e l = absurd (omega arith)
same_byte (b ∷ bytes) zero d e l = refl
same_byte (b ∷ bytes) (suc k) d e l = same_byte bytes k d e (omega arith)

-- Where the first line feed is, a line ends.
pub next_line : (bytes : List ℕ) (n : ℕ) → position is_feed bytes ≡ Some n
    → (n < length bytes) × (bytes ≡ take n bytes ++ 10 ∷ drop (n + 1) bytes) × All (λ b. (b == 10) ≡ false) (take n bytes)
next_line bytes n found =
    let at = position-Some is_feed bytes n 0 found in
    let feed = eqb-true (get_or bytes n 0) 10 at.1 in
    let next : suc n ≡ n + 1 = omega arith in (
      at.0,
      at_place bytes n at.0 ∙ ap (λ b. take n bytes ++ b ∷ drop (suc n) bytes) feed ∙ ap (λ m. take n bytes ++ 10 ∷ drop m bytes) next,
      λ k d l.
          let inside : k < n = let count = length-take n bytes in let there = at.0 in omega (arith, l, count, there) in
          ap is_feed (get_or-take n bytes k d inside ∙ same_byte bytes k d 0 (let there = at.0 in omega (arith, inside, there))) ∙ at.2 k inside,
    )

-- the search has gone on over the first byte, and over all behind it
all_fail : (bytes : List ℕ) → length bytes ≤ prefix_len (λ b. not (is_feed b)) bytes → (k d : ℕ) → k < length bytes → (get_or bytes k d == 10) ≡ false
all_fail [] long k d l = absurd (omega arith)
all_fail (b ∷ bytes) long zero d l = (goes_past (is_feed b) (length bytes) (prefix_len (λ c. not (is_feed c)) bytes) long).0
all_fail (b ∷ bytes) long (suc k) d l = all_fail bytes (goes_past (is_feed b) (length bytes) (prefix_len (λ c. not (is_feed c)) bytes) long).1 k d (omega arith)

pub no_line_feed : (bytes : List ℕ) → position is_feed bytes ≡ None → All (λ b. (b == 10) ≡ false) bytes
no_line_feed bytes none = grind (arith, nat_tests, all_fail, nothing, ltb-false)

-- the line of a text that begins with these
few_levels : (j : ℕ) (rows : List TableRow) → length (level_bodies j rows) ≡ length rows
few_levels j [] = refl
few_levels j (row ∷ rows) = ap suc (few_levels (suc j) rows)

pub few_lines : (ls : List LedgerLine) → AreFilled ls → length ls ≤ length (flat_map entries_of ls)
few_lines [] filled = omega arith
few_lines (l ∷ ls) filled =
    let later = few_lines ls filled.1 in
    let count = length-entries l filled.0 in
    let some = filled.0 in
    let sum = length-append (entries_of l) (flat_map entries_of ls) in
    omega (arith, later, count, some, sum)

few_ends : (p : Part) (b : Bool) → length (if b then (end_body (length p.entries) ∷ []) else []) ≤ 1
few_ends p b = grind (arith, nat_tests)

-- no ledger that can be read has many lines
pub few_bodies : (p : Part) → IsPart p → length (bodies_of p) ≤ 10000045
few_bodies p part =
    let levels = level_bodies 0 p.heading.levels in
    let processes = map process_body p.heading.processes in
    let lines = map (line_body p.heading) (lines_of p.entries) in
    let one = length-append levels (processes ++ (lines ++ end_bodies p)) in
    let two = length-append processes (lines ++ end_bodies p) in
    let three = length-append lines (end_bodies p) in
    let counted_levels = few_levels 0 p.heading.levels in
    let counted_processes = length-map p.heading.processes process_body in
    let counted_lines = length-map (lines_of p.entries) (line_body p.heading) in
    let cut = is_cut p.entries in
    let most = few_lines (lines_of p.entries) cut.filled in
    let entries = ap length cut.whole in
    let last = few_ends p p.ended in
    let a = part.few_levels in
    let b = part.few_processes in
    let c = part.short in
    omega (arith, one, two, three, counted_levels, counted_processes, counted_lines, most, entries, last, a, b, c)

regroup : (a b c : List ℕ) → a ++ (b ++ 10 ∷ c) ≡ (a ++ ((b ++ 10 ∷ []) ++ [])) ++ c
regroup a b c = simp (append_assoc, append-nil)

-- What is kept of these entries, and of all else that has been read.
module _ (k : Kept) (es : List Entry) (ticks : k.ticks ≡ length es) where
  pub kept_of : kept (part_of k es) ≡ k
  kept_of = ap (λ n. record { heading = k.heading; ticks = n; last = k.last; ended = k.ended }) (sym ticks)

  pub takes_none : (line : List ℕ) → TakesNone k line → TakesNone (kept (part_of k es)) line
  takes_none line none = subst (λ old. TakesNone old line) (sym kept_of) none

with_its_entries : (k : Kept) (es : List Entry) (i : Item) → part_of (keeping k i) (es ++ entries_in i) ≡ with_item (part_of k es) i
with_its_entries k es (Item.Level row) = ap (part_of (keeping k (Item.Level row))) (append-nil es)
with_its_entries k es (Item.Process q) = ap (part_of (keeping k (Item.Process q))) (append-nil es)
with_its_entries k es (Item.Ticks l) = refl
with_its_entries k es Item.End = ap (part_of (keeping k Item.End)) (append-nil es)

-- The next line has been taken.
module _ (old new : Kept) (es : List Entry) (line : List ℕ) (part : IsPart (part_of old es)) (ticks : old.ticks ≡ length es) (i : Item) (taken : Takes old line new i) where
  abbrev before : Part
  before = part_of old es

  abbrev behind : List Entry
  behind = es ++ entries_in i

  fits : Fits (kept before) i
  fits = subst (λ k. Fits k i) (sym (kept_of old es ticks)) taken.fits

  body : line ≡ item_body (kept before) i
  body = taken.body ∙ ap (λ k. item_body k i) (sym (kept_of old es ticks))

  grown : part_of new behind ≡ with_item before i
  grown = ap (λ k. part_of k behind) taken.added ∙ with_its_entries old es i

  next_kept : kept (with_item before i) ≡ new
  next_kept = kept_more before part i fits ∙ ap (λ k. keeping k i) (kept_of old es ticks) ∙ sym taken.added

  next_ticks : new.ticks ≡ length behind
  next_ticks = ap (λ k. k.ticks) (sym next_kept) ∙ ap (λ p. length p.entries) (sym grown)

  taken_bodies : bodies_of (part_of new behind) ≡ bodies_of before ++ line ∷ []
  taken_bodies = ap bodies_of grown ∙ bodies_more before part i fits ∙ ap (λ t. bodies_of before ++ t ∷ []) (sym body)

  taken_count : (n : ℕ) → n ≡ suc (length (bodies_of before)) → n + 1 ≡ suc (length (bodies_of (part_of new behind)))
  taken_count n e =
      let count = ap length taken_bodies in
      let sum = length-append (bodies_of before) (line ∷ []) in
      omega (arith, e, count, sum)

  taken_text : (bytes rest more : List ℕ) → bytes ≡ fed (bodies_of before) ++ rest → rest ≡ line ++ 10 ∷ more → bytes ≡ fed (bodies_of (part_of new behind)) ++ more
  taken_text bytes rest more read next = grind (arith, nat_tests, regroup, flat_map-append, taken_bodies)

  pub has_read : (bytes rest more : List ℕ) (n : ℕ) → n ≡ suc (length (bodies_of before)) → bytes ≡ fed (bodies_of before) ++ rest → rest ≡ line ++ 10 ∷ more
      → HasRead bytes behind (record { kept = new; rest = more; line = n + 1 })
  has_read bytes rest more n e read next =
      record {
        part = subst IsPart (sym grown) (is_part before part i fits);
        ticks = next_ticks;
        line = taken_count n e;
        read = taken_text bytes rest more read next;
      }

abbrev NoFeed : List ℕ → Type 0
NoFeed bytes = All (λ b. (b == 10) ≡ false) bytes

pub line_parts : (rest : List ℕ) (r : Option (Bor (List ℕ) × Bor (List ℕ))) (text behind : Bor (List ℕ)) → r ≡ Some (text, behind)
    → MatchOption r (NoFeed rest) (λ parts. (rest ≡ parts.0.now ++ 10 ∷ parts.1.now) × NoFeed parts.0.now) → (rest ≡ text.now ++ 10 ∷ behind.now) × NoFeed text.now
line_parts rest text behind is e found = grind (arith, nat_tests)

-- What a reader finds that has read these entries of these bytes.
module _ (bytes : List ℕ) (es : List Entry) (r : Reading) (read : HasRead bytes es r) where
  abbrev so_far : Part
  so_far = part_of r.kept es

  pub wrong_next : (line more : List ℕ) → r.rest ≡ line ++ 10 ∷ more → NoFeed line → TakesNone r.kept line → IsWrongLine r.line bytes × IsNoText bytes
  wrong_next line more next feeds none =
      subst (λ n. IsWrongLine n bytes × IsNoText bytes) (sym read.line)
      (wrong_line bytes r.rest so_far read.part read.read line more next feeds (takes_none r.kept es read.ticks line none))

  pub wrong_end : NoFeed r.rest → (r.kept.ended ≡ true → r.rest ≡ [] → ⊥) → IsWrongLine r.line bytes × IsNoText bytes
  wrong_end feeds unended = subst (λ n. IsWrongLine n bytes × IsNoText bytes) (sym read.line) (no_more bytes r.rest so_far read.part read.read feeds unended)

  pub whole_read : r.kept.ended ≡ true → r.rest ≡ [] → HasReadAll bytes es r.kept.heading
  whole_read ended empty =
      let all = all_read bytes r.rest so_far read.part read.read ended empty in
      record { readable = all.0; text = all.1 }

  pub further_read : (k : Kept) (line more : List ℕ) (i : Item) (n : ℕ) → Takes r.kept line k i → r.rest ≡ line ++ 10 ∷ more → n ≡ r.line
      → GoesFurther bytes es r (record { kept = k; rest = more; line = n + 1 })
  further_read k line more i n taken next same =
      record {
        item = i;
        fits = taken.fits;
        kept = taken.added;
        read = has_read r.kept k es line read.part read.ticks i taken bytes r.rest more n (same ∙ read.line) read.read next;
      }

  pub few_lines_read : r.line ≤ 10000046
  few_lines_read =
      let few = few_bodies so_far read.part in
      let line = read.line in
      omega (arith, few, line)

-- A reader has gone on by one item.
module _ (bytes : List ℕ) (es : List Entry) (old new : Reading) (read : HasRead bytes es old) (further : GoesFurther bytes es old new) where
  -- it is no line of entries
  pub no_ticks : new.kept.ticks ≡ old.kept.ticks → HasRead bytes es new
  no_ticks same = go further.item further.fits further.kept further.read
    where
      go : (i : Item) → Fits old.kept i → new.kept ≡ keeping old.kept i → HasRead bytes (es ++ entries_in i) new → HasRead bytes es new
      go (Item.Level row) fits kept more = subst (λ all. HasRead bytes all new) (append-nil es) more
      go (Item.Process q) fits kept more = subst (λ all. HasRead bytes all new) (append-nil es) more
      go (Item.Ticks l) fits kept more = absurd (let some = fits.count in let sum = ap (λ k. k.ticks) kept in omega (arith, same, some, sum))
      go Item.End fits kept more = subst (λ all. HasRead bytes all new) (append-nil es) more

  -- it is this line of entries
  pub some_ticks : (new.kept.ticks ≡ old.kept.ticks → ⊥) → (line : LedgerLine) → new.kept.last ≡ Some line
      → HasRead bytes (es ++ entries_of line) new × TicksFit old.kept line × (new.kept.heading ≡ old.kept.heading)
  some_ticks other line last = grind (arith, nat_tests)

  pub some_last : (new.kept.ticks ≡ old.kept.ticks → ⊥) → new.kept.last ≡ None → ⊥
  some_last other none = grind (arith, nat_tests)

  -- a header is whole once there are entries
  pub same_heading : 0 < old.kept.ticks → new.kept.heading ≡ old.kept.heading
  same_heading some = grind (arith, nat_tests)

-- what a reader that has read these entries gives
pub comes_next : (bytes : List ℕ) (es : List Entry) (o : Option LedgerLine) (old new : Reading) → HasRead bytes es old
    → IfSome o (λ line. (bytes : List ℕ) (es : List Entry) → HasRead bytes es old → HasRead bytes (es ++ entries_of line) new)
    → IfSome o (IsGiven old new)
    → (o ≡ None → (bytes : List ℕ) (es : List Entry) → HasRead bytes es old → HasReadAll bytes es new.kept.heading)
    → ComesNext bytes es o new
comes_next bytes es None old new read given is_given end = end refl bytes es read
comes_next bytes es (Some line) old new read given is_given end =
    record { read = given bytes es read; start = is_given.start ∙ read.ticks; count = is_given.count; short = is_given.short; label = is_given.label }

-- a fault that is passed on
pub passed_on : {T U E : Type 0} (r : Result T E) (x y : E) → IsErrAnd r (λ z. z ≡ x) → IsErrOf r y → IsErrOf {T = U} {E = E} (Err x) y
passed_on is x y at e = grind (arith, nat_tests)

pub some_is : {A : Type 0} (o : Option A) (x : A) (P : A → Type 0) → o ≡ Some x → IfSome o P → P x
some_is None x P e h = absurd (nothing e)
some_is (Some y) x P e h = let same : y ≡ x = cc in subst P same h

pub some_of : {A : Type 0} (o : Option A) (P : A → Type 0) → ((x : A) → o ≡ Some x → P x) → IfSome o P
some_of None P h = tt
some_of (Some x) P h = h x refl

-- the entries so far are the first of the whole, and the header doesn't change behind the first of them
abbrev IsFront : Journal → Part → Type 0
IsFront j p = (later : List Entry) × (j.entries ≡ p.entries ++ later) × (0 < length p.entries → p.heading ≡ j.heading)

whole_front : (j : Journal) (p : Part) → p ≡ whole j → IsFront j p
whole_front j p same = ([], sym (ap (λ q. q.entries) same) ∙ sym (append-nil p.entries), λ some. ap (λ q. q.heading) same)

with_front : (j : Journal) (p : Part) (i : Item) → IsPart p → Fits (kept p) i → IsFront j (with_item p i) → IsFront j p
with_front j p (Item.Level row) part fits front = (front.0, front.1, λ some. absurd (let none = ap length (part.processes_first fits.first).0 in omega (arith, some, none)))
with_front j p (Item.Process q) part fits front = (front.0, front.1, λ some. absurd (let none = fits.first in omega (arith, some, none)))
with_front j p (Item.Ticks l) part fits front = (
  entries_of l ++ front.0,
  front.1 ∙ append_assoc p.entries (entries_of l) front.0,
  λ some. front.2 (let sum = length-append p.entries (entries_of l) in omega (arith, some, sum)),
)
with_front j p Item.End part fits front = front

front_of : (j : Journal) (p : Part) → IsReadable j → IsPart p → (more : List (List ℕ)) → bodies_of (whole j) ≡ bodies_of p ++ more → IsFront j p
front_of j p is part [] e = go (continues j p is part [] e)
  where
    go : Goes j p [] → IsFront j p
    go (inl next) = absurd (no_cons (sym next.3))
    go (inr over) = whole_front j p over.0
front_of j p is part (line ∷ more) e = go (continues j p is part (line ∷ more) e) (λ q at f. front_of j q is at more f)
  where
    go : Goes j p (line ∷ more) → ((q : Part) → IsPart q → bodies_of (whole j) ≡ bodies_of q ++ more → IsFront j q) → IsFront j p
    go (inr over) later = absurd (no_cons over.1)
    go (inl next) later =
        let i = next.0 in
        let fits = next.2 in
        let body : line ≡ item_body (kept p) i = first_of next.3 in
        let bodies : bodies_of (with_item p i) ≡ bodies_of p ++ line ∷ [] = bodies_more p part i fits ∙ ap (λ t. bodies_of p ++ t ∷ []) (sym body) in
        with_front j p i part fits
        (later (with_item p i) (is_part p part i fits)
        (e ∙ sym (append_assoc (bodies_of p) (line ∷ []) more) ∙ ap (λ t. t ++ more) (sym bodies)))

pub read_in_order : (j : Journal) (es : List Entry) (r : Reading) → IsReadable j → HasRead (text_of j) es r → IsFrontOf j es r
read_in_order j es r is read =
    let p = part_of r.kept es in
    let lines = sym (lines_of_text j is) ∙ bytes_lines (text_of j) r.rest p read.part read.read in
    let front = front_of j p is read.part (lines_in r.rest) lines in
    record { later = front.0; entries = front.1; heading = front.2 }

pub header_printable : (bytes : List ℕ) (es : List Entry) (r : Reading) → HasRead bytes es r → IsPrintable r.kept.heading
header_printable bytes es r read = part_printable (kept (part_of r.kept es)) (is_kept (part_of r.kept es) read.part)

-- The line that has been given, where the ticks before it are those of start.
pub is_given : (start old new : Reading) (line : LedgerLine) → TicksFit old.kept line → new.kept.heading ≡ old.kept.heading → old.kept.ticks ≡ start.kept.ticks
    → length new.rest < length start.rest → IsGiven start new line
is_given start old new line fits heading ticks less = grind (arith, nat_tests)
