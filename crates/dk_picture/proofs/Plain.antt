-- The words that a picture has from a ledger are of letters, digits, dots, stars, underscores and blanks.
use Rattle.dk_picture.proofs.Names.{ℕ, ◌≡◌, ◌+◌, ◌-◌, ◌++◌, [], ◌∷◌, List, length, refl, subst, arith, codes, digits, true, decimal, Option, Some, None, AllByRecursion, list_all, option_map_or, nat_tests, is_name, is_word, ThreadId, Label, Event, Entry, thread_of, ProcessLine, LedgerLine, Heading, name_of, event_text, line_body, thread_text, event_words, is_spelled, line_words, IsProcessLine, IsReadable, IsReadableHeading, all_both, both_right, all_append, event_spelled, line_spelled, number_spelled, process_spelled, thread_spelled, event_blanks, line_blanks, printable, parted_all, word_all, all_more, groups, Hold, holds_in, Row, bars, hold_bars, mutex_rows, mark_title, marks, marks_at, marks_of, owner_words, ArePlain, IsPlain, is_plain, rows_of, row_name}
use Rattle.dk_picture.specs.HoldBars.{hold_words}
use Rattle.dk_picture.specs.declared.rows.Row.TheVariants as row

both : (s t : List ℕ) → IsPlain s → IsPlain t → IsPlain (s ++ t)
both = all_append is_plain

word_plain : (b : ℕ) → is_word b ≡ true → is_plain b ≡ true
word_plain b h = grind (arith, nat_tests)

-- ---- the words of a line

spelled_plain : (b : ℕ) → is_spelled b ≡ true → is_plain b ≡ true
spelled_plain b h = grind (arith, nat_tests)

number_plain : (n : ℕ) → IsPlain (decimal n)
number_plain n = word_all is_plain spelled_plain (decimal n) (number_spelled n)

counted_plain : (s : List ℕ) (n : ℕ) → IsPlain s → IsPlain (s ++ decimal n)
counted_plain s n plain = both s (decimal n) plain (number_plain n)

event_plain : (event : Event) → IsPlain (event_text event)
event_plain event = subst IsPlain (event_blanks event) (parted_all is_plain spelled_plain 32 refl (event_words (Some event)) (event_spelled (Some event)))

processes_plain : (levels : ℕ) (ps : List ProcessLine) → AllByRecursion (IsProcessLine levels) ps → AllByRecursion (λ p. IsPlain p.name) ps
processes_plain levels [] all = tt
processes_plain levels (p ∷ ps) all =
    (all_more is_word is_plain word_plain p.name (both_right _ (list_all is_word p.name) all.0.name), processes_plain levels ps all.1)

module _ (h : Heading) (is : IsReadableHeading h) where
  names : list_all (λ p. is_name p.name) h.processes ≡ true
  names = (printable h is).names

  name_plain : (p : ℕ) → IsPlain (name_of h p)
  name_plain p = word_all is_plain spelled_plain (name_of h p) (process_spelled h names p)

  thread_plain : (x : ThreadId) → IsPlain (thread_text h x)
  thread_plain x = word_all is_plain spelled_plain (thread_text h x) (thread_spelled h names x)

  line_plain : (g : LedgerLine) → IsPlain (line_body h g)
  line_plain g = subst IsPlain (line_blanks h g) (parted_all is_plain spelled_plain 32 refl (line_words h g) (line_spelled h names g))

  -- ---- the names and titles of a picture

  row_plain : (r : Row) → IsPlain (row_name h r)
  row_plain row.Kernel = refl
  row_plain (row.Thread x) = thread_plain x
  row_plain (row.Children p) = both (name_of h p) (codes ".*") (name_plain p) refl

  rows_plain : (rs : List Row) → AllByRecursion (λ r. IsPlain (row_name h r)) rs
  rows_plain [] = tt
  rows_plain (r ∷ rs) = (row_plain r, rows_plain rs)

  bars_plain : (rows : List Row) (from : ℕ) (gs : List LedgerLine) → AllByRecursion (λ b. IsPlain b.title) (bars h rows from gs)
  bars_plain rows from [] = tt
  bars_plain rows from (g ∷ gs) = (line_plain g, bars_plain rows from gs)

  owner_plain : (o : Option ThreadId) → IsPlain (option_map_or (thread_text h) o [])
  owner_plain None = refl
  owner_plain (Some x) = thread_plain x

  mark_plain : (tick : ℕ) (label : Label) (event : Event) → IsPlain (mark_title h tick label event)
  mark_plain tick label event =
      both (decimal tick) (codes " " ++ (owner_words h label ++ (codes " " ++ event_text event))) (number_plain tick)
      (both (codes " ") (owner_words h label ++ (codes " " ++ event_text event)) refl
      (both (owner_words h label) (codes " " ++ event_text event) (owner_plain (thread_of label)) (both (codes " ") (event_text event) refl (event_plain event))))

  marks_at_plain : (rows : List Row) (tick : ℕ) (label : Label) (event : Option Event) → AllByRecursion (λ m. IsPlain m.title) (marks_at h rows tick label event)
  marks_at_plain rows tick label None = tt
  marks_at_plain rows tick label (Some event) = (mark_plain tick label event, tt)

  marks_plain : (rows : List Row) (gs : List LedgerLine) → AllByRecursion (λ m. IsPlain m.title) (marks h rows gs)
  marks_plain rows [] = tt
  marks_plain rows (g ∷ gs) =
      all_both (λ m. IsPlain m.title) (marks_of h rows g) (marks h rows gs) (marks_at_plain rows (g.start + (g.count - 1)) g.label g.event) (marks_plain rows gs)

  hold_plain : (start count : ℕ) (x : ThreadId) (m : ℕ) → IsPlain (hold_words start count (thread_text h x) m)
  unfolding hold_words
  hold_plain start count x m =
      let last = thread_text h x ++ (codes " holds " ++ decimal m) in
      both (decimal start) (codes " " ++ (decimal count ++ (codes " " ++ last))) (number_plain start)
      (both (codes " ") (decimal count ++ (codes " " ++ last)) refl
      (both (decimal count) (codes " " ++ last) (number_plain count)
      (both (codes " ") last refl (both (thread_text h x) (codes " holds " ++ decimal m) (thread_plain x) (counted_plain (codes " holds ") m refl)))))

  holds_plain : (ms : List ℕ) (from : ℕ) (ds : List Hold) → AllByRecursion (λ b. IsPlain b.title) (hold_bars h ms from ds)
  holds_plain ms from [] = tt
  holds_plain ms from (d ∷ ds) = (hold_plain d.start (d.end - d.start) d.thread d.mutex, holds_plain ms from ds)

  holders_plain : (ds : List Hold) → AllByRecursion (λ d. IsPlain (thread_text h d.thread)) ds
  holders_plain [] = tt
  holders_plain (d ∷ ds) = (thread_plain d.thread, holders_plain ds)

pub all_plain : (h : Heading) (from to : ℕ) (es : List Entry) → IsReadable (record { heading = h; entries = es }) → ArePlain h from to es
all_plain h from to es readable =
    let is = readable.heading in
    let gs = groups from to es in
    let ds = holds_in from to es in
    record {
      processes = processes_plain (length h.levels) h.processes is.processes;
      rows = rows_plain h is (rows_of h gs);
      bars = bars_plain h is (rows_of h gs) from gs;
      marks = marks_plain h is (rows_of h gs) gs;
      holds = holds_plain h is (mutex_rows ds) from ds;
      holders = holders_plain h is ds;
    }
