-- A line that a reader gives is the next of the lines into which the ledger's entries are cut.
use Rattle.std.proofs.Common.{ℕ, zero, suc, ◌≡◌, ◌∙◌, ◌⊎◌, inl, inr, ◌+◌, ◌-◌, ◌<◌, ◌≤◌, ◌++◌, [], ◌∷◌, List, length, sym, ap, refl, subst, arith, length-append, append_assoc, append-nil, map}
use Rattle.std.specs.Prelude.{Option, Some, None, Bool, true, false, flat_map, replicate, option_to_list, max, min, nat_lt, ◌==◌, if◌then◌else◌}
use Rattle.std.specs.List.{AllByRecursion, list_all}
use Rattle.dk_config.specs.Rules.{is_name}
use Rattle.std.proofs.lemmas.List.{append_cancel_left}
use Rattle.std.proofs.lemmas.Grind.{flat_map-append}
use Rattle.dk_trace.specs.declared.Label.{Label}
use Rattle.dk_trace.specs.declared.Event.{Event}
use Rattle.dk_trace.specs.declared.Entry.{Entry}
use Rattle.dk_trace.specs.Ranges.{HasEntry, HasLabel, HasOwnEvent}
use borrow.Author.Tests.{ltb-true}
use Rattle.dk_ledger.specs.declared.line.LedgerLine.{LedgerLine}
use Rattle.dk_ledger.specs.Heading.{Heading, process_body}
use Rattle.dk_ledger.specs.LineText.{line_body}
use Rattle.dk_ledger.specs.Lines.{lines_of, joins}
use Rattle.dk_ledger.specs.Cuts.{entries_of, AreApart, AreFilled}
use Rattle.dk_ledger.specs.Ledgers.{last_of}
use Rattle.dk_ledger.specs.Readable.{Journal, IsReadable, HaveOwnNames, lines_in, size_in, text_of}
use Rattle.dk_ledger.specs.ReadSoFar.{Part, Reading, HasRead, HasReadAll, IsGiven, IsApart, part_of, bodies_of, level_bodies, end_bodies, whole, fed}
use Rattle.dk_ledger.proofs.OneCut.{is_cut, only_cut}
use Rattle.dk_ledger.proofs.EntryLists.{IsReadableLine, lines_readable, length-entries, filled_more, in_turn_more, apart_more, stands_apart, is_filled}
use Rattle.dk_ledger.proofs.LineCuts.{lines_before, text_fed}
use Rattle.dk_ledger.proofs.Readings.{bodies_plain, header_printable, one_text, read_in_order}
use Rattle.dk_ledger.proofs.OneText.{one_line}
use Rattle.dk_groups.specs.Groups.{groups, part_of_line}
use Rattle.dk_groups.specs.Cutting.{Cutting, HasGiven, HasPassed, ComesNext, IsGroupIn}
use Rattle.dk_groups.proofs.ListParts.{first_same, rest_same}

-- one list begins with the other
abbrev Begins : List LedgerLine → List LedgerLine → Type 0
Begins ls ms = ((more : List LedgerLine) × (ms ≡ ls ++ more)) ⊎ ((l : LedgerLine) × (more : List LedgerLine) × (ls ≡ ms ++ l ∷ more))

begins_more : (l m : LedgerLine) (ls ms : List LedgerLine) → l ≡ m → Begins ls ms → Begins (l ∷ ls) (m ∷ ms)
begins_more l m ls ms same (inl (more, e)) = inl (more, ap (λ x. x ∷ ms) (sym same) ∙ ap (λ xs. l ∷ xs) e)
begins_more l m ls ms same (inr (k, more, e)) = inr (k, more, ap (λ x. x ∷ ls) same ∙ ap (λ xs. m ∷ xs) e)

module _ (h : Heading) (bytes : List ℕ) (es : List Entry) (r : Reading) (read : HasRead bytes es r) (same : r.kept.heading ≡ h) where
  readable : AllByRecursion (IsReadableLine h) (lines_of es)
  readable =
      let cut = is_cut es in
      let part = read.part in
      lines_readable h 0 (lines_of es) cut.filled cut.in_turn (let short = part.short in let whole = ap length cut.whole in omega (arith, short, whole))
      (subst (AllByRecursion (HasEntry (size_in h))) (sym cut.whole) (subst (λ g. AllByRecursion (HasEntry (size_in g)) es) same part.entries))

  -- the lines of the bytes, up to those that are left
  lines_are : lines_in bytes ≡ level_bodies 0 h.levels ++ (map process_body h.processes ++ (map (line_body h) (lines_of es) ++ (end_bodies (part_of r.kept es) ++ lines_in r.rest)))
  lines_are =
      let p : Part = part_of r.kept es in
      ap lines_in read.read ∙ lines_before (bodies_of p) r.rest (bodies_plain p read.part)
      ∙ ap (λ g. (level_bodies 0 g.levels ++ (map process_body g.processes ++ (map (line_body g) (lines_of es) ++ end_bodies p))) ++ lines_in r.rest) same
      ∙ simp append_assoc

module _ (h : Heading) (few : length h.levels ≤ 12) (names : list_all (λ p. is_name p.name) h.processes ≡ true) (own : HaveOwnNames h) where
  -- lines whose texts begin one list
  begins : (ls ms : List LedgerLine) (x y : List (List ℕ)) → AllByRecursion (IsReadableLine h) ls → AllByRecursion (IsReadableLine h) ms
      → map (line_body h) ls ++ x ≡ map (line_body h) ms ++ y → Begins ls ms
  begins [] ms x y all most e = inl (ms, refl)
  begins (l ∷ ls) [] x y all most e = inr (l, ls, refl)
  begins (l ∷ ls) (m ∷ ms) x y all most e =
      begins_more l m ls ms (one_line h few names own l m all.0 most.0 (first_same e)) (begins ls ms x y all.1 most.1 (rest_same e))

abbrev first_label : List Entry → Label
first_label [] = Label.Idle
first_label (e ∷ es) = e.label

first_in_line : (label : Label) (event : Option Event) (n : ℕ) (rest : List Entry)
    → first_label ((replicate n (record { label = label; event = None }) ++ record { label = label; event = event } ∷ []) ++ rest) ≡ label
first_in_line label event zero rest = refl
first_in_line label event (suc n) rest = refl

apart_as : (o : Option LedgerLine) (m l : LedgerLine) → m.label ≡ l.label → IsApart o m → IsApart o l
apart_as None m l same h = tt
apart_as (Some b) m l same h = subst (λ x. joins b.label b.event x ≡ false) same h

module _ (bytes : List ℕ) (old new : Reading) (line : LedgerLine) (some : 0 < line.count) where
  length_line : length (entries_of line) ≡ line.count
  length_line = length-entries line some

  -- the lines behind es, of which the entries are those of the line, begin with its label
  apart_behind : (es : List Entry) (more : List LedgerLine) → lines_of (es ++ entries_of line) ≡ lines_of es ++ more → IsApart (last_of (lines_of es)) line
  apart_behind es more e =
      let cut = is_cut es in
      let all = is_cut (es ++ entries_of line) in
      let entries : flat_map entries_of more ≡ entries_of line =
      append_cancel_left es (flat_map entries_of more) (entries_of line)
      (ap (λ t. t ++ flat_map entries_of more) (sym cut.whole) ∙ sym (flat_map-append entries_of (lines_of es) more) ∙ ap (flat_map entries_of) (sym e) ∙ all.whole) in
      let apart : AreApart (lines_of es ++ more) = subst AreApart e all.apart in
      go more entries apart
    where
      go : (more : List LedgerLine) → flat_map entries_of more ≡ entries_of line → AreApart (lines_of es ++ more) → IsApart (last_of (lines_of es)) line
      go [] entries apart = absurd (let count = ap length entries in let own = length_line in omega (arith, count, own, some))
      go (m ∷ rest) entries apart =
          let label : m.label ≡ line.label =
          sym (first_in_line m.label m.event (m.count - 1) (flat_map entries_of rest)) ∙ ap first_label (entries ∙ sym (append-nil (entries_of line)))
          ∙ first_in_line line.label line.event (line.count - 1) [] in
          apart_as (last_of (lines_of es)) m line label (stands_apart (lines_of es) m rest apart)

  -- no more lines than those of more entries
  not_longer : (es : List Entry) (l : LedgerLine) (more : List LedgerLine) → lines_of es ≡ lines_of (es ++ entries_of line) ++ l ∷ more → ⊥
  not_longer es l more e =
      let cut = is_cut es in
      let all = is_cut (es ++ entries_of line) in
      let entries : es ≡ (es ++ entries_of line) ++ flat_map entries_of (l ∷ more) =
      sym cut.whole ∙ ap (flat_map entries_of) e ∙ flat_map-append entries_of (lines_of (es ++ entries_of line)) (l ∷ more)
      ∙ ap (λ t. t ++ flat_map entries_of (l ∷ more)) all.whole in
      let count = ap length entries in
      let a = length-append (es ++ entries_of line) (flat_map entries_of (l ∷ more)) in
      let b = length-append es (entries_of line) in
      let own = length_line in
      omega (arith, count, a, b, own, some)

  apart_with : (h : Heading) (es : List Entry) → HasRead bytes es old → HasRead bytes (es ++ entries_of line) new → old.kept.heading ≡ h → new.kept.heading ≡ h
      → IsApart (last_of (lines_of es)) line
  apart_with h es read later is is2 =
      let printable = header_printable bytes es old read in
      let few : length h.levels ≤ 12 = subst (λ (g : Heading). length g.levels ≤ 12) is printable.levels in
      let names : list_all (λ p. is_name p.name) h.processes ≡ true = subst (λ (g : Heading). list_all (λ p. is_name p.name) g.processes ≡ true) is printable.names in
      let own : HaveOwnNames h = subst HaveOwnNames is read.part.own_names in
      let both = sym (lines_are h bytes es old read is) ∙ lines_are h bytes (es ++ entries_of line) new later is2 in
      let processes = append_cancel_left (level_bodies 0 h.levels) _ _ both in
      let lines = append_cancel_left (map process_body h.processes) _ _ processes in
      go (begins h few names own (lines_of es) (lines_of (es ++ entries_of line)) _ _ (readable h bytes es old read is) (readable h bytes (es ++ entries_of line) new later is2) lines)
    where
      go : Begins (lines_of es) (lines_of (es ++ entries_of line)) → IsApart (last_of (lines_of es)) line
      go (inl (more, e)) = apart_behind es more e
      go (inr (l, more, e)) = absurd (not_longer es l more e)

  apart_from : (es : List Entry) → HasRead bytes es old → HasRead bytes (es ++ entries_of line) new → (0 < old.kept.ticks → new.kept.heading ≡ old.kept.heading)
      → IsApart (last_of (lines_of es)) line
  apart_from [] read later heading = tt
  apart_from (e ∷ es) read later heading =
      apart_with old.kept.heading (e ∷ es) read later refl (heading (let ticks = read.ticks in omega (arith, ticks)))

  -- the lines of the entries with those of the line
  pub next_lines : (es : List Entry) → HasRead bytes es old → HasRead bytes (es ++ entries_of line) new → line.start ≡ old.kept.ticks
      → (0 < old.kept.ticks → new.kept.heading ≡ old.kept.heading) → lines_of (es ++ entries_of line) ≡ lines_of es ++ line ∷ []
  next_lines es read later start heading =
      let cut = is_cut es in
      let count = ap length cut.whole in
      let ticks = read.ticks in
      sym (only_cut (es ++ entries_of line) (lines_of es ++ line ∷ []) (record {
        whole = flat_map-append entries_of (lines_of es) (line ∷ []) ∙ ap (λ t. flat_map entries_of (lines_of es) ++ t) (append-nil (entries_of line)) ∙ ap (λ t. t ++ entries_of line) cut.whole;
        filled = filled_more (lines_of es) line cut.filled some;
        in_turn = in_turn_more 0 (lines_of es) line cut.filled cut.in_turn (omega (arith, start, ticks, count));
        apart = apart_more (lines_of es) line cut.apart (apart_from es read later heading);
      }))

  -- and so the groups
  pub next_groups : (from to : ℕ) (es : List Entry) → HasRead bytes es old → HasRead bytes (es ++ entries_of line) new → line.start ≡ old.kept.ticks
      → (0 < old.kept.ticks → new.kept.heading ≡ old.kept.heading)
      → groups from to (es ++ entries_of line) ≡ groups from to es ++ option_to_list (part_of_line from to line)
  next_groups from to es read later start heading =
      let parts : LedgerLine → List LedgerLine = λ l. option_to_list (part_of_line from to l) in
      ap (flat_map parts) (next_lines es read later start heading) ∙ flat_map-append parts (lines_of es) (line ∷ [])
      ∙ ap (λ t. groups from to es ++ t) (append-nil (parts line))

-- the reader of groups after the line
pub has_passed : (j : Journal) (gs : List LedgerLine) (from to : ℕ) (old new : Reading) (line : LedgerLine) → IsReadable j
    → HasGiven j gs (record { reading = old; from = from; to = to }) → IsGiven old new line
    → ((bytes : List ℕ) (es : List Entry) → HasRead bytes es old → HasRead bytes (es ++ entries_of line) new)
    → (0 < old.kept.ticks → new.kept.heading ≡ old.kept.heading)
    → HasPassed j gs (record { reading = old; from = from; to = to }) (record { reading = new; from = from; to = to }) line
has_passed j gs from to old new line readable before fits given heading =
    let es = before.entries in
    let later = given (text_of j) es before.read in
    let own = length_line (text_of j) old new line fits.count in
    let all = length-append es (entries_of line) in
    let some = fits.count in
    record {
      given = record {
        entries = es ++ entries_of line;
        read = later;
        given = ap (λ t. t ++ option_to_list (part_of_line from to line)) before.given
            ∙ sym (next_groups (text_of j) old new line fits.count from to es before.read later fits.start heading);
      };
      heading = (read_in_order j (es ++ entries_of line) new readable later).heading (omega (arith, own, all, some));
    }

-- all lines have been read
pub all_given : (j : Journal) (gs : List LedgerLine) (from to : ℕ) (old : Reading) (h : Heading) → IsReadable j
    → (before : HasGiven j gs (record { reading = old; from = from; to = to }))
    → ((bytes : List ℕ) (es : List Entry) → HasRead bytes es old → HasReadAll bytes es h)
    → gs ≡ groups from to j.entries
all_given j gs from to old h readable before end =
    let all = end (text_of j) before.entries before.read in
    let same = one_text (record { heading = h; entries = before.entries }) j all.readable readable all.text in
    before.given ∙ ap (λ (k : Journal). groups from to k.entries) same

-- what comes next, by what is known of a group and of the end
pub comes_next : (from to : ℕ) (j : Journal) (gs : List LedgerLine) (next : Option LedgerLine) (new : Cutting) → from ≡ new.from → to ≡ new.to
    → ((g : LedgerLine) → next ≡ Some g → HasGiven j (gs ++ g ∷ []) new)
    → ((g : LedgerLine) → next ≡ Some g → new.reading.kept.heading ≡ j.heading)
    → ((g : LedgerLine) → next ≡ Some g → IsGroupIn new.reading.kept.heading from to g)
    → (next ≡ None → gs ≡ groups from to j.entries)
    → ComesNext j gs next new
comes_next from to j gs None new is_from is_to given heading fits end =
    end refl ∙ ap (λ n. groups n to j.entries) is_from ∙ ap (λ n. groups new.from n j.entries) is_to
comes_next from to j gs (Some g) new is_from is_to given heading fits end = (
  given g refl,
  heading g refl,
  subst (λ (h : Heading). IsGroupIn h new.from new.to g) (heading g refl)
      (subst (λ n. IsGroupIn new.reading.kept.heading new.from n g) is_to (subst (λ n. IsGroupIn new.reading.kept.heading n to g) is_from (fits g refl))),
)

-- A ledger that can be read, as what a reader has read of it at its end.
as_read : (j : Journal) → IsReadable j → HasRead (text_of j) j.entries (record {
  kept = record { heading = j.heading; ticks = length j.entries; last = last_of (lines_of j.entries); ended = true };
  rest = [];
  line = suc (length (bodies_of (whole j)));
})
as_read j is = record {
  part = record {
    few_levels = is.heading.few_levels;
    levels = is.heading.levels;
    few_processes = is.heading.few_processes;
    processes = is.heading.processes;
    own_names = is.heading.own_names;
    entries = is.entries;
    short = is.short;
    last = refl;
    levels_first = λ e. absurd (let some = is.heading.some_levels in let count = ap length e in omega (arith, some, count));
    processes_first = λ e. absurd (let some = is.heading.some_processes in let count = ap length e in omega (arith, some, count));
  };
  ticks = refl;
  line = refl;
  read = text_fed j ∙ sym (append-nil (fed (bodies_of (whole j))));
}

-- The lines of what has been read are the first of the ledger's.
lines_in_order : (j : Journal) (es : List Entry) (r : Reading) → IsReadable j → HasRead (text_of j) es r → (more : List LedgerLine) × (lines_of j.entries ≡ lines_of es ++ more)
lines_in_order j [] r is read = (lines_of j.entries, refl)
lines_in_order j (e ∷ es) r is read =
    let front = read_in_order j (e ∷ es) r is read in
    let same = front.heading (omega arith) in
    let all = as_read j is in
    let printable = header_printable (text_of j) j.entries _ all in
    let both = sym (lines_are j.heading (text_of j) (e ∷ es) r read same) ∙ lines_are j.heading (text_of j) j.entries _ all refl in
    let processes = append_cancel_left (level_bodies 0 j.heading.levels) _ _ both in
    let lines = append_cancel_left (map process_body j.heading.processes) _ _ processes in
    go front.later front.entries
    (begins j.heading printable.levels printable.names is.heading.own_names (lines_of (e ∷ es)) (lines_of j.entries) _ _ (readable j.heading (text_of j) (e ∷ es) r read same) (readable j.heading (text_of j) j.entries _ all refl) lines)
  where
    go : (later : List Entry) → j.entries ≡ (e ∷ es) ++ later → Begins (lines_of (e ∷ es)) (lines_of j.entries) → (more : List LedgerLine) × (lines_of j.entries ≡ lines_of (e ∷ es) ++ more)
    go later front (inl begins) = begins
    go later front (inr (l, more, longer)) =
        let cut = is_cut (e ∷ es) in
        let all = is_cut j.entries in
        let entries : e ∷ es ≡ j.entries ++ flat_map entries_of (l ∷ more) =
        sym cut.whole ∙ ap (flat_map entries_of) longer ∙ flat_map-append entries_of (lines_of j.entries) (l ∷ more)
        ∙ ap (λ t. t ++ flat_map entries_of (l ∷ more)) all.whole in
        let none : length (flat_map entries_of (l ∷ more)) ≡ 0 =
        let count = ap length entries in
        let a = length-append j.entries (flat_map entries_of (l ∷ more)) in
        let b = ap length front in
        let d = length-append (e ∷ es) later in
        omega (arith, count, a, b, d) in
        absurd (
        let filled = (subst AreFilled longer cut.filled) in
        let some = is_filled (lines_of j.entries) l more filled in
        let own = length-entries l some in
        let both = length-append (entries_of l) (flat_map entries_of more) in
        omega (arith, none, some, own, both)
        )

pub groups_in_order : (j : Journal) (gs : List LedgerLine) (c : Cutting) → IsReadable j → HasGiven j gs c → (later : List LedgerLine) × (groups c.from c.to j.entries ≡ gs ++ later)
groups_in_order j gs c is given =
    let parts : LedgerLine → List LedgerLine = λ l. option_to_list (part_of_line c.from c.to l) in
    let lines = lines_in_order j given.entries c.reading is given.read in (
      flat_map parts lines.0,
      ap (flat_map parts) lines.1 ∙ flat_map-append parts (lines_of given.entries) lines.0 ∙ ap (λ t. t ++ flat_map parts lines.0) (sym given.given),
    )

-- A part of a line that is given is a group.
pub part_fits : (h : Heading) (from to : ℕ) (l g : LedgerLine) → l.start + l.count ≤ 10000000 → HasLabel (size_in h) l.label → HasOwnEvent (size_in h) l.label l.event
    → part_of_line from to l ≡ Some g → IsGroupIn h from to g
part_fits h from to l g short label event = go (nat_lt first last) refl
  where
    first : ℕ
    first = max l.start from

    last : ℕ
    last = min (l.start + l.count) to

    part : LedgerLine
    part = record { start = first; count = last - first; label = l.label; event = if last == l.start + l.count then l.event else None }

    own : (b : Bool) → HasOwnEvent (size_in h) l.label (if b then l.event else None)
    own true = event
    own false = tt

    is_group : first < last → IsGroupIn h from to part
    is_group less = record {
      some = omega arith;
      begins = omega arith;
      ends = omega arith;
      short = omega arith;
      label = label;
      event = own (last == l.start + l.count);
    }

    go : (b : Bool) → nat_lt first last ≡ b → (if b then Some part else None) ≡ Some g → IsGroupIn h from to g
    go true less is = let same : part ≡ g = cc in subst (IsGroupIn h from to) same (is_group (ltb-true first last less))
    go false less is = cc
