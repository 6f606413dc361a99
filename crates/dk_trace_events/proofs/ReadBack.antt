-- The groups of a trace can be read back: each slice has its line of the ledger.
use Rattle.std.proofs.Common.{ℕ, zero, suc, ◌+◌, ◌≡◌, ◌∙◌, ◌++◌, [], ◌∷◌, List, length, sym, ap, refl, subst, arith, codes, append_assoc, ◌≤◌}
use Rattle.std.specs.Prelude.{Bool, true, false, decimal, flat_map, max, nat_lt, Option, Some, None, if◌then◌else◌}
use Rattle.std.specs.List.{AllByRecursion}
use Rattle.std.proofs.lemmas.List.{append_cancel_left}
use Rattle.dk_config.specs.declared.TheConstants.{MAX_MUTEXES}
use Rattle.dk_certify.specs.declared.table.TableRow.{TableRow}
use Rattle.dk_trace.specs.declared.ThreadId.{ThreadId}
use Rattle.dk_trace.specs.declared.Entry.{Entry}
use Rattle.dk_ledger.specs.declared.line.LedgerLine.{LedgerLine}
use Rattle.dk_ledger.specs.Heading.{Heading}
use Rattle.dk_ledger.specs.LineText.{line_body}
use Rattle.dk_ledger.specs.Cuts.{entries_of}
use Rattle.dk_ledger.specs.Readable.{IsReadable, IsReadableHeading}
use Rattle.dk_ledger.proofs.EntryLists.{IsReadableLine}
use Rattle.std.specs.Char.{is_ascii_digit}
use Rattle.dk_ledger.proofs.NextItem.{names_fit}
use Rattle.dk_ledger.proofs.OneText.{one_line}
use Rattle.dk_groups.specs.Below.{texts_below}
use Rattle.dk_groups.specs.Groups.{groups, slice}
use Rattle.dk_groups.proofs.ListParts.{first_same, rest_same}
use Rattle.dk_groups.proofs.Readable.{groups_readable, whole_all}
use Rattle.dk_groups.proofs.Slices.{whole_slice}
use Rattle.dk_groups.proofs.Until.{decimal_digits, until}
use Rattle.dk_overrun_spans.specs.declared.overrun.Overrun.{Overrun}
use Rattle.dk_overrun_spans.specs.Overruns.{overruns}
use Rattle.dk_trace_events.specs.Texts.{texts_behind}
use Rattle.dk_trace_events.specs.Slices.{event_lines, group_objects, group_text, slice_rest}
use Rattle.dk_trace_events.specs.SlackPoints.{point_text, slack_in, slack_point, start_point}
use Rattle.dk_holds.specs.declared.holding.Holding.{Holding}
use Rattle.dk_holds.specs.Holds.{ended, holding, last_entry}
use Rattle.dk_trace_events.specs.Behind.{line_text, lines_text, past_of}
use Rattle.dk_trace_events.specs.HoldSlices.{ended_holds, hold_slice, hold_text, mutex_names, open_holds}
use Rattle.dk_trace_events.specs.LevelWindows.{level_texts}
use Rattle.dk_trace_events.specs.OverrunInstants.{is_shown, overrun_instant, overruns_text, shown_overrun}
use Rattle.dk_trace_events.specs.Names.{child_name, made_by, made_name, process_texts}
use Rattle.dk_trace_events.specs.Traces.{end_text, groups_text, head_text, objects_text, tail_text, trace_text}
use Rattle.dk_entry_words.proofs.ReadBack.{printable}
use Rattle.dk_trace_events.proofs.Safe.{is_safe, line_safe}

-- what every object with a line or a name begins with
abbrev opening : List ℕ
opening = codes "{\"args\":{\""

-- no slice of a group begins here
record NoSlice (t : List ℕ) : Type 0 where
  letter : ℕ
  behind : List ℕ
  is : t ≡ opening ++ letter ∷ behind
  other : letter ≡ 108 → ⊥
  no_point : letter ≡ 114 → ⊥

tail_no_slice : NoSlice tail_text
tail_no_slice = record { letter = 115; behind = _; is = refl; other = λ e. absurd (omega (arith, e)); no_point = λ e. absurd (omega (arith, e)) }

name_no_slice : (h : Heading) (x : Option ThreadId) (rest : List ℕ) → NoSlice rest → NoSlice (child_name h x ++ rest)
name_no_slice h None rest free = free
name_no_slice h (Some x) rest free = record { letter = 110; behind = _; is = refl; other = λ e. absurd (omega (arith, e)); no_point = λ e. absurd (omega (arith, e)) }

hold_no_slice : (h : Heading) (from last m : ℕ) (o : Option Holding) (rest : List ℕ) → NoSlice rest → NoSlice (hold_text h from last m o ++ rest)
hold_no_slice h from last m None rest free = free
hold_no_slice h from last m (Some x) rest free = go (nat_lt (max x.since from) last)
  where
    go : (b : Bool) → NoSlice ((if b then hold_slice h m x.thread (max x.since from) last else []) ++ rest)
    go true = record { letter = 109; behind = _; is = refl; other = λ e. absurd (omega (arith, e)); no_point = λ e. absurd (omega (arith, e)) }
    go false = free

mutexes_no_slice : (f : ℕ → List ℕ) → ((m : ℕ) (rest : List ℕ) → NoSlice rest → NoSlice (f m ++ rest)) → (n : ℕ) (rest : List ℕ) → NoSlice rest → NoSlice (texts_below f n ++ rest)
unfolding texts_below
mutexes_no_slice f one zero rest free = free
mutexes_no_slice f one (suc m) rest free =
    subst NoSlice (sym (append_assoc (texts_below f m) (f m) rest)) (mutexes_no_slice f one m (f m ++ rest) (one m rest free))

lines_no_slice : (h : Heading) (from : ℕ) (before ls : List LedgerLine) (rest : List ℕ) → NoSlice rest → NoSlice (texts_behind (line_text h from) before ls ++ rest)
lines_no_slice h from before [] rest free = free
lines_no_slice h from before (l ∷ ls) rest free =
    let more = texts_behind (line_text h from) (before ++ l ∷ []) ls in
    let later = more ++ rest in
    let ended_at : ℕ → Option Holding = λ m. ended m (last_entry l) (holding m (past_of before)) in
    let holds = ended_holds h from (past_of before) l in
    subst NoSlice (sym (append_assoc (made_name h l ++ holds) more rest ∙ append_assoc (made_name h l) holds later))
    (name_no_slice h (made_by l) (holds ++ later)
    (mutexes_no_slice (λ m. hold_text h from (l.start + l.count) m (ended_at m)) (λ m. hold_no_slice h from (l.start + l.count) m (ended_at m)) MAX_MUTEXES later
    (lines_no_slice h from (before ++ l ∷ []) ls rest free)))

levels_no_slice : (from to j : ℕ) (rows : List TableRow) (rest : List ℕ) → NoSlice rest → NoSlice (level_texts from to j rows ++ rest)
levels_no_slice from to j [] rest free = free
levels_no_slice from to j (row ∷ rows) rest free = record { letter = 110; behind = _; is = refl; other = λ e. absurd (omega (arith, e)); no_point = λ e. absurd (omega (arith, e)) }

one_overrun_no_slice : (b : Bool) (o : Overrun) (rest : List ℕ) → NoSlice rest → NoSlice ((if b then overrun_instant o else []) ++ rest)
one_overrun_no_slice true o rest free = record { letter = 119; behind = _; is = refl; other = λ e. absurd (omega (arith, e)); no_point = λ e. absurd (omega (arith, e)) }
one_overrun_no_slice false o rest free = free

overruns_no_slice : (from to : ℕ) (os : List Overrun) (rest : List ℕ) → NoSlice rest → NoSlice (overruns_text from to os ++ rest)
overruns_no_slice from to [] rest free = free
overruns_no_slice from to (o ∷ os) rest free =
    let more = overruns_text from to os in
    subst NoSlice (sym (append_assoc (shown_overrun from to o) more rest)) (one_overrun_no_slice (is_shown from to o) o (more ++ rest) (overruns_no_slice from to os rest free))

-- what stands behind the groups
rest_no_slice : (h : Heading) (from to : ℕ) (os : List Overrun) (ls : List LedgerLine) → NoSlice (lines_text h from ls ++ (open_holds h from to (past_of ls) ++ end_text from to h os))
rest_no_slice h from to os ls =
    lines_no_slice h from [] ls (open_holds h from to (past_of ls) ++ end_text from to h os)
    (mutexes_no_slice (λ m. hold_text h from to m (holding m (past_of ls))) (λ m. hold_no_slice h from to m (holding m (past_of ls))) MAX_MUTEXES (end_text from to h os)
    (overruns_no_slice from to os (level_texts from to 0 h.levels ++ tail_text) (levels_no_slice from to 0 h.levels tail_text tail_no_slice)))

-- a group's text begins with its line
abbrev behind_line : Heading → List LedgerLine → LedgerLine → List ℕ → List ℕ
behind_line h before g r = slice_rest g ++ (event_lines g g.event ++ (slack_point before g ++ r))

opened : (h : Heading) (before : List LedgerLine) (g : LedgerLine) (r : List ℕ)
    → group_objects h before g ++ r ≡ codes "{\"args\":{\"line\":\"" ++ (line_body h g ++ behind_line h before g r)
opened h before g r =
    let later = slack_point before g ++ r in
    append_assoc (group_text h g) (slack_point before g) r
    ∙ append_assoc (codes "{\"args\":{\"line\":\"" ++ (line_body h g ++ slice_rest g)) (event_lines g g.event) later
    ∙ ap (λ t. codes "{\"args\":{\"line\":\"" ++ t) (append_assoc (line_body h g) (slice_rest g) (event_lines g g.event ++ later))

module _ (h : Heading) (is : IsReadableHeading h) where
  no_group : (before : List LedgerLine) (g : LedgerLine) (r t : List ℕ) → NoSlice t → t ≡ group_objects h before g ++ r → ⊥
  no_group before g r t free e =
      let both = sym free.is ∙ e ∙ opened h before g r in
      let letters = append_cancel_left opening (free.letter ∷ free.behind) (codes "line\":\"" ++ (line_body h g ++ behind_line h before g r)) both in
      free.other (first_same letters)

  groups_same : (before gs ks : List LedgerLine) (r s : List ℕ) → AllByRecursion (IsReadableLine h) gs → AllByRecursion (IsReadableLine h) ks → NoSlice r → NoSlice s
      → texts_behind (group_objects h) before gs ++ r ≡ texts_behind (group_objects h) before ks ++ s → gs ≡ ks
  groups_same before [] [] r s pg pk nr ns e = refl
  groups_same before [] (k ∷ ks) r s pg pk nr ns e =
      let later = texts_behind (group_objects h) (before ++ k ∷ []) ks in
      absurd (no_group before k (later ++ s) r nr (e ∙ append_assoc (group_objects h before k) later s))
  groups_same before (g ∷ gs) [] r s pg pk nr ns e =
      let later = texts_behind (group_objects h) (before ++ g ∷ []) gs in
      absurd (no_group before g (later ++ r) s ns (sym e ∙ append_assoc (group_objects h before g) later r))
  groups_same before (g ∷ gs) (k ∷ ks) r s pg pk nr ns e =
      let texts : LedgerLine → List LedgerLine → List ℕ = λ x xs. texts_behind (group_objects h) (before ++ x ∷ []) xs in
      let more = texts g gs ++ r in
      let rest = texts k ks ++ s in
      let whole : group_objects h before g ++ more ≡ group_objects h before k ++ rest =
      sym (append_assoc (group_objects h before g) (texts g gs) r) ∙ e ∙ append_assoc (group_objects h before k) (texts k ks) s in
      let bodies = append_cancel_left (codes "{\"args\":{\"line\":\"") (line_body h g ++ behind_line h before g more) (line_body h k ++ behind_line h before k rest)
      (sym (opened h before g more) ∙ whole ∙ opened h before k rest) in
      let line = (until is_safe (line_body h g) (line_body h k) 34 34 _ _ (line_safe h (printable h is) g) (line_safe h (printable h is) k) refl refl bodies).0 in
      let same : g ≡ k = one_line h is.few_levels (names_fit (length h.levels) h.processes is.processes) is.own_names g k pg.0 pk.0 line in
      let later = append_cancel_left (group_objects h before k) (texts k gs ++ r) rest
      (ap (λ x. group_objects h before x ++ (texts x gs ++ r)) (sym same) ∙ whole) in
      ap (λ t. t ∷ gs) same ∙ ap (λ ts. k ∷ ts) (groups_same (before ++ k ∷ []) gs ks r s pg.1 pk.1 nr ns later)

-- where the counter begins, taken apart before its tick
abbrev before_tick : List ℕ
before_tick = codes "{\"args\":{\"reclaimed\":" ++ decimal 0 ++ codes ",\"timeline\":" ++ decimal 0 ++ codes "},\"name\":\"slack\",\"ph\":\"C\",\"pid\":1,\"ts\":"

no_start : (g : LedgerLine) (r t : List ℕ) → NoSlice t → t ≡ start_point (Some g) ++ r → ⊥
no_start g r t free e =
    let behind = codes "reclaimed\":" ++ decimal 0 ++ codes ",\"timeline\":" ++ decimal 0 ++ codes "},\"name\":\"slack\",\"ph\":\"C\",\"pid\":1,\"ts\":" ++ decimal g.start ++ codes "},\n" in
    let letters = append_cancel_left opening (free.letter ∷ free.behind) (behind ++ r) (sym free.is ∙ e) in
    free.no_point (first_same letters)

start_taken : (tick : ℕ) (r : List ℕ) → point_text tick (slack_in []) ++ r ≡ before_tick ++ (decimal tick ++ (codes "},\n" ++ r))
start_taken tick r = append_assoc (before_tick ++ decimal tick) (codes "},\n") r ∙ append_assoc before_tick (decimal tick) (codes "},\n" ++ r)

-- what stands behind where the counter begins
starts_same : (a b : ℕ) (r s : List ℕ) → a ≤ 10000000 → b ≤ 10000000 → point_text a (slack_in []) ++ r ≡ point_text b (slack_in []) ++ s → r ≡ s
starts_same a b r s few most e =
    let ticks = append_cancel_left before_tick (decimal a ++ (codes "},\n" ++ r)) (decimal b ++ (codes "},\n" ++ s)) (sym (start_taken a r) ∙ e ∙ start_taken b s) in
    rest_same (rest_same (rest_same (until is_ascii_digit (decimal a) (decimal b) 125 125 _ _ (decimal_digits a (omega (arith, few))) (decimal_digits b (omega (arith, most))) refl refl ticks).1))

objects_same : (h : Heading) (gs ks : List LedgerLine) (r s : List ℕ) → AllByRecursion (IsReadableLine h) gs → AllByRecursion (IsReadableLine h) ks → NoSlice r → NoSlice s
    → groups_text h gs ++ r ≡ groups_text h ks ++ s → objects_text h gs ++ r ≡ objects_text h ks ++ s
objects_same h [] [] r s pg pk nr ns e = e
objects_same h [] (k ∷ ks) r s pg pk nr ns e =
    let later = objects_text h (k ∷ ks) in
    absurd (no_start k (later ++ s) r nr (e ∙ append_assoc (point_text k.start (slack_in [])) later s))
objects_same h (g ∷ gs) [] r s pg pk nr ns e =
    let later = objects_text h (g ∷ gs) in
    absurd (no_start g (later ++ r) s ns (sym e ∙ append_assoc (point_text g.start (slack_in [])) later r))
objects_same h (g ∷ gs) (k ∷ ks) r s pg pk nr ns e =
    let mine = objects_text h (g ∷ gs) in
    let other = objects_text h (k ∷ ks) in
    let short = pg.0.short in
    let few = pk.0.short in
    starts_same g.start k.start (mine ++ r) (other ++ s) (omega (arith, short)) (omega (arith, few))
    (sym (append_assoc (point_text g.start (slack_in [])) mine r) ∙ e ∙ append_assoc (point_text k.start (slack_in [])) other s)

-- two ledgers of one header whose traces of these ranges are the same have the same entries in them
pub traces_same : (h : Heading) (from to lo hi : ℕ) (es fs : List Entry) → IsReadable (record { heading = h; entries = es }) → IsReadable (record { heading = h; entries = fs })
    → trace_text from to h es ≡ trace_text lo hi h fs → slice from to es ≡ slice lo hi fs
traces_same h from to lo hi es fs is other e =
    let behind_head = append_cancel_left head_text _ _ e in
    let behind_names = append_cancel_left (mutex_names ++ process_texts 0 h.processes) _ _ behind_head in
    let mine = groups_readable h from to es is in
    let others = groups_readable h lo hi fs other in
    let free = rest_no_slice h from to (overruns h es) (groups 0 to es) in
    let frees = rest_no_slice h lo hi (overruns h fs) (groups 0 hi fs) in
    let objects = objects_same h (groups from to es) (groups lo hi fs) _ _ mine others free frees behind_names in
    let same = groups_same h is.heading [] (groups from to es) (groups lo hi fs) _ _ mine others free frees objects in
    sym (whole_slice from to es) ∙ ap (flat_map entries_of) same ∙ whole_slice lo hi fs

pub one_to_one : (h : Heading) (es fs : List Entry) → IsReadable (record { heading = h; entries = es }) → IsReadable (record { heading = h; entries = fs })
    → trace_text 0 (length es) h es ≡ trace_text 0 (length fs) h fs → es ≡ fs
one_to_one h es fs is other e = sym (whole_all es) ∙ traces_same h 0 (length es) 0 (length fs) es fs is other e ∙ whole_all fs
