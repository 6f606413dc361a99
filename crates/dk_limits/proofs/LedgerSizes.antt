-- How long the lines of a ledger that can be read are, and all of its text.
use Rattle.std.proofs.Common.{ℕ, suc, ◌≡◌, ◌+◌, ◌*◌, ◌^◌, ◌<◌, ◌≤◌, ◌++◌, ◌∷◌, [], List, length, arith, ap, sym, subst, inl, inr, length-append, true}
use Rattle.std.specs.Prelude.{decimal, codes, Option, Some, None}
use Rattle.std.specs.List.{AllByRecursion, list_all}
use Rattle.std.proofs.lemmas.Bool.{cases_lt}
use Rattle.std.proofs.lemmas.Bool.Decides.{nat_tests}
use Rattle.std.proofs.lemmas.Fmt.{length-decimal-le}
use Rattle.dk_config.specs.declared.TheConstants.{MAX_LEDGER_BYTES}
use Rattle.dk_config.specs.Rules.{is_name}
use Rattle.dk_isa.specs.declared.FaultKind.{FaultKind}
use Rattle.dk_trace.specs.declared.ThreadId.{ThreadId}
use Rattle.dk_trace.specs.declared.Source.{Source}
use Rattle.dk_trace.specs.declared.Work.{Work}
use Rattle.dk_trace.specs.declared.Label.{Label}
use Rattle.dk_trace.specs.declared.Refusal.{Refusal}
use Rattle.dk_trace.specs.declared.Event.{Event}
use Rattle.dk_trace.specs.Ranges.{Size, HasSource, HasLabel, HasEvent, HasOwnEvent}
use Rattle.dk_trace.specs.Refusals.{number}
use Rattle.dk_certify.specs.declared.table.TableRow.{TableRow}
use Rattle.dk_ledger.specs.declared.header.ProcessLine.{ProcessLine}
use Rattle.dk_ledger.specs.declared.line.LedgerLine.{LedgerLine}
use Rattle.dk_ledger.specs.Cuts.{AreFilled}
use Rattle.dk_ledger.specs.Heading.{Heading, header_text, level_lines, process_lines}
use Rattle.dk_ledger.specs.Ledgers.{end_line, entries_text}
use Rattle.dk_ledger.specs.Lines.{lines_of}
use Rattle.dk_ledger.specs.LineText.{event_part, event_text, fault_text, label_text, ledger_line, lines_text, source_text, thread_text, work_text}
use Rattle.dk_ledger.specs.Readable.{Journal, IsLevelRow, IsProcessLine, IsReadable, size_in, text_of}
use Rattle.dk_ledger.proofs.EntryLists.{IsReadableLine, lines_readable}
use Rattle.dk_ledger.proofs.NameLemmas.{name_short, named_short}
use Rattle.dk_ledger.proofs.OneCut.{is_cut}
use Rattle.dk_ledger.proofs.NextItem.{names_fit}
use Rattle.dk_ledger.proofs.Readings.{few_lines}

-- a text of two parts
two : (a b : List ℕ) (m n : ℕ) → length a ≤ m → length b ≤ n → length (a ++ b) ≤ m + n
two a b m n one other = omega (arith, length-append a b, one, other)

-- a number of 32 bits, and a number of two digits
word : (n : ℕ) → n < 2 ^ 32 → length (decimal n) ≤ 10
word n small = length-decimal-le 10 n (omega arith) (omega (arith, small)) (omega (arith, small))

short : (n : ℕ) → n < 100 → length (decimal n) ≤ 2
short n small = length-decimal-le 2 n (omega arith) (omega (arith, small)) (omega (arith, small))

-- the process's name, a dot and the serial
threads : (h : Heading) → list_all (λ p. is_name p.name) h.processes ≡ true → (x : ThreadId) → x.serial < 2 ^ 32 → length (thread_text h x) ≤ 27
threads h names x small =
    let name = named_short h.processes names x.process in
    let serial = word x.serial small in
    simp length-append (omega (arith, name, serial))

sources : (s : Size) → s.levels ≤ 12 → (source : Source) → HasSource s source → length (source_text source) ≤ 12
sources s few Source.Timeline has = omega arith
sources s few (Source.Reclaimed j) has = two (codes "reclaimed ") (decimal j) 10 2 (omega arith) (short j (omega (arith, has, few)))

works : (work : Work) → length (work_text work) ≤ 4
works Work.In = omega arith
works Work.Run = omega arith
works Work.Call = omega arith

module _ (h : Heading) (few : length h.levels ≤ 12) (names : list_all (λ p. is_name p.name) h.processes ≡ true) where
  labels : (label : Label) → HasLabel (size_in h) label → length (label_text h label) ≤ 51
  labels (Label.Kernel j) has = let part = two (codes "kernel ") (decimal j) 7 2 (omega arith) (short j (omega (arith, has, few))) in omega (arith, part)
  labels (Label.In x) has = let part = two (codes "in ") (thread_text h x) 3 27 (omega arith) (threads h names x has.1) in omega (arith, part)
  labels (Label.Run x) has = let part = two (codes "run ") (thread_text h x) 4 27 (omega arith) (threads h names x has.1) in omega (arith, part)
  labels (Label.Call x) has = let part = two (codes "call ") (thread_text h x) 5 27 (omega arith) (threads h names x has.1) in omega (arith, part)
  labels (Label.Out x) has = let part = two (codes "out ") (thread_text h x) 4 27 (omega arith) (threads h names x has.1) in omega (arith, part)
  labels (Label.Slack x source work) has =
      let from = sources (size_in h) few source has.1 in
      let does = works work in
      let name = named_short h.processes names x.process in
      let serial = word x.serial has.0.1 in
      simp length-append (omega (arith, from, does, name, serial))
  labels Label.Idle has = omega arith

  faults : (kind : FaultKind) → length (fault_text kind) ≤ 6
  faults kind = grind (arith, nat_tests)

  numbers : (why : Refusal) → number why < 100
  numbers why = grind (arith, nat_tests)

  events : (event : Event) → HasEvent (size_in h) event → length (event_text event) ≤ 31
  events event has = grind (arith, nat_tests, length-append, faults, numbers, word, short)

  parts : (label : Label) (event : Option Event) → HasOwnEvent (size_in h) label event → length (event_part event) ≤ 32
  parts label None has = omega arith
  parts label (Some event) has = two (codes " ") (event_text event) 1 31 (omega arith) (events event has.1)

  -- where the count has eight digits, the start is 0
  digits : (start count : ℕ) → 0 < count → start + count ≤ 10000000 → length (decimal start) + length (decimal count) ≤ 14
  digits start count some within =
      elim (cases_lt count 10000000) [
        | inl fewer ↦
            let a = length-decimal-le 7 start (omega arith) (omega (arith, some, within)) (omega (arith, some, within)) in
            let b = length-decimal-le 7 count (omega arith) (omega (arith, fewer)) (omega (arith, fewer)) in
            omega (arith, a, b)
        | inr all ↦
            let a = length-decimal-le 1 start (omega arith) (omega (arith, all, within)) (omega (arith, all, within)) in
            let b = length-decimal-le 8 count (omega arith) (omega (arith, within)) (omega (arith, within)) in
            omega (arith, a, b)
      ]

  line : (l : LedgerLine) → IsReadableLine h l → 0 < l.count → length (ledger_line h l) ≤ 100
  line l is some =
      let numbers-of = digits l.start l.count some is.short in
      let label = labels l.label is.label in
      let event = parts l.label l.event is.event in
      simp length-append (omega (arith, numbers-of, label, event))

  pub each_line : (ls : List LedgerLine) → AllByRecursion (IsReadableLine h) ls → AreFilled ls → AllByRecursion (λ l. length (ledger_line h l) ≤ 100) ls
  each_line [] all filled = tt
  each_line (l ∷ ls) all filled = (line l all.0 filled.0, each_line ls all.1 filled.1)

  all_lines : (ls : List LedgerLine) → AllByRecursion (λ l. length (ledger_line h l) ≤ 100) ls → length (lines_text h ls) ≤ 100 * length ls
  all_lines [] each = omega arith
  all_lines (l ∷ ls) each =
      let rest = all_lines ls each.1 in
      let here = each.0 in
      let both = length-append (ledger_line h l) (lines_text h ls) in
      omega (arith, rest, here, both)

  rows : (j : ℕ) (rs : List TableRow) → j + length rs ≤ 12 → AllByRecursion IsLevelRow rs → length (level_lines j rs) ≤ 100 * length rs
  rows j [] within all = omega arith
  rows j (r ∷ rs) within all =
      let rest = rows (suc j) rs (omega (arith, within)) all.1 in
      let at = short j (omega (arith, within)) in
      let a = word r.period all.0.period in
      let b = word r.demand all.0.demand in
      let d = word r.blocking all.0.blocking in
      let e = word r.spare all.0.spare in
      simp length-append (omega (arith, rest, at, a, b, d, e))

  processes : (n : ℕ) → n ≤ 12 → (ps : List ProcessLine) → AllByRecursion (IsProcessLine n) ps → length (process_lines ps) ≤ 100 * length ps
  processes n small [] all = omega arith
  processes n small (p ∷ ps) all =
      let rest = processes n small ps all.1 in
      let below = all.0.level in
      let name = name_short p.name all.0.name in
      let at = short p.level (omega (arith, below, small)) in
      let share = word p.budget all.0.budget in
      simp length-append (omega (arith, rest, name, at, share))

module _ (j : Journal) (is : IsReadable j) where
  abbrev lines : List LedgerLine
  lines = lines_of j.entries

  names : list_all (λ p. is_name p.name) j.heading.processes ≡ true
  names = names_fit (length j.heading.levels) j.heading.processes is.heading.processes

  few : length j.heading.levels ≤ 12
  few = let levels = is.heading.few_levels in omega (arith, levels)

  pub short_lines : AllByRecursion (λ l. length (ledger_line j.heading l) ≤ 100) lines
  short_lines =
      let cut = is_cut j.entries in
      let count = is.short in
      let same = ap length cut.whole in
      each_line j.heading few names lines
      (lines_readable j.heading 0 lines cut.filled cut.in_turn (omega (arith, count, same)) (subst (AllByRecursion _) (sym cut.whole) is.entries)) cut.filled

  pub text_fits : length (text_of j) ≤ MAX_LEDGER_BYTES
  text_fits =
      let cut = is_cut j.entries in
      let count = is.short in
      let same = ap length cut.whole in
      let shorter = few_lines lines cut.filled in
      let text = all_lines j.heading few names lines short_lines in
      let levels = is.heading.few_levels in
      let level-part = rows j.heading few names 0 j.heading.levels (omega (arith, levels)) is.heading.levels in
      let few_processes = is.heading.few_processes in
      let process-part = processes j.heading few names (length j.heading.levels) few j.heading.processes is.heading.processes in
      let last = two (codes "end ") (decimal (length j.entries)) 4 8 (omega arith) (length-decimal-le 8 (length j.entries) (omega arith) (omega (arith, count)) (omega (arith, count))) in
      let end = length-append (codes "end " ++ decimal (length j.entries)) (10 ∷ []) in
      let a = length-append (level_lines 0 j.heading.levels) (process_lines j.heading.processes) in
      let b = length-append (lines_text j.heading lines) (end_line (length j.entries)) in
      let whole = length-append (header_text j.heading) (entries_text j.heading j.entries) in
      omega (arith, count, same, shorter, text, levels, level-part, few_processes, process-part, last, end, a, b, whole)
