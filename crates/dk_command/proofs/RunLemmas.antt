-- What was written of a ledger so far, and how it may go on.
use Rattle.dk_command.proofs.Names.{◌≡◌, ◌≤◌, ◌∙◌, ℕ, zero, suc, List, [], ◌∷◌, ◌++◌, length, arith, refl, ap, subst, sym, append_assoc, append-nil, length-map, SinkView, Writes, Configuration, numbers, below, row_of, rows_of, Entry, size_of, Running, trace_of, Heading, IsPrintable, header_text, line_of_row, IsNamed, ledger_line, lines_of, Drafted, IsAfter, Progress, last_of, closed_text, closing_text, last_text, end_line, entries_text, ledger_text, IfSome, IsErr, None, Ok, Workload, AreEntries, Begun, HasCountedRun, HasWritten, IsHeaderOf, Numbers, StandsFor, closed_text-append, whole_text}
use Rattle.dk_command.proofs.RunEntries.{go_on, none_yet, nothing_yet}
use Rattle.dk_command.proofs.WritingLemmas.{Writing, nothing, same_text, stopped}

-- how far a writer is after these entries
abbrev progress : List Entry → Progress
progress es = record { entries = length es; last = last_of (lines_of es) }

-- the text that is closed after some entries begins that of all
pub closed_begins : (h : Heading) (es more : List Entry) → (rest : List ℕ) × (entries_text h (es ++ more) ≡ closed_text h es ++ rest)
closed_begins h es [] = (
  last_text h (progress es).last ++ end_line (progress es).entries,
  ap (entries_text h) (append-nil es) ∙ sym (whole_text es (progress es) (record { entries = refl; last = refl }) h),
)
closed_begins h es (e ∷ more) =
    let (rest, text) = closed_begins h (es ++ e ∷ []) more in (
      closing_text h (progress es).last e ++ rest,
      ap (entries_text h) (sym (append_assoc es (e ∷ []) more)) ∙ text
          ∙ ap (λ t. t ++ rest) (closed_text-append es (progress es) (record { entries = refl; last = refl }) h e)
          ∙ append_assoc (closed_text h es) (closing_text h (progress es).last e) rest,
    )

length-numbers : (from n : ℕ) → length (numbers from n) ≡ n
length-numbers from zero = refl
length-numbers from (suc n) = ap suc (length-numbers (suc from) n)

-- the table of a configuration has a row for each level
pub length-rows_of : (c : Configuration) → length (rows_of c) ≡ length c.levels
length-rows_of c = length-map (below (length c.levels)) (row_of c) ∙ length-numbers 0 (length c.levels)

-- what the ledger of the kernel's run begins with
abbrev pub begun_at : Running → Heading → SinkView → Begun
begun_at k h sink = record { size = size_of k.config; header = h; sink = sink }

-- before the first tick nothing is written
pub begins : (k : Running) (h : Heading) (sink : SinkView) (writer : Drafted)
    → k.ticks ≡ 0 → IsPrintable h → length h.processes ≡ length k.config.processes
    → writer.progress ≡ record { entries = 0; last = None } → writer.draft ≡ None → IsAfter [] writer.progress
    → HasWritten (begun_at k h sink) h sink writer (Ok tt) (trace_of k)
begins k h sink writer start printable processes progress draft after =
    subst (HasWritten (begun_at k h sink) h sink writer (Ok tt)) (sym (nothing_yet k start)) (record {
      same = refl;
      printable = printable;
      processes = processes;
      draft = subst (λ d. IfSome d (λ text. IfSome writer.progress.last (λ l. text ≡ ledger_line h l))) (sym draft) tt;
      named = subst (λ (p : Progress). IfSome p.last (λ line. IsNamed h line.label)) (sym progress) tt;
      after = after;
      wrote = nothing sink;
    })

-- and nothing is counted
pub counts_none : (k : Running) (h : Heading) (totals : Numbers) → k.ticks ≡ 0 → IsHeaderOf k.config h → length h.levels ≡ length totals.levels → length h.processes ≡ length totals.processes
    → StandsFor totals [] → HasCountedRun (size_of k.config) totals (Ok tt) (trace_of k)
counts_none k h totals start header levels processes none =
    subst (HasCountedRun (size_of k.config) totals (Ok tt)) (sym (nothing_yet k start)) (record {
      ok = refl;
      levels = sym levels ∙ header.levels;
      processes = sym processes ∙ ap length header.processes ∙ length-map k.config.processes line_of_row;
      stands = none;
    })

module _ (h : Heading) (w : Workload) (n : ℕ) (a b : SinkView) (r s : Writing) where
  -- what is written where a write fails begins the text of a whole run
  pub cut_short : (k : ℕ) (es : List Entry) → AreEntries w k es → k ≤ n → IsErr r → IsErr s → Writes a b r (closed_text h es)
      → (all : List Entry) × AreEntries w n all × Writes a b s (entries_text h all)
  cut_short k es entries within bad also wrote =
      let (more, all) = go_on w k n es entries within in
      let (rest, text) = closed_begins h es more in
      (es ++ more, all, same_text a b s (closed_text h es ++ rest) (entries_text h (es ++ more)) (sym text) (stopped a b r s (closed_text h es) rest bad also wrote))

  -- also where it is one of the header's
  pub header_cut : IsErr r → IsErr s → Writes a b r (header_text h) → (all : List Entry) × AreEntries w n all × Writes a b s (ledger_text h all)
  header_cut bad also wrote =
      let (all, entries) = go_on w 0 n [] (none_yet w) (omega arith) in
      (all, entries, stopped a b r s (header_text h) (entries_text h all) bad also wrote)
