-- The entries of a ledger are counted line by line.
use Rattle.std.proofs.Common.{ℕ, ◌≡◌, ◌∙◌, ◌-◌, ◌<◌, ◌++◌, [], ◌∷◌, List, length, sym, ap, subst, arith, length-append}
use Rattle.std.specs.Prelude.{IfSome, replicate, None}
use Rattle.dk_trace.specs.declared.Entry.{Entry}
use Rattle.dk_trace.specs.declared.Label.{Label}
use Rattle.dk_trace.specs.Entries.{thread_of, kernel_level}
use Rattle.dk_trace.specs.Ranges.{Size, HasLabel}
use Rattle.dk_ledger.specs.declared.line.LedgerLine.{LedgerLine}
use Rattle.dk_ledger.specs.Cuts.{entries_of}
use Rattle.dk_ledger.specs.Heading.{Heading}
use Rattle.dk_report.specs.Counts.{Numbers, StandsFor, numbers_of}
use Rattle.dk_report.specs.Report.{numbers_text, report_text}

pub known_level : (s : Size) (label : Label) (n : ℕ) → HasLabel s label → n ≡ s.levels → IfSome (kernel_level label) (λ j. j < n)
known_level s (Label.Kernel j) n known same = subst (λ m. j < m) (sym same) known
known_level s (Label.In x) n known same = tt
known_level s (Label.Run x) n known same = tt
known_level s (Label.Call x) n known same = tt
known_level s (Label.Out x) n known same = tt
known_level s (Label.Slack x source work) n known same = tt
known_level s Label.Idle n known same = tt

pub known_process : (s : Size) (label : Label) (n : ℕ) → HasLabel s label → n ≡ s.processes → IfSome (thread_of label) (λ x. x.process < n)
known_process s (Label.Kernel j) n known same = tt
known_process s (Label.In x) n known same = subst (λ m. x.process < m) (sym same) known.0
known_process s (Label.Run x) n known same = subst (λ m. x.process < m) (sym same) known.0
known_process s (Label.Call x) n known same = subst (λ m. x.process < m) (sym same) known.0
known_process s (Label.Out x) n known same = subst (λ m. x.process < m) (sym same) known.0
known_process s (Label.Slack x source work) n known same = subst (λ m. x.process < m) (sym same) known.0.0
known_process s Label.Idle n known same = tt

-- a line has entries
pub some_entries : (es : List Entry) (line : LedgerLine) → 0 < length (es ++ entries_of line)
some_entries es line =
    let all = length-append es (entries_of line) in
    let own = length-append {A = Entry} (replicate (line.count - 1) (record { label = line.label; event = None })) (record { label = line.label; event = line.event } ∷ []) in
    omega (arith, all, own)

-- what has been counted is the report
pub counted_text : (h : Heading) (numbers : Numbers) (es : List Entry) → StandsFor numbers es → length h.levels ≡ length numbers.levels
    → length h.processes ≡ length numbers.processes → numbers_text h numbers ≡ report_text h es
counted_text h numbers es stands levels processes =
    ap (λ n. numbers_text h n)
    (stands ∙ ap (λ k. numbers_of k (length numbers.processes) es) (sym levels) ∙ ap (λ k. numbers_of (length h.levels) k es) (sym processes))
