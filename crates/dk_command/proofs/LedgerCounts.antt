-- The entries of a ledger are counted line by line.
use Rattle.dk_command.proofs.Names.{ℕ, ◌≡◌, ◌∙◌, ◌-◌, ◌<◌, ◌++◌, [], ◌∷◌, List, length, sym, ap, subst, arith, length-append, IfSome, replicate, Entry, Label, thread_of, kernel_level, Size, HasLabel, LedgerLine, entries_of, Heading, header_text, Numbers, numbers_of, numbers_text, HasCounted, IsText, ledger}
use Rattle.std.proofs.Common.{None}
use Rattle.dk_request.specs.declared.output.Output.TheVariants as asked

pub known_level : (s : Size) (label : Label) (n : ℕ) → HasLabel s label → n ≡ s.levels → IfSome (kernel_level label) (λ j. j < n)
known_level s (Label.Kernel j) n known same = subst (λ m. j < m) (sym same) known
known_level s (Label.In x) n known same = tt
known_level s (Label.Run x) n known same = tt
known_level s (Label.Call x) n known same = tt
known_level s (Label.Out x) n known same = tt
known_level s (Label.Slack x source work) n known same = tt
known_level s Label.Idle n known same = tt

pub known_process : (s : Size) (label : Label) (n : ℕ) → HasLabel s label → n ≡ s.processes → IfSome (thread_of label) (λ x. x.process < n)
known_process s (Label.Kernel j) n known same = tt
known_process s (Label.In x) n known same = subst (λ m. x.process < m) (sym same) known.0
known_process s (Label.Run x) n known same = subst (λ m. x.process < m) (sym same) known.0
known_process s (Label.Call x) n known same = subst (λ m. x.process < m) (sym same) known.0
known_process s (Label.Out x) n known same = subst (λ m. x.process < m) (sym same) known.0
known_process s (Label.Slack x source work) n known same = subst (λ m. x.process < m) (sym same) known.0.0
known_process s Label.Idle n known same = tt

-- a line has entries
pub some_entries : (es : List Entry) (line : LedgerLine) → 0 < length (es ++ entries_of line)
some_entries es line =
    let all = length-append es (entries_of line) in
    let own = length-append {A = Entry} (replicate (line.count - 1) (record { label = line.label; event = None })) (record { label = line.label; event = line.event } ∷ []) in
    omega (arith, all, own)

-- what has been counted is the report
pub counted_text : (bytes : List ℕ) (h : Heading) (numbers : Numbers) (text : List ℕ) → HasCounted bytes h numbers → length h.levels ≡ length numbers.levels → length h.processes ≡ length numbers.processes
    → text ≡ header_text h ++ numbers_text h numbers → IsText (ledger bytes asked.Report) text
counted_text bytes h numbers text counted levels processes is = (
  record { heading = h; entries = counted.0 },
  counted.1.readable,
  counted.1.text,
  is ∙ ap (λ n. header_text h ++ numbers_text h n)
      (counted.2 ∙ ap (λ k. numbers_of k (length numbers.processes) counted.0) (sym levels) ∙ ap (λ k. numbers_of (length h.levels) k counted.0) (sym processes)),
)
