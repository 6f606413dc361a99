-- The text of a report's lines, taken apart at the first one.
use Rattle.std.proofs.Common.{◌≡◌, ◌∙◌, sym, ap, refl, append_assoc, ◌≤◌, ◌+◌, ℕ, suc, add-one, List, [], ◌∷◌, ◌++◌, length, get_or, arith}
use Rattle.std.proofs.lemmas.List.{take_rest}
use Rattle.dk_ledger.specs.Heading.{Heading, ended, name_of}
use Rattle.dk_ledger.proofs.HeaderLemmas.{rest_of}
use Rattle.dk_report.specs.declared.counting.ProcessTotals.{ProcessTotals}
use Rattle.dk_report.specs.Report.{kernel_body, kernel_lines, process_body, process_lines}

pub kernel_parts : (level : ℕ) (ns : List ℕ) (d : ℕ) (text : List ℕ) → 1 ≤ length ns → text ≡ kernel_body level (get_or ns 0 d)
    → kernel_lines level ns ≡ ended text ++ kernel_lines (level + 1) (rest_of ns)
kernel_parts level [] d text h is = absurd (omega arith)
kernel_parts level (n ∷ ns) d text h is =
    ap (λ t. ended t ++ kernel_lines (suc level) ns) (sym is) ∙ ap (λ j. ended text ++ kernel_lines j ns) (sym (add-one level))
    ∙ ap (λ rest. ended text ++ kernel_lines (level + 1) rest) (sym (take_rest (n ∷ ns) 1))

pub process_parts : (h : Heading) (p : ℕ) (ts : List ProcessTotals) (d : ProcessTotals) (name text : List ℕ) → 1 ≤ length ts → name ≡ name_of h p → text ≡ process_body name (get_or ts 0 d)
    → process_lines h p ts ≡ ended text ++ process_lines h (p + 1) (rest_of ts)
process_parts h p [] d name text some named is = absurd (omega arith)
process_parts h p (t ∷ ts) d name text some named is =
    ap (λ n. ended (process_body n t) ++ process_lines h (suc p) ts) (sym named) ∙ ap (λ x. ended x ++ process_lines h (suc p) ts) (sym is)
    ∙ ap (λ j. ended text ++ process_lines h j ts) (sym (add-one p)) ∙ ap (λ rest. ended text ++ process_lines h (p + 1) rest) (sym (take_rest (t ∷ ts) 1))

-- ten pieces appended in turn
pub ten_pieces : (text a b c d e f g h i j : List ℕ) → ((((((((((text ++ a) ++ b) ++ c) ++ d) ++ e) ++ f) ++ g) ++ h) ++ i) ++ j) ≡ text ++ (((((((((a ++ b) ++ c) ++ d) ++ e) ++ f) ++ g) ++ h) ++ i) ++ j)
ten_pieces text a b c d e f g h i j = simp append_assoc refl
