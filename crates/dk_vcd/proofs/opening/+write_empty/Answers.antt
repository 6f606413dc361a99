use Rattle.std.proofs.Common.{ℕ, ◌≡◌, ◌≤◌, ◌+◌, ◌++◌, [], ◌∷◌, List, length, ap, arith, refl, rules}
use Rattle.std.specs.Prelude.{IsErr}
use Rattle.dk_outside.proofs.WrittenLemmas.{first_fails, second_ends}
use Rattle.dk_ledger.specs.declared.header.ProcessLine.{ProcessLine}
use Rattle.dk_ledger.specs.Heading.{ended}
use Rattle.dk_ledger.proofs.HeaderLemmas.{rest_of}
use Rattle.dk_groups.proofs.ProcessTexts.{parts_of}
use Rattle.dk_vcd.specs.Dumps.{empty_process, empty_processes}
use Rattle.dk_vcd.proofs.opening.+write_empty.Goals as goal

empty_parts : (at : ℕ) (ps : List ProcessLine) (own : List ℕ) → 1 ≤ length ps → own ≡ empty_process at
    → empty_processes at ps ≡ ended own ++ empty_processes (at + 1) (rest_of ps)
empty_parts at [] own h is = absurd (omega arith)
empty_parts at (q ∷ ps) own h is = parts_of (λ p l. ended (empty_process p)) empty_processes (λ p l ls. refl) at (q ∷ ps) q (ended own) h refl (ap ended is)

pub returns-in_err-write_to-in-len1-up : goal.returns-in_err-write_to-in-len1-up
returns-in_err-write_to-in-len1-up g t c =
    let parts = empty_parts c.args.process c.args.lines.now c.empty_of.result c.in-len1-up.len_at_least c.empty_of.ensures.text in
    let fails : IsErr c.from_residual.result = search rules in
    first_fails (ended c.empty_of.result) (empty_processes (c.args.process + 1) (rest_of c.args.lines.now)) (empty_processes c.args.process c.args.lines.now) parts
    _ _ _ c.from_residual.result fails c.in_err-write_to-in-len1-up.ensures

pub returns-in_ok-write_to-in-len1-up : goal.returns-in_ok-write_to-in-len1-up
returns-in_ok-write_to-in-len1-up g t c =
    let parts = empty_parts c.args.process c.args.lines.now c.empty_of.result c.in-len1-up.len_at_least c.empty_of.ensures.text in
    second_ends (ended c.empty_of.result) (empty_processes (c.args.process + 1) (rest_of c.args.lines.now)) (empty_processes c.args.process c.args.lines.now) parts
    _ _ _ _ c.write_empty.result c.in_ok-write_to-in-len1-up.ensures c.write_empty.ensures
