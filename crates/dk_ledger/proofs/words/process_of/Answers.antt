use Rattle.dk_ledger.proofs.Names.{ℕ, ◌≡◌, ◌∙◌, ◌<◌, List, length, sym, ap, rules, Option, Some, position, bytes_eq, ProcessLine, Heading, name_of, HaveOwnNames}
use Rattle.dk_ledger.proofs.WordBytes.{named_position}
use Rattle.dk_ledger.proofs.words.process_of.Goals as goal

found : (h : Heading) (lines : List ProcessLine) (name : List ℕ) (place : Option ℕ) → lines ≡ h.processes → place ≡ position (λ line. bytes_eq line.name name) lines → HaveOwnNames h
    → (p : ℕ) → p < length h.processes → name ≡ name_of h p → place ≡ Some p
found h lines name place same is own p l e =
    is ∙ ap (λ ps. position (λ line. bytes_eq line.name name) ps) same ∙ ap (λ n. position (λ line. bytes_eq line.name n) h.processes) e ∙ named_position h p own l

pub returns-in_err-process-clause-found : goal.returns-in_err-process-clause-found
returns-in_err-process-clause-found c = λ p l e.
    let place = found c.args.header.now c.as_slice.result.now c.args.name.now c.place_of.result (search rules) c.place_of.ensures c.requires.own_names p l e in
    c.from_residual.ensures ∙ sym c.in_err-process.was ∙ place

pub returns-clause-found : goal.returns-clause-found
returns-clause-found c = λ p l e.
    let place = found c.args.header.now c.as_slice.result.now c.args.name.now c.place_of.result (search rules) c.place_of.ensures c.requires.own_names p l e in
    sym c.in_ok-process.was ∙ place
