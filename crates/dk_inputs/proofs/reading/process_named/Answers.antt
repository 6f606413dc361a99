use Rattle.dk_inputs.proofs.Names.{◌≡◌, ◌∙◌, List, ap, refl, rules, sym, None, position, bytes_eq, ProcessRow, found_process}
use Rattle.dk_inputs.proofs.reading.process_named.Goals as goal

pub returns-in-None-clause-found : goal.returns-in-None-clause-found
returns-in-None-clause-found c =
    let none : c.row_named.result ≡ None = search rules in
    let rows : c.as_slice.result.now ≡ c.args.config.now.processes = search rules in
    (refl, λ quiet. ap (λ (rs : List ProcessRow). found_process (position (λ (row : ProcessRow). bytes_eq row.name c.args.name.now) rs)) (sym rows) ∙ ap found_process (sym c.row_named.ensures.found ∙ none))
