use Rattle.dk_show_request.proofs.Names.{◌≡◌, drop, find, bytes_eq, form_lent, Form}
use Rattle.std.specs.Prelude.{map}
use Rattle.dk_show_request.proofs.forms.found.Given as goal

-- it is among the rows that are left
abbrev pub invariant-loop-row : goal.invariant-loop-row
invariant-loop-row l =
    find (λ (f : Form). bytes_eq f.word l.word) (map form_lent (drop l.row-index l.rows)) ≡ find (λ (f : Form). bytes_eq f.word l.word) (map form_lent l.rows)
