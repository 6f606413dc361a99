use Rattle.dk_show_request.proofs.Names.{◌≡◌, ◌++◌, drop, string_bytes, form_lent}
use Rattle.dk_show_request.specs.Help.{help_row}
use Rattle.std.specs.Prelude.{flat_map, map}
use Rattle.dk_show_request.proofs.help.add_rows.Given as goal

-- with the commands that are left the text has all
abbrev pub invariant-loop-row : goal.invariant-loop-row
invariant-loop-row l =
    string_bytes l.text ++ flat_map help_row (map form_lent (drop l.row-index l.rows))
    ≡ string_bytes l.fn.text ++ flat_map help_row (map form_lent l.rows)
