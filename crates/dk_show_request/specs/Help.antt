-- What help tells.
use Rattle.std.specs.Prelude.{ℕ, codes, flat_map, List, [], ◌++◌, Option, Some, None}
use Rattle.std.specs.Option.{option_map_or}
use Rattle.dk_show_request.specs.declared.table.TheConstants.{STATUSES}
use Rattle.dk_show_request.specs.Forms.{Form, form_named, forms}
use Rattle.dk_show_request.specs.Usage.{call_text}

-- how a command is called, what it is for, and an example
abbrev pub told_of : List ℕ → List ℕ → List ℕ → List ℕ
told_of call about example =
    codes "  " ++ (call ++ (codes "\n      " ++ (about ++ (codes "\n      example: deosk-show " ++ (example ++ codes "\n")))))

unfoldable pub help_row : Form → List ℕ
help_row f = told_of (call_text f) f.about f.example

-- nothing where there is none of this name
abbrev pub help_of : List ℕ → List ℕ
help_of name = option_map_or help_row (form_named name) []

-- of all commands, or of the one of this name
abbrev pub help_text : Option (List ℕ) → List ℕ
help_text None =
    codes "usage: deosk-show COMMAND WORDS\n\ncommands:\n" ++ (flat_map help_row forms ++ (codes "\n" ++ STATUSES.now))
help_text (Some name) = help_of name
