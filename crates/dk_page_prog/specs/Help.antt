-- What the program tells of itself.
use Rattle.std.specs.Prelude.{ℕ, ◌||◌, codes, List, [], ◌∷◌, Option, Some, None, if◌then◌else◌}
use Rattle.std.specs.Str.{bytes_eq}
use Rattle.dk_page_prog.specs.declared.help.TheConstants.{HELP, VERSIONS}

abbrev pub told_for : List ℕ → Option (List ℕ)
told_for word =
    if bytes_eq word (codes "help") || (bytes_eq word (codes "--help") || bytes_eq word (codes "-h")) then Some HELP.now
    else if bytes_eq word (codes "--version") then Some VERSIONS.now
    else None

-- the first word is the program's name, and isn't looked at
abbrev pub told_by : List (List ℕ) → Option (List ℕ)
told_by (me ∷ word ∷ []) = told_for word
told_by _ = None
