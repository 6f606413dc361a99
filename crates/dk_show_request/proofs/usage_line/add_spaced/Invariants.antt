use Rattle.dk_show_request.proofs.Names.{◌≡◌, ◌++◌, drop, string_bytes}
use Rattle.dk_show_request.specs.Usage.{spaced}
use Rattle.std.specs.Prelude.{map}
use Rattle.dk_show_request.proofs.usage_line.add_spaced.Given as goal

-- with the names that are left the text has all
abbrev pub invariant-loop-name : goal.invariant-loop-name
invariant-loop-name l =
    string_bytes l.text ++ spaced (map (λ w. w.now) (drop l.name-index l.names))
    ≡ string_bytes l.fn.text ++ spaced (map (λ w. w.now) l.names)
