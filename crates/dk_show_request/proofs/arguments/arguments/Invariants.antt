use Rattle.dk_show_request.proofs.Names.{◌≡◌, ◌++◌, drop, string_bytes, arguments, arguments_behind}
use Rattle.std.specs.Prelude.{map}
use Rattle.dk_show_request.proofs.arguments.arguments.Given as goal

-- the arguments so far, before those among the words that are left
abbrev pub invariant-loop-word : goal.invariant-loop-word
invariant-loop-word l =
    map (λ w. w.now) l.given.items ++ arguments_behind l.form l.behind (map string_bytes (drop l.word-index l.words))
    ≡ arguments l.form (map string_bytes l.words)
