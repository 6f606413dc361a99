use Rattle.dk_show_request.proofs.Names.{◌≡◌, drop, false, string_bytes, option_word}
use Rattle.std.specs.Prelude.{map}
use Rattle.dk_show_request.proofs.arguments.option_word.Given as goal

-- it is among the words that are left
abbrev pub invariant-loop-word : goal.invariant-loop-word
invariant-loop-word l =
    option_word l.form l.behind (map string_bytes (drop l.word-index l.words)) ≡ option_word l.form false (map string_bytes l.words)
