use Rattle.std.proofs.Common.{◌≡◌, ◌++◌, drop, flat_map}
use Rattle.dk_html.specs.Escaping.{escaped_byte}
use Rattle.dk_html.proofs.escaping.add_escaped.Given as goal

-- what is written so far, before the names of the bytes that are left
abbrev pub invariant-loop-byte : goal.invariant-loop-byte
invariant-loop-byte l =
    l.out.items ++ flat_map escaped_byte (drop l.byte-index l.text) ≡ l.initial.out.items ++ flat_map escaped_byte l.text
