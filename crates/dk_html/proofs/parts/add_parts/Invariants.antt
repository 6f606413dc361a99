use Rattle.std.proofs.Common.{◌≡◌, ◌++◌, drop, map}
use Rattle.dk_html.specs.Parts.{joined, part_text}
use Rattle.dk_html.proofs.parts.add_parts.Given as goal

-- the parts so far, before those that are left
abbrev pub invariant-loop-part : goal.invariant-loop-part
invariant-loop-part l =
    l.out.items ++ joined (map part_text (drop l.part-index l.parts)) ≡ l.initial.out.items ++ joined (map part_text l.parts)
