use Rattle.dk_show_request.proofs.Names.{◌≡◌, ◌++◌, drop, allotment_of}
use Rattle.std.specs.Prelude.{map}
use Rattle.dk_show_request.proofs.allotments.allotments_of.Given as goal

-- the allotments so far, before those of the words that are left
abbrev pub invariant-loop-word : goal.invariant-loop-word
invariant-loop-word l =
    l.allotments.items ++ map allotment_of (map (λ w. w.now) (drop l.word-index l.words))
    ≡ map allotment_of (map (λ w. w.now) l.words)
