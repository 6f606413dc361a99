use Rattle.std.proofs.Common.{ℕ, ◌+◌, List, [], ◌∷◌, ◌∙◌, ap, drop, map, string_bytes, subst, sym}
use Rattle.std.proofs.lemmas.List.{map-append}
use Rattle.std.specs.Prelude.{IfSome}
use Rattle.dk_edge.specs.Words.{IsFirst}
use Rattle.dk_edge.specs.declared.words.Word.{Word}
use Rattle.dk_edge.proofs.WordsLemmas.{GatheredIf, goes_on}
use Rattle.dk_edge.proofs.words.words_of.Goals as goal

pub loop-number-preserved : goal.loop-number-preserved
loop-number-preserved g c =
    let told = g.W.Words.told c.args.given.now in
    let number = c.loop-number.number in
    let words = c.loop-number.words.items in
    let word = c.in-Text.word in
    let is = subst (λ (w : Word). IfSome told (λ all. IsFirst (drop number all) w)) c.in-Text.is c.in_ok-word.ensures in
    subst (λ (found : List (List ℕ)). GatheredIf told (number + 1) found)
    (sym (ap (λ ws. map string_bytes ws) c.in_ok-push-in-Text.ensures.items ∙ map-append string_bytes words (word ∷ [])))
    (goes_on told number (map string_bytes words) (string_bytes word) c.loop-number.invariant is)
