use Rattle.dk_request.proofs.Names.{ℕ, ◌≡◌, ◌≤◌, List, length, map, found_of, HasWords, words_up_to}
use Rattle.dk_request.proofs.clap_words.values_of.Given as goal

-- the words of the arguments so far
abbrev pub invariant-loop-name : goal.invariant-loop-name
invariant-loop-name l =
    (ps : List (List ℕ)) → length l.synopsis.names ≤ length ps → HasWords l.synopsis ps (found_of l.matches) → map (λ v. v.now) l.values.items ≡ words_up_to l.synopsis ps l.name-index
