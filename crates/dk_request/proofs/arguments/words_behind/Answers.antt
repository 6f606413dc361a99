use Rattle.dk_request.proofs.Names.{◌≤◌, ◌-◌, ◌∙◌, arith, ap, sym, drop, length, map, Bor, List, ℕ, length-drop, drop-map, take_all}
use Rattle.dk_request.proofs.arguments.words_behind.Goals as goal

pub returns-then-place-words : goal.returns-then-place-words
returns-then-place-words c =
    let ws = c.as_slice-words.result.now in
    let n = c.args.place in
    let all : length (drop n ws) ≤ length ws - n = omega (arith, length-drop n ws) in
    ap (map (λ w. w.now)) (take_all (length ws - n) (drop n ws) all) ∙ sym (drop-map (λ w. w.now) n ws) ∙ ap (λ (vs : List (Bor (List ℕ))). drop n (map (λ w. w.now) vs)) c.as_slice-words.ensures.value
