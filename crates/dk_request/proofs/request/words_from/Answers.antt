use Rattle.dk_request.proofs.Names.{◌≤◌, ◌-◌, ◌∙◌, arith, ap, sym, drop, length, map, string_bytes, length-drop, drop-map, take_all}
use Rattle.dk_request.proofs.request.words_from.Goals as goal

pub returns-then-place-words : goal.returns-then-place-words
returns-then-place-words c =
    let ws = c.args.words.now in
    let n = c.args.place in
    let all : length (drop n ws) ≤ length ws - n = omega (arith, length-drop n ws) in
    ap (map string_bytes) (take_all (length ws - n) (drop n ws) all) ∙ sym (drop-map string_bytes n ws)
