use Rattle.dk_show_request.proofs.Names.{ℕ, ◌∙◌, ◌-◌, arith, ap, sym, drop, length, List}
use Rattle.std.specs.Prelude.{map}
use Rattle.std.specs.Borrow.{Bor}
use Rattle.std.proofs.lemmas.List.{drop-map, length-drop, take_all}
use Rattle.dk_show_request.proofs.arguments.behind.Goals as goal

pub returns-then-count-given : goal.returns-then-count-given
returns-then-count-given c =
    let ws : List (Bor (List ℕ)) = c.args.given.now in
    let n = c.args.count in
    let all = take_all (length ws - n) (drop n ws) (omega (arith, length-drop n ws)) in
    ap (map (λ (w : Bor (List ℕ)). w.now)) all ∙ sym (drop-map (λ (w : Bor (List ℕ)). w.now) n ws)
