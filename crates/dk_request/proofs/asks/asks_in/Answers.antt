use Rattle.dk_request.proofs.Names.{ℕ, suc, ◌≡◌, ◌+◌, ◌<◌, ◌≤◌, ◌∙◌, ◌++◌, ◌∷◌, [], arith, rules, append-nil, ap, sym, map, drop, get_or, length, List, None, drop-cons, drop_all, get_or-map, length-map, ask_in, asks_in}
use Rattle.std.proofs.Common.{option_map}
use Rattle.std.specs.Prelude.{Some}
use Rattle.dk_request.proofs.AskLemmas.{next_ask, no_ask}
use Rattle.dk_request.proofs.asks.asks_in.Goals as goal

pub returns-in_default : goal.returns-in_default
returns-in_default c =
    let given = c.args.words.now in
    let ws : List (List ℕ) = map (λ w. w.now) given in
    let k = c.loop-word.word-index in
    let lt : k < length ws = omega (arith, c.loop-word-test.true, length-map given (λ w. w.now)) in
    let none : c.ask_in.result ≡ None = search rules in
    let is : ask_in (get_or ws k []) ≡ None = ap ask_in (get_or-map (λ w. w.now) given k _ _ c.loop-word-test.true) ∙ sym c.ask_in.ensures ∙ none in
    sym (no_ask c.loop-word.asks.items (get_or ws k []) (drop (suc k) ws) is)
    ∙ ap (λ vs. option_map (λ more. c.loop-word.asks.items ++ more) (asks_in vs)) (sym (drop-cons ws k [] lt)) ∙ c.loop-word.invariant

pub loop-word-preserved : goal.loop-word-preserved
loop-word-preserved c =
    let given = c.args.words.now in
    let ws : List (List ℕ) = map (λ w. w.now) given in
    let k = c.loop-word.word-index in
    let lt : k < length ws = omega (arith, c.loop-word-test.true, length-map given (λ w. w.now)) in
    let some : c.ask_in.result ≡ Some c.in-Some.ask = search rules in
    let is : ask_in (get_or ws k []) ≡ Some c.in-Some.ask = ap ask_in (get_or-map (λ w. w.now) given k _ _ c.loop-word-test.true) ∙ sym c.ask_in.ensures ∙ some in
    let one : k + 1 ≡ suc k = omega arith in
    ap (λ items. option_map (λ more. items ++ more) (asks_in (drop (k + 1) ws))) c.in_ok-push.ensures.items
    ∙ ap (λ i. option_map (λ more. (c.loop-word.asks.items ++ c.in-Some.ask ∷ []) ++ more) (asks_in (drop i ws))) one
    ∙ next_ask c.loop-word.asks.items c.in-Some.ask (get_or ws k []) (drop (suc k) ws) is
    ∙ ap (λ vs. option_map (λ more. c.loop-word.asks.items ++ more) (asks_in vs)) (sym (drop-cons ws k [] lt)) ∙ c.loop-word.invariant

pub returns : goal.returns
returns c =
    let given = c.args.words.now in
    let ws : List (List ℕ) = map (λ w. w.now) given in
    let past : length ws ≤ c.loop-word.word-index = omega (arith, c.loop-word-test.false, length-map given (λ w. w.now)) in
    ap (λ more. Some more) (sym (append-nil c.loop-word.asks.items))
    ∙ ap (λ vs. option_map (λ more. c.loop-word.asks.items ++ more) (asks_in vs)) (sym (drop_all c.loop-word.word-index ws past)) ∙ c.loop-word.invariant
