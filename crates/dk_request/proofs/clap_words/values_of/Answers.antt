use Rattle.dk_request.proofs.Names.{◌≡◌, ◌<◌, ◌++◌, ◌∙◌, arith, rules, ap, sym, [], length, map, Bor, List, ℕ, option_map, get_or-map, length-map, found_of, matched_of, raw_values, Synopsis, words_at, words_up_to}
use Rattle.dk_request.proofs.ClapReads.{first_words, words_next}
use Rattle.dk_request.proofs.ClapRules.{name_at}
use Rattle.dk_request.proofs.clap_words.values_of.Goals as goal

pub loop-name-init : goal.loop-name-init
loop-name-init c = λ ps enough found. (
    let none : map (λ (v : Bor (List ℕ)). v.now) c.new-values.result.items ≡ [] = search rules in
    none ∙ first_words c.args.synopsis.now ps c.requires)

pub loop-name-preserved : goal.loop-name-preserved
loop-name-preserved c = λ ps enough found. (
    let s = c.args.synopsis.now in
    let given = c.synopsis.inside.names.now in
    let names : map (λ name. name.now) given ≡ s.names = ap (λ (x : Synopsis). x.names) c.synopsis.view_is in
    let same : length given ≡ length s.names = sym (length-map given (λ name. name.now)) ∙ ap length names in
    let k = c.loop-name.name-index in
    let lt : k < length s.names = omega (arith, c.loop-name-test.true, same) in
    let f = found_of c.args.matches.now in
    c.in_ok-add_words.ensures (words_at s ps k)
    (ap (λ n. option_map raw_values (matched_of f n)) (sym (get_or-map (λ name. name.now) given k _ _ c.loop-name-test.true) ∙ ap (λ ns. name_at ns k) names) ∙ found k lt)
    ∙ ap (λ vs. vs ++ words_at s ps k) (c.loop-name.invariant ps enough found) ∙ sym (words_next s ps k lt))

pub returns : goal.returns
returns c = λ ps enough found. (
    let s = c.args.synopsis.now in
    let given = c.synopsis.inside.names.now in
    let names : map (λ name. name.now) given ≡ s.names = ap (λ (x : Synopsis). x.names) c.synopsis.view_is in
    let same : length given ≡ length s.names = sym (length-map given (λ name. name.now)) ∙ ap length names in
    let all : c.loop-name.name-index ≡ length s.names = omega (arith, c.loop-name-test.false, same) in
    c.loop-name.invariant ps enough found ∙ ap (words_up_to s ps) all)
