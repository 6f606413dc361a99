use Rattle.dk_request.proofs.Names.{◌≡◌, ◌<◌, ◌≤◌, ◌∙◌, arith, ap, sym, length, map, get_or-map, length-map, Synopsis, with_rules}
use Rattle.dk_request.proofs.ClapRules.{add_next, all_arguments, name_at}
use Rattle.dk_request.proofs.clap_words.with_arguments.Goals as goal

pub loop-place-preserved : goal.loop-place-preserved
loop-place-preserved c =
    let s = c.args.synopsis.now in
    let given = c.synopsis.inside.names.now in
    let names : map (λ name. name.now) given ≡ s.names = ap (λ (x : Synopsis). x.names) c.synopsis.view_is in
    let same : length given ≡ length s.names = sym (length-map given (λ name. name.now)) ∙ ap length names in
    let lt : c.loop-place.place < length s.names = omega (arith, c.loop-place-test.true, same) in
    add_next s _ _ c.loop-place.place _ _ lt
    (sym (get_or-map (λ name. name.now) given c.loop-place.place _ _ c.loop-place-test.true) ∙ ap (λ ns. name_at ns c.loop-place.place) names)
    c.is_many-many.ensures c.loop-place.invariant c.in_ok-command.ensures

pub returns : goal.returns
returns c =
    let given = c.synopsis.inside.names.now in
    let names : map (λ name. name.now) given ≡ c.args.synopsis.now.names = ap (λ (x : Synopsis). x.names) c.synopsis.view_is in
    let same : length given ≡ length c.args.synopsis.now.names = sym (length-map given (λ name. name.now)) ∙ ap length names in
    let past : length c.args.synopsis.now.names ≤ c.loop-place.place = omega (arith, c.loop-place-test.false, same) in
    c.loop-place.invariant ∙ ap (with_rules c.args.synopsis.now.word) (all_arguments c.args.synopsis.now.repeats c.args.synopsis.now.names c.loop-place.place past)
