use Rattle.dk_picture.proofs.Names.{◌+◌, ◌/◌, ◌≤◌, ◌∷◌, [], All, ap, subst, sym, each_added, Window, window_at}
use Rattle.std.specs.Prelude.{◌^◌}
use Rattle.std.proofs.lemmas.List.Elements.{All-push}
use Rattle.dk_picture.proofs.windows.windows_in.Goals as goal

abbrev is_small : Window → Type 0
is_small w = w.first + 2 ^ 32 ≤ 2 ^ 64

pub loop-number-preserved : goal.loop-number-preserved
loop-number-preserved c =
    let more = c.in_ok-push.ensures.items in
    let told = each_added (λ i. window_at c.args.level c.args.period (c.args.span.from / c.args.period + i) ∷ []) c.loop-number.number [] c.loop-number.windows.items c.push.new.self.items
    (c.window_at.result ∷ []) (ap (λ w. w ∷ []) c.window_at.ensures.value) more c.loop-number.invariant.0 in
    let small = All-push is_small c.loop-number.windows.items c.window_at.result c.loop-number.invariant.1 c.window_at.ensures.small in
    (told, subst (All is_small) (sym more) small)
