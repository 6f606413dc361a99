use Rattle.dk_margins.proofs.Names.{◌≡◌, ◌∙◌, ap, arith, length, rules, suc, take, drop, ◌+◌, ◌-◌, add-one, length-drop, take_all, can_block, row_at}
use Rattle.dk_margins.proofs.HoldRooms.{blocking-without, longest}
use Rattle.dk_margins.proofs.holds.others_delay.Goals as goal

pub returns : goal.returns
returns c =
    let config = c.args.config.now in
    let m = c.args.mutex in
    let same : c.as_slice-mutexes.result.now ≡ config.mutexes = search rules in
    let at = row_at config.mutexes m c.requires.exists in
    let is = blocking-without config m c.args.level at.0 at.1 in
    let before : c.longest_delay-before.result ≡ longest (can_block config c.args.level) (take m config.mutexes) =
    c.longest_delay-before.ensures ∙ ap (λ xs. longest (can_block config c.args.level) (take m xs)) same in
    let rows = c.as_slice-mutexes.result.now in
    let whole : take (length rows - (m + 1)) (drop (m + 1) rows) ≡ drop (m + 1) rows = take_all (length rows - (m + 1)) (drop (m + 1) rows) (simp length-drop (omega arith)) in
    let after : c.longest_delay-after.result ≡ longest (can_block config c.args.level) (drop (suc m) config.mutexes) =
    c.longest_delay-after.ensures ∙ ap (longest (can_block config c.args.level)) whole ∙ ap (λ n. longest (can_block config c.args.level) (drop n c.as_slice-mutexes.result.now)) (add-one m)
    ∙ ap (λ xs. longest (can_block config c.args.level) (drop (suc m) xs)) same in
    omega (arith, is, before, after)
