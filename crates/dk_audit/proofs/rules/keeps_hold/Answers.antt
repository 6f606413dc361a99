use Rattle.dk_audit.proofs.Names.{◌≡◌, ◌∙◌, List, ap, sym, Entry, held_by, innermost_left, last_locked, told, told_at, telling-ready}
use Rattle.dk_audit.proofs.Threads.{keeps-last, keeps-other}
use Rattle.dk_audit.proofs.rules.keeps_hold.Goals as goal

pub returns-then-hold_left-eq1 : goal.returns-then-hold_left-eq1
returns-then-hold_left-eq1 c =
    let p = c.args.tables.now.past in
    let same : told p ≡ p.entries = ap (λ t. told_at t p.config p.entries) c.requires in
    let left = c.hold_left.ensures (telling-ready p c.requires) ∙ ap (λ (es : List Entry). innermost_left p.config (held_by c.args.id es)) same in
    let last = c.held_by.ensures (telling-ready p c.requires) ∙ ap (λ (es : List Entry). last_locked (held_by c.args.id es)) same in
    let held = held_by c.args.id p.entries in
    keeps-last p.config held c.args.event c.ends_hold.result (sym left ∙ c.if-hold_left-eq1.true) (c.ends_hold.ensures held last)

pub returns-else-hold_left-eq1 : goal.returns-else-hold_left-eq1
returns-else-hold_left-eq1 c =
    let p = c.args.tables.now.past in
    let same : told p ≡ p.entries = ap (λ t. told_at t p.config p.entries) c.requires in
    let left = c.hold_left.ensures (telling-ready p c.requires) ∙ ap (λ (es : List Entry). innermost_left p.config (held_by c.args.id es)) same in
    keeps-other p.config (held_by c.args.id p.entries) c.args.event c.is_hold_fault.result (λ one. c.if-hold_left-eq1.false (left ∙ one)) c.is_hold_fault.ensures
