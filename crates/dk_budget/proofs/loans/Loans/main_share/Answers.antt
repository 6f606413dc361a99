use Rattle.dk_budget.proofs.Names.{◌≡◌, ◌<◌, ◌∙◌, List, ℕ, length, ap, subst, sym, start_at, Lender, Book, main_share, present_main_share}
use Rattle.dk_budget.proofs.Finding.{of-row}
use Rattle.dk_budget.proofs.Keeping.{read-row, sound-row}
use Rattle.dk_budget.proofs.loans.Loans.main_share.Goals as goal

pub start-requires : goal.start-requires
start-requires c =
    let b : Book = record { switch = c.self.inside.switch; periods = c.self.inside.periods.items; lenders = c.self.inside.lenders.items } in
    let row = c.index-deref-process.result in
    let is = read-row b c.args.self.now c.args.process c.deref.result.now row c.self.view_is c.deref.ensures.0 c.requires.known c.index-deref-process.is in
    let same : b.periods ≡ c.args.windows.now.periods = ap (λ (k : Book). k.periods) c.self.view_is ∙ sym c.requires.same_levels in
    subst (λ (ps : List ℕ). row.level < length ps) same (sound-row b c.args.process row is c.self.invariant).level

pub returns : goal.returns
returns c =
    let b : Book = record { switch = c.self.inside.switch; periods = c.self.inside.periods.items; lenders = c.self.inside.lenders.items } in
    let row = c.index-deref-process.result in
    let w = c.args.windows.now in
    let is = read-row b c.args.self.now c.args.process c.deref.result.now row c.self.view_is c.deref.ensures.0 c.requires.known c.index-deref-process.is in
    c.main_share.ensures.share
    ∙ ap (main_share row) c.start.ensures
    ∙ sym (of-row (λ (x : Lender). main_share x (start_at w x.level)) b c.args.process row is)
    ∙ ap (λ (k : Book). present_main_share k w c.args.process) c.self.view_is
