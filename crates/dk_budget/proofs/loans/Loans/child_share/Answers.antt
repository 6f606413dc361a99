use Rattle.dk_budget.proofs.Names.{◌≡◌, ◌<◌, ◌∙◌, length, List, ℕ, Some, None, sym, subst, ap, Book, child_share}
use Rattle.std.proofs.Common.{◌==◌}
use Rattle.dk_budget.proofs.Keeping.{read-row, sound-row}
use Rattle.dk_budget.proofs.Finding.{found-loan, present-child}
use Rattle.dk_budget.proofs.loans.Loans.child_share.Goals as goal

pub start-start-requires : goal.start-start-requires
start-start-requires c =
    let b : Book = record { switch = c.self.inside.switch; periods = c.self.inside.periods.items; lenders = c.self.inside.lenders.items } in
    let row = c.index-deref-process.result in
    let is = read-row b c.args.self.now c.args.process c.deref.result.now row c.self.view_is c.deref.ensures.0 c.requires.known c.index-deref-process.is in
    let found = found-loan b.periods row (λ l. l.serial == c.args.serial) c.in-Some.loan (sound-row b c.args.process row is c.self.invariant) (sym c.loan_of.ensures ∙ c.in-Some.is) in
    let same : b.periods ≡ c.args.windows.now.periods = ap (λ (k : Book). k.periods) c.self.view_is ∙ sym c.requires.same_levels in
    subst (λ (ps : List ℕ). c.in-Some.loan.level < length ps) same found.level

pub child_share-requires-clause-level : goal.child_share-requires-clause-level
child_share-requires-clause-level c =
    let b : Book = record { switch = c.self.inside.switch; periods = c.self.inside.periods.items; lenders = c.self.inside.lenders.items } in
    let row = c.index-deref-process.result in
    let is = read-row b c.args.self.now c.args.process c.deref.result.now row c.self.view_is c.deref.ensures.0 c.requires.known c.index-deref-process.is in
    (found-loan b.periods row (λ l. l.serial == c.args.serial) c.in-Some.loan (sound-row b c.args.process row is c.self.invariant) (sym c.loan_of.ensures ∙ c.in-Some.is)).level

pub child_share-requires-clause-short : goal.child_share-requires-clause-short
child_share-requires-clause-short c =
    let b : Book = record { switch = c.self.inside.switch; periods = c.self.inside.periods.items; lenders = c.self.inside.lenders.items } in
    let row = c.index-deref-process.result in
    let is = read-row b c.args.self.now c.args.process c.deref.result.now row c.self.view_is c.deref.ensures.0 c.requires.known c.index-deref-process.is in
    (found-loan b.periods row (λ l. l.serial == c.args.serial) c.in-Some.loan (sound-row b c.args.process row is c.self.invariant) (sym c.loan_of.ensures ∙ c.in-Some.is)).short

pub returns-in-Some : goal.returns-in-Some
returns-in-Some c =
    let b : Book = record { switch = c.self.inside.switch; periods = c.self.inside.periods.items; lenders = c.self.inside.lenders.items } in
    let row = c.index-deref-process.result in
    let is = read-row b c.args.self.now c.args.process c.deref.result.now row c.self.view_is c.deref.ensures.0 c.requires.known c.index-deref-process.is in
    c.child_share.ensures.share
    ∙ ap (child_share b.periods row.level c.in-Some.loan) c.start-start.ensures
    ∙ sym (present-child b c.args.self.now c.args.windows.now c.args.process c.args.serial row (Some c.in-Some.loan) c.self.view_is is (sym c.loan_of.ensures ∙ c.in-Some.is))

pub returns-in-None : goal.returns-in-None
returns-in-None c =
    let b : Book = record { switch = c.self.inside.switch; periods = c.self.inside.periods.items; lenders = c.self.inside.lenders.items } in
    let row = c.index-deref-process.result in
    let is = read-row b c.args.self.now c.args.process c.deref.result.now row c.self.view_is c.deref.ensures.0 c.requires.known c.index-deref-process.is in
    sym (present-child b c.args.self.now c.args.windows.now c.args.process c.args.serial row None c.self.view_is is (sym c.loan_of.ensures ∙ c.in-None.is))
