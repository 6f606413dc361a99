use Rattle.dk_budget.proofs.Names.{◌≡◌, ◌<◌, ◌+◌, ◌∙◌, List, ℕ, length, ap, subst, sym, sum_by, Lender, Book, ArePeriods, IsSoundLender, child_future, future_shares, main_future}
use Rattle.dk_budget.proofs.Finding.{of-row}
use Rattle.dk_budget.proofs.Keeping.{read-row, sound-row}
use Rattle.dk_budget.proofs.loans.Loans.future_shares.Goals as goal

pub main_future-requires : goal.main_future-requires
main_future-requires c =
    let b : Book = record { switch = c.self.inside.switch; periods = c.self.inside.periods.items; lenders = c.self.inside.lenders.items } in
    let row = c.index-deref-process.result in
    let is = read-row b c.args.self.now c.args.process c.deref.result.now row c.self.view_is c.deref.ensures.0 c.requires.known c.index-deref-process.is in
    let same : b.periods ≡ c.args.windows.now.periods = ap (λ (k : Book). k.periods) c.self.view_is ∙ sym c.requires.same_levels in
    record {
      periods = subst ArePeriods same c.self.invariant.periods;
      sound = subst (λ (ps : List ℕ). IsSoundLender ps row) same (sound-row b c.args.process row is c.self.invariant);
      last = subst (λ (ps : List ℕ). c.args.level < length ps) (sym c.requires.same_levels) c.requires.level;
    }

pub children_future-requires : goal.children_future-requires
children_future-requires c =
    let b : Book = record { switch = c.self.inside.switch; periods = c.self.inside.periods.items; lenders = c.self.inside.lenders.items } in
    let row = c.index-deref-process.result in
    let is = read-row b c.args.self.now c.args.process c.deref.result.now row c.self.view_is c.deref.ensures.0 c.requires.known c.index-deref-process.is in
    let seen : b.periods ≡ c.args.self.now.periods = ap (λ (k : Book). k.periods) c.self.view_is in
    record {
      periods = c.self.invariant.periods;
      same_levels = c.requires.same_levels ∙ sym seen;
      sound = sound-row b c.args.process row is c.self.invariant;
      last = subst (λ (ps : List ℕ). c.args.level < length ps) (sym seen) c.requires.level;
    }

pub returns-clause-shares : goal.returns-clause-shares
returns-clause-shares c =
    let b : Book = record { switch = c.self.inside.switch; periods = c.self.inside.periods.items; lenders = c.self.inside.lenders.items } in
    let row = c.index-deref-process.result in
    let w = c.args.windows.now in
    let j = c.args.level in
    let is = read-row b c.args.self.now c.args.process c.deref.result.now row c.self.view_is c.deref.ensures.0 c.requires.known c.index-deref-process.is in
    ap (λ n. n + c.children_future.result) c.main_future.ensures.sum
    ∙ ap (λ n. main_future w j row + n) c.children_future.ensures.sum
    ∙ sym (of-row (λ (x : Lender). main_future w j x + sum_by (child_future b.periods x.level w j) x.loans.items) b c.args.process row is)
    ∙ ap (λ (k : Book). future_shares k w c.args.process j) c.self.view_is
