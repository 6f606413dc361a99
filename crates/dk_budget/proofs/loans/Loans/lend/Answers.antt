use Rattle.dk_budget.proofs.Names.{◌≡◌, ◌∙◌, ℕ, None, length, refl, sym, ap, arith, Loan, Book, changed_at, lent_to}
use Rattle.dk_budget.proofs.Keeping.{lent-written, read-row, refusal-of, sound-row}
use Rattle.dk_budget.proofs.loans.Loans.lend.Goals as goal

pub invariant_of-self : goal.invariant_of-self
invariant_of-self c =
    let b : Book = record { switch = c.self.inside.switch; periods = c.self.inside.periods.items; lenders = c.self.inside.lenders.items } in
    let row = c.index-deref-process.result in
    let l : Loan = record { serial = c.args.serial; level = c.args.level; quota = c.args.quota; start = c.end-start.result; end = None } in
    let is = read-row b c.args.self.now c.args.process c.deref.result.now row c.self.view_is c.deref.ensures.0 c.requires.known c.index-deref-process.is in
    let all = lent-written b c.args.self.now c.args.process l c.deref_mut.result.now row c.index-deref_mut-process.result c.add.new.self c.self.view_is
    c.deref_mut.ensures.value is c.add.ensures c.self.invariant c.in_default.ensures.level c.in_default.ensures.room c.in_default.ensures.covered in
    all.sound

pub returns : goal.returns
returns c =
    let b : Book = record { switch = c.self.inside.switch; periods = c.self.inside.periods.items; lenders = c.self.inside.lenders.items } in
    let row = c.index-deref-process.result in
    let l : Loan = record { serial = c.args.serial; level = c.args.level; quota = c.args.quota; start = c.end-start.result; end = None } in
    let is = read-row b c.args.self.now c.args.process c.deref.result.now row c.self.view_is c.deref.ensures.0 c.requires.known c.index-deref-process.is in
    let all = lent-written b c.args.self.now c.args.process l c.deref_mut.result.now row c.index-deref_mut-process.result c.add.new.self c.self.view_is
    c.deref_mut.ensures.value is c.add.ensures c.self.invariant c.in_default.ensures.level c.in_default.ensures.room c.in_default.ensures.covered in
    let with_start : ℕ → Loan = λ s. record { serial = c.args.serial; level = c.args.level; quota = c.args.quota; start = s; end = None } in (
      refusal-of b c.args.self.now c.args.process c.args.level c.args.quota c.args.entry c.args.instructions row c.self.view_is is ∙ sym c.in_default.ensures.refused,
      c.end-start.ensures,
      all.view ∙ ap (λ (s : ℕ). changed_at c.args.process (lent_to (with_start s)) c.args.self.now) c.end-start.ensures,
    )

pub lend_refusal-requires-clause-switch : goal.lend_refusal-requires-clause-switch
lend_refusal-requires-clause-switch c = c.self.invariant.switch

pub lend_refusal-requires-clause-periods : goal.lend_refusal-requires-clause-periods
lend_refusal-requires-clause-periods c = c.self.invariant.periods

pub lend_refusal-requires-clause-lender : goal.lend_refusal-requires-clause-lender
lend_refusal-requires-clause-lender c =
    let b : Book = record { switch = c.self.inside.switch; periods = c.self.inside.periods.items; lenders = c.self.inside.lenders.items } in
    let row = c.index-deref-process.result in
    let is = read-row b c.args.self.now c.args.process c.deref.result.now row c.self.view_is c.deref.ensures.0 c.requires.known c.index-deref-process.is in
    sound-row b c.args.process row is c.self.invariant

pub returns-in-Some : goal.returns-in-Some
returns-in-Some c =
    let b : Book = record { switch = c.self.inside.switch; periods = c.self.inside.periods.items; lenders = c.self.inside.lenders.items } in
    let row = c.index-deref-process.result in
    let is = read-row b c.args.self.now c.args.process c.deref.result.now row c.self.view_is c.deref.ensures.0 c.requires.known c.index-deref-process.is in (
      refusal-of b c.args.self.now c.args.process c.args.level c.args.quota c.args.entry c.args.instructions row c.self.view_is is ∙ sym c.in-Some.ensures.refused,
      refl,
    )

pub end-start-requires : goal.end-start-requires
end-start-requires c =
    let b : Book = record { switch = c.self.inside.switch; periods = c.self.inside.periods.items; lenders = c.self.inside.lenders.items } in
    let row = c.index-deref-process.result in
    let is = read-row b c.args.self.now c.args.process c.deref.result.now row c.self.view_is c.deref.ensures.0 c.requires.known c.index-deref-process.is in
    let same : length b.periods ≡ length c.args.windows.now.periods = ap (λ (k : Book). length k.periods) c.self.view_is ∙ sym (ap length c.requires.same_levels) in
    omega (arith, c.in_default.ensures.level, (sound-row b c.args.process row is c.self.invariant).reach, same)
