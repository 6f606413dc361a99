use Rattle.dk_mutex.proofs.Names.{List, None, subst, Outer, AreOuter, IsFirst, given_to}
use Rattle.dk_mutex.proofs.Outers.{outer-parts}
use Rattle.dk_mutex.proofs.outer.leave.Goals as goal

pub returns-then-outer-mutex-clause-outers : goal.returns-then-outer-mutex-clause-outers
returns-then-outer-mutex-clause-outers c = λ rows were.
    let left = c.pop.new.self.items in
    let parts = outer-parts left c.in-Some.outer rows (subst (λ (os : List Outer). AreOuter os rows) c.in-Some.ensures.items were) in
    subst (λ m. AreOuter left (given_to None m rows)) c.if-outer-mutex.true parts.0

pub returns-then-outer-mutex-clause-first : goal.returns-then-outer-mutex-clause-first
returns-then-outer-mutex-clause-first c = λ rows were.
    let left = c.pop.new.self.items in
    let outer = c.in-Some.outer in
    let parts = outer-parts left outer rows (subst (λ (os : List Outer). AreOuter os rows) c.in-Some.ensures.items were) in
    subst (λ m. IsFirst outer.level outer.holder (given_to None m rows)) c.if-outer-mutex.true parts.1
