use Rattle.dk_mutex.proofs.Names.{◌≡◌, ◌-◌, List, Some, length, refl, slice_get, subst, sym, Outer}
use Rattle.dk_mutex.proofs.Outers.{outer-newest}
use Rattle.dk_mutex.proofs.outer.newest.Goals as goal

pub returns-in-Some : goal.returns-in-Some
returns-in-Some c = λ rows are.
    let outers = c.args.outers.now.items in
    let is : slice_get outers (length outers - 1) ≡ Some c.in-Some.outer.now =
    subst (λ (os : List Outer). slice_get os (length os - 1) ≡ Some c.in-Some.outer.now) c.as_slice.ensures.value (sym c.in-Some.ensures.value) in
    outer-newest outers rows are (length outers - 1) c.in-Some.outer.now refl is
