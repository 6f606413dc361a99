use Rattle.dk_mutex.proofs.Names.{◌∙◌, List, None, ap, sym, subst, Outer, AreOuter, IsFirst, given_to}
use Rattle.arrayvec.specs.ArrayVec.{ArrayVec}
use Rattle.dk_mutex.proofs.Outers.{first-of, outer-last}
use Rattle.dk_mutex.proofs.outer.enter.Goals.{then-is_full, else-is_full}
use Rattle.dk_mutex.proofs.outer.enter.Goals as goal

pub returns : goal.returns
returns c = λ rows next were is back inner.
    let front = c.args.front.now in
    let free = given_to None c.args.mutex next in
    let first : IsFirst front.level front.holder free = subst (IsFirst front.level front.holder) (sym back) (first-of front rows is) in
    let before : AreOuter c.if-is_full.outers.items free = elim c.if-is_full.branch [
      | then-is_full w ↦ subst (λ (os : List Outer). AreOuter os free) (sym (ap (λ (v : ArrayVec Outer). v.items) w.outers-is ∙ w.clear.ensures)) tt
      | else-is_full w ↦ subst (λ (os : List Outer). AreOuter os free) (sym (ap (λ (v : ArrayVec Outer). v.items) w.outers-is)) (subst (AreOuter c.args.outers.now.items) (sym back) were)
    ] in
    subst (λ (os : List Outer). AreOuter os next) (sym c.push.ensures.items)
    (outer-last c.if-is_full.outers.items (record { mutex = c.args.mutex; level = front.level; holder = front.holder }) next before first inner)
