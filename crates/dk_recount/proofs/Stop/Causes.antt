-- An event that stops one child: its exit or fault, or a delete of it.
use Rattle.dk_recount.proofs.Names.{◌≡◌, ◌∙◌, inl, inr, ◌&&◌, ◌||◌, Bool, true, false, eqb, refl, sym, arith, cases_Bool, nat_tests, and-false, or-false, and-true, ThreadId, Entry, is_same, is_end, is_delete_of, does, main_of, stops, Thread, not-main-of, whose, end-plain, IsPlain, IsClosedAlone, StopsChild}
use Rattle.std.proofs.Common.{not}

pub plain : (e : Entry) (x : ThreadId) → StopsChild e x → IsPlain e.event
plain e x is = grind (arith, nat_tests, end-plain, IsPlain)

-- it stops that child and nobody else
pub stops-one : (e : Entry) (x : ThreadId) → StopsChild e x → (y : ThreadId) → stops y e ≡ is_same y x
stops-one e x is y =
    elim is.cause [
      | inl ends ↦
          let a : does is_end y e ≡ is_same y x = rw (whose y x e ends.0, ends.1) (and-true (is_same y x)) in
          let b : does is_end (main_of y) e ≡ false = rw (whose (main_of y) x e ends.0, not-main-of y x is.child) refl in
          let d : does (is_delete_of y.serial) (main_of y) e ≡ false = rw (whose (main_of y) x e ends.0, not-main-of y x is.child) refl in
          rw (a, b, d, and-false (not (eqb y.serial 0))) (or-false (is_same y x || false) ∙ or-false (is_same y x))
      | inr deleted ↦ grind (arith, nat_tests, and-false, whose)
    ]
  where
    last : (b : Bool) → (not (eqb y.serial 0) && ((b && true) && eqb y.serial x.serial)) ≡ (b && eqb y.serial x.serial)
    last b =
        elim (cases_Bool (eqb y.serial x.serial)) [
          | inl same ↦ grind (arith, nat_tests)
          | inr other ↦ rw (other, and-false (b && true), and-false (not (eqb y.serial 0))) (sym (and-false b))
        ]
      where
        tail : (b' : Bool) → ((b' && true) && true) ≡ (b' && true)
        tail true = refl
        tail false = refl

pub alone : (e : Entry) (x : Thread) → StopsChild e x.id → IsClosedAlone e x
alone e x is = inr (is.child, is.cause)
