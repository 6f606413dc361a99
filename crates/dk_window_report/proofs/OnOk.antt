-- What follows from a call's result.
use Rattle.std.specs.Prelude.{Result, Ok, Err, OnOk}

pub on-ok : {A E : Type 0} (r : Result A E) (P Q : Type 0) → (P → Q) → OnOk r P → OnOk r Q
on-ok (Ok x) P Q f h = f h
on-ok (Err e) P Q f h = h
