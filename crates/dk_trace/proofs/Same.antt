-- Names of threads that are the same.
use Rattle.dk_trace.proofs.Names.{◌≡◌, true, ap, ◌∙◌, arith, nat_tests, ThreadId, is_same}

pub make-id : (x y : ThreadId) → x.process ≡ y.process → x.serial ≡ y.serial → x ≡ y
make-id x y p s = ap (λ k. record { process = k; serial = x.serial }) p ∙ ap (λ k. record { process = y.process; serial = k }) s

pub same-id : (x y : ThreadId) → is_same x y ≡ true → x ≡ y
same-id x y h = grind (arith, nat_tests)

pub same-self : (x : ThreadId) → is_same x x ≡ true
same-self x = grind (arith, nat_tests)
