-- What stands before and behind a byte that a text hasn't got.
use Rattle.dk_show_request.proofs.Names.{ℕ, ◌≡◌, ◌+◌, Bool, List, [], length, ap, sym, ◌∙◌, arith}
use Rattle.std.specs.Prelude.{take, drop}
use Rattle.std.specs.List.{position_or_len, before_first, after_first}
use Rattle.std.proofs.Math.Seq.{take-length}
use Rattle.std.proofs.lemmas.List.{drop_all}

pub none_before : (p : ℕ → Bool) (w : List ℕ) → position_or_len p w ≡ length w → before_first p w ≡ w
none_before p w none = ap (λ n. take n w) none ∙ take-length w

pub none_behind : (p : ℕ → Bool) (w : List ℕ) → position_or_len p w ≡ length w → after_first p w ≡ []
none_behind p w none = drop_all (position_or_len p w + 1) w (omega (arith, none))
