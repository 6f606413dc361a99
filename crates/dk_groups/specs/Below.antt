-- A text for each number below another one.
use Rattle.std.specs.Prelude.{ℕ, zero, suc, ◌++◌, [], List}

-- the texts of the numbers below n, one after another
unfoldable pub texts_below : (ℕ → List ℕ) → ℕ → List ℕ
texts_below f zero = []
texts_below f (suc m) = texts_below f m ++ f m
