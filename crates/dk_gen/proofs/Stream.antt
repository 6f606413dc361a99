-- The stream from a later state on is the rest of the stream.
use Rattle.std.proofs.Common.{◌≡◌, ◌∙◌, ◌<◌, ◌+◌, ◌*◌, ◌/◌, ◌%◌, ◌^◌, ℕ, zero, suc, arith, refl, ap}
use Rattle.std.proofs.Math.Nat.{mod-add-mod}
use Rattle.dk_gen.specs.Draws.{state, draw}

-- one draw, whose product and sum wrap one after the other
pub state_first : (from number : ℕ) → from ≡ number → (from * 6364136223846793005 % 2 ^ 64 + 1442695040888963407) % 2 ^ 64 ≡ state number 1
unfolding state
state_first from number same =
    mod-add-mod (from * 6364136223846793005) (2 ^ 64) 1442695040888963407 ∙ ap (λ n. (n * 6364136223846793005 + 1442695040888963407) % 2 ^ 64) same

pub draw_first : (next number k : ℕ) → next ≡ state number 1 → next / 2 ^ 33 % k ≡ draw number 0 k
unfolding draw
draw_first next number k is = ap (λ n. n / 2 ^ 33 % k) is

pub state_none : (number : ℕ) → state number 0 ≡ number
unfolding state
state_none number = refl

pub state_later : (number a b : ℕ) → state (state number a) b ≡ state number (a + b)
unfolding state
state_later number a zero = ap (state number) (omega arith)
state_later number a (suc b) =
    ap (λ n. (n * 6364136223846793005 + 1442695040888963407) % 2 ^ 64) (state_later number a b) ∙ ap (state number) (more a b)
  where
    more : (a b : ℕ) → suc (a + b) ≡ a + suc b
    more a b = omega arith

pub draw_later : (number a b k : ℕ) → draw (state number a) b k ≡ draw number (a + b) k
unfolding draw
draw_later number a b k = ap (λ n. n / 2 ^ 33 % k) (state_later number a (suc b) ∙ ap (state number) (more a b))
  where
    more : (a b : ℕ) → a + suc b ≡ suc (a + b)
    more a b = omega arith

pub draw_below : (number place k : ℕ) → 0 < k → draw number place k < k
unfolding draw
draw_below number place k some = omega arith
