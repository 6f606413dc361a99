-- Texts of numbers that are written from the last one back.
use Rattle.std.proofs.Common.{ℕ, zero, suc, ◌≡◌, ◌∙◌, ◌<◌, ◌-◌, ◌++◌, [], List, sym, ap, refl, arith}
use Rattle.std.specs.Prelude.{Result, Ok, Err, IsErr}
use Rattle.dk_outside.specs.Views.{SinkView}
use Rattle.dk_outside.specs.Written.{Writes}
use Rattle.dk_outside.proofs.WrittenLemmas.{first_fails, second_ends}
use Rattle.dk_groups.specs.Below.{texts_below}
use Rattle.dk_groups.proofs.Texts.{nothing_written}

last_text : (f : ℕ → List ℕ) (n : ℕ) → 0 < n → texts_below f n ≡ texts_below f (n - 1) ++ f (n - 1)
unfolding texts_below
last_text f zero some = absurd (omega arith)
last_text f (suc m) some =
    let same : m ≡ suc m - 1 = omega arith in
    ap (λ k. texts_below f k ++ f k) same

pub no_texts : (f : ℕ → List ℕ) → texts_below f 0 ≡ []
unfolding texts_below
no_texts f = refl

pub one_text_more : (f : ℕ → List ℕ) (m : ℕ) → texts_below f (suc m) ≡ texts_below f m ++ f m
unfolding texts_below
one_text_more f m = refl

-- of no numbers nothing is written
pub none_written : {A E : Type 0} (f : ℕ → List ℕ) (n : ℕ) (s : SinkView) (x : A) → n ≡ 0
    → Writes {E = E} s s (Ok x) (texts_below f n)
none_written f n s x is = nothing_written s x (texts_below f n) (ap (texts_below f) is ∙ no_texts f)

-- The texts below a number are written, and then that of the last one.
module _ (f : ℕ → List ℕ) (n : ℕ) (some : 0 < n) where
  pub below_fails : {A B E F : Type 0} (old new : SinkView) (e : F) (r : Result B E) → IsErr r → Writes {A = A} old new (Err e) (texts_below f (n - 1)) → Writes old new r (texts_below f n)
  below_fails = first_fails (texts_below f (n - 1)) (f (n - 1)) (texts_below f n) (last_text f n some)

  pub last_ends : {A B E F : Type 0} (own : List ℕ) → own ≡ f (n - 1) → (old between new : SinkView) (x : A) (r : Result B E)
      → Writes {E = F} old between (Ok x) (texts_below f (n - 1)) → Writes between new r own → Writes old new r (texts_below f n)
  last_ends own is = second_ends (texts_below f (n - 1)) own (texts_below f n) (last_text f n some ∙ ap (λ t. texts_below f (n - 1) ++ t) (sym is))
