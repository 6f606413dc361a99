-- Texts that are added one behind the other.
use Rattle.dk_picture.proofs.Names.{◌≡◌, ◌∙◌, ◌+◌, ◌++◌, [], ◌∷◌, ℕ, List, refl, ap, sym, append_assoc, Result, Ok, Err, IfOk, OnOk, flat_map-append, below, each_added}
use Rattle.std.specs.Prelude.{flat_map}

-- a text under another name
pub same_text : {A E : Type 0} (f : A → List ℕ) (r : Result A E) (x y : List ℕ) → x ≡ y → IfOk r (λ s. f s ≡ x) → IfOk r (λ s. f s ≡ y)
same_text f (Ok s) x y is text = text ∙ is
same_text f (Err e) x y is text = tt

-- lists of lists, put together at once or one by one
pub flat_map-flat_map : {A B C : Type 0} (f : B → List C) (g : A → List B) (xs : List A) → flat_map (λ x. flat_map f (g x)) xs ≡ flat_map f (flat_map g xs)
flat_map-flat_map f g [] = refl
flat_map-flat_map f g (x ∷ xs) = ap (λ t. flat_map f (g x) ++ t) (flat_map-flat_map f g xs) ∙ sym (flat_map-append f (g x) (flat_map g xs))

-- the lists of the next number were added, put together
pub each_shown : {A : Type 0} (show : A → List ℕ) (f : ℕ → List A) (n : ℕ) (old between new line : List ℕ) → line ≡ flat_map show (f n) → new ≡ between ++ line
    → between ≡ old ++ flat_map show (flat_map f (below n)) → new ≡ old ++ flat_map show (flat_map f (below (n + 1)))
each_shown show f n old between new line is more so_far =
    each_added (λ i. flat_map show (f i)) n old between new line is more (so_far ∙ ap (λ t. old ++ t) (sym (flat_map-flat_map show f (below n))))
    ∙ ap (λ t. old ++ t) (flat_map-flat_map show f (below (n + 1)))

pub same_added : {A E : Type 0} (r : Result A E) (old new a b : List ℕ) → a ≡ b → OnOk r (new ≡ old ++ a) → OnOk r (new ≡ old ++ b)
same_added (Ok x) old new a b is more = more ∙ ap (λ t. old ++ t) is
same_added (Err e) old new a b is more = tt

-- three texts that are put one behind the other
pub put_three : (a b d t0 s1 t1 s2 t2 : List ℕ) → t0 ≡ a → s1 ≡ b → t1 ≡ t0 ++ s1 → s2 ≡ d → t2 ≡ t1 ++ s2 → t2 ≡ a ++ (b ++ d)
put_three a b d t0 s1 t1 s2 t2 is0 is1 put1 is2 put2 =
    put2 ∙ ap (λ t. t1 ++ t) is2 ∙ ap (λ t. t ++ d) (put1 ∙ ap (λ t. t ++ s1) is0 ∙ ap (λ t. a ++ t) is1) ∙ append_assoc a b d

pub put_four : (a b d e t0 s1 t1 s2 t2 s3 t3 : List ℕ) → t0 ≡ a → s1 ≡ b → t1 ≡ t0 ++ s1 → s2 ≡ d → t2 ≡ t1 ++ s2 → s3 ≡ e → t3 ≡ t2 ++ s3 → t3 ≡ a ++ (b ++ (d ++ e))
put_four a b d e t0 s1 t1 s2 t2 s3 t3 is0 is1 put1 is2 put2 is3 put3 =
    put3 ∙ ap (λ t. t2 ++ t) is3 ∙ ap (λ t. t ++ e) (put_three a b d t0 s1 t1 s2 t2 is0 is1 put1 is2 put2)
    ∙ append_assoc a (b ++ d) e ∙ ap (λ t. a ++ t) (append_assoc b d e)

pub ok_wider : {A E : Type 0} (r : Result A E) (P Q : A → Type 0) → ((x : A) → P x → Q x) → IfOk r P → IfOk r Q
ok_wider (Ok x) P Q wider is = wider x is
ok_wider (Err e) P Q wider is = tt
